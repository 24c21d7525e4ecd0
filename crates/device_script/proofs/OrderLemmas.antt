-- What the boots of a script that was read have: `script_orders`. Each line keeps it of all boots so far, and of the
-- image that the next boot takes.
use Rattle.std.proofs.Common.{◌≡◌, ◌≢◌, ℕ, ◌+◌, ◌<◌, ◌≤◌, ◌&&◌, Bool, true, false, cond, List, [], ◌∷◌, ◌++◌, length}
use Rattle.std.proofs.Common.{get_or, Option, Some, None, Result, Ok, Err, refl, sym, ◌∙◌, arith}
use Rattle.std.specs.Prelude.{IfOk, IfSome, nat_le, nat_lt, ok_or, option_and_then}
use Rattle.std.specs.List.{All}
use Rattle.std.specs.Str.{bytes_eq}
use Rattle.std.specs.Str.Lines.{lines}
use Rattle.std.proofs.lemmas.List.{length-append}
use Rattle.std.proofs.lemmas.List.Elements.{All-nil, All-push}
use Rattle.std.proofs.lemmas.List.Folds.{list_any_at}
use Rattle.std.proofs.lemmas.List.Quantifiers.{all_pairs_push}
use Rattle.std.proofs.lemmas.Slice.Eq.{bytes_eq-Decides}
use Rattle.std.proofs.lemmas.Bool.{false≢true, leb-true, ltb-true}
use Rattle.apex_base.specs.declared.fault.ModuleFault.{ModuleFault}
use Rattle.apex_base.specs.declared.numbers.Scale.{Scale}
use Rattle.apex_base.specs.declared.numbers.SessionId.{SessionId}
use Rattle.apex_base.specs.Modules.{FileMap}
use Rattle.apex_base.specs.Numbers.{scale_modules}
use Rattle.apex_base.specs.Results.{◌>>=◌}
use Rattle.apex_manifest.specs.declared.manifest.Manifest.{Manifest}
use Rattle.apex_world.specs.declared.calls.Call.{Call}
use Rattle.apex_world.specs.declared.calls.Call.TheVariants as calls
use Rattle.apex_world.specs.declared.calls.Image.{Image}
use Rattle.apex_world.specs.declared.modules.Package.{Package}
use Rattle.apex_world.specs.declared.script.ScriptBoot.{ScriptBoot}
use Rattle.apex_world.specs.declared.script.Segment.{Segment}
use Rattle.apex_world.specs.Orders.{IsPackage, IsImage, IsOrder, IsWorkers, IsOrdered, HasOrders}
use Rattle.apex_world.specs.Segments.{plain_segment}
use Rattle.apex_world.specs.Soundness.{manifest_in}
use Rattle.device_script.specs.declared.block.Block.{Block}
use Rattle.device_script.specs.declared.draft.Draft.{Draft}
use Rattle.device_script.specs.declared.fault.LineFault.TheVariants.{Twice, Full, TooLong, Words}
use Rattle.device_script.specs.declared.fault.ScriptWhy.TheVariants.{Bad}
use Rattle.device_script.specs.declared.keyword.Keyword.{Keyword}
use Rattle.device_script.specs.declared.keyword.Keyword.TheVariants as keyword
use Rattle.device_script.specs.declared.words.PartWord.{PartWord}
use Rattle.device_script.specs.Blocks.{file_put, listing_put}
use Rattle.device_script.specs.Draft.{start, is_not_yet, may_stand, scale_taken, pre_taken, boot_taken, segment_taken}
use Rattle.device_script.specs.Draft.{call_taken, submit_taken, file_taken, remove_taken, seal_taken, done_taken}
use Rattle.device_script.specs.Draft.{block_becomes, taken, finished_at, finished}
use Rattle.device_script.specs.Images.{module_named, with_manifest_by, with_manifest, has_module, image_with}
use Rattle.device_script.specs.Keywords.{keyword_of}
use Rattle.device_script.specs.Lines.{read_or, two_words, scale_words, print_words, part_words, boot_words}
use Rattle.device_script.specs.Lines.{submit_words, id_words, success_words, label_words, file_words, text_said}
use Rattle.device_script.specs.Lines.{path_words, bare_words}
use Rattle.device_script.specs.Script.{is_passed, is_plain, keyword_read, word_read, line_read, lines_read, script_of}
use Rattle.device_script.specs.Words.{cut_word, is_number, number_of, time_of, decimal_value, words_of, workers_of}
use Rattle.device_script.proofs.PlayableScripts.{all_closed}
use Rattle.device_script.proofs.Steps.{tested_ok, from_ok, next_ok, at_line_ok}

-- Images

-- an image without modules
bare_image : (scale : Scale) (print : List ℕ) → IsImage scale (record { print = print; modules = [] })
bare_image scale print = record {
  names = λ i j d below within. absurd (omega (arith, within));
  count = omega arith;
  manifests = All-nil IsPackage;
}

-- where no module has the name, each has another
other_names : (modules : List Package) (name : List ℕ) → has_module modules name ≡ false → (k : ℕ) (d : Package)
    → k < length modules → (get_or modules k d).name ≢ name
other_names modules name none k d within same =
    let found =
    list_any_at (λ (m : Package). bytes_eq m.name name) modules k d within ((bytes_eq-Decides _ _).1 same) in
    false≢true (sym none ∙ found)

-- a module more, whose name and room were tested
one_more : (scale : Scale) (image : Image) (m : Package) → IsImage scale image → IsPackage m
    → has_module image.modules m.name ≡ false → length image.modules < scale_modules scale
    → IsImage scale (record image { modules = image.modules ++ m ∷ [] })
one_more scale image m p said none room = record {
  names = all_pairs_push (λ m n. m.name ≢ n.name) image.modules m p.names (other_names image.modules m.name none);
  count = omega (arith, room, length-append {A = Package});
  manifests = All-push IsPackage image.modules m p.manifests said;
}

with_by : (scale : Scale) (image : Image) (m : Package) (twice room : Bool) → has_module image.modules m.name ≡ twice
    → nat_lt (length image.modules) (scale_modules scale) ≡ room → IsImage scale image → IsPackage m
    → IfOk (cond twice (Err Twice) (cond room (Ok (record image { modules = image.modules ++ m ∷ [] })) (Err Full)))
    (IsImage scale)
with_by scale image m true room e f p said = tt
with_by scale image m false true e f p said = one_more scale image m p said e (ltb-true _ _ f)
with_by scale image m false false e f p said = tt

-- an image with a module more
with_read : (scale : Scale) (image : Image) (m : Package) → IsImage scale image → IsPackage m
    → IfOk (image_with scale image m) (IsImage scale)
with_read scale image m p said = with_by scale image m _ _ refl refl p said

said_by : (m : FileMap) (said : Result Manifest ModuleFault) → manifest_in m ≡ said
    → IfOk (with_manifest_by m said) IsPackage
said_by m (Ok manifest) e = e
said_by m (Err fault) e = tt

-- Drafts

-- without a scale there is neither module nor boot; with one, the images are as they should be
abbrev IsImaged : Option Scale → Option Image → List ScriptBoot → Option ScriptBoot → Type 0
IsImaged None image boots current = IfSome image (λ (i : Image). i.modules ≡ []) × (boots ≡ []) × (current ≡ None)
IsImaged (Some scale) image boots current =
    IfSome image (IsImage scale) × All (IsOrdered scale) boots × IfSome current (IsOrdered scale)

abbrev IsImagedDraft : Draft → Type 0
IsImagedDraft d = IsImaged d.scale d.image d.boots d.current

-- an image without modules is as it should be at any scale
bare_read : (scale : Scale) (image : Option Image) → IfSome image (λ (i : Image). i.modules ≡ [])
    → IfSome image (IsImage scale)
bare_read scale None e = tt
bare_read scale (Some i) e = rw e (bare_image scale i.print)

scale_imaged : (d : Draft) (scale : Scale) (before : Option Scale) → IsImaged before d.image d.boots d.current
    → IfOk (scale_taken d scale before) IsImagedDraft
scale_imaged d scale None p = (bare_read scale d.image p.0, rw p.1 (All-nil (IsOrdered scale)), rw p.2 tt)
scale_imaged d scale (Some before) p = tt

image_imaged : (scale : Option Scale) (print : List ℕ) (image : Option Image) (boots : List ScriptBoot)
    (current : Option ScriptBoot) → IsImaged scale image boots current
    → IsImaged scale (Some (record { print = print; modules = [] })) boots current
image_imaged None print image boots current p = (refl, p.1, p.2)
image_imaged (Some scale) print image boots current p = (bare_image scale print, p.1, p.2)

pre_imaged : (d : Draft) (part : PartWord) (scale : Option Scale) (image : Option Image) → d.scale ≡ scale
    → IsImaged scale image d.boots d.current → IfOk (pre_taken d part scale image) IsImagedDraft
unfolding pre_taken
pre_imaged d part None image same p = tt
pre_imaged d part (Some scale) None same p = tt
pre_imaged d part (Some scale) (Some image) same p =
    from_ok (module_named d.labels 2 part) _ _ (λ m. next_ok (with_manifest m) _ IsPackage _ (said_by m _ refl)
    (λ added said. next_ok (image_with scale image added) _ (IsImage scale) _ (with_read scale image added p.0 said)
    (λ i q. rw same (q, p.1, p.2))))

-- a boot's order has the last image and no observers
bare_order : (scale : Scale) (image : Image) (time : ℕ) → IsImage scale image
    → IsOrder (record { scale = scale; image = image; observers = []; time = time })
bare_order scale image time p =
    record { image = p; observers = λ i j d below within. absurd (omega (arith, within)); few = omega arith }

boot_imaged : (d : Draft) (time workers : ℕ) (scale : Option Scale) (image : Option Image) → IsWorkers workers
    → d.scale ≡ scale → d.image ≡ image → IsImaged scale image d.boots d.current
    → IfOk (boot_taken d time workers scale image) IsImagedDraft
boot_imaged d time workers None image fit same held p = tt
boot_imaged d time workers (Some scale) None fit same held p = tt
boot_imaged d time workers (Some scale) (Some image) fit same held p =
    rw (same, held) (
      p.0,
      all_closed (IsOrdered scale) d.boots d.current p.1 p.2,
      record {
        scaled = refl;
        order = bare_order scale image time p.0;
        workers = fit;
      },
    )

segment_joins : (scale : Option Scale) (image : Option Image) (boots : List ScriptBoot) (b : ScriptBoot)
    (segment : Segment) → IsImaged scale image boots (Some b)
    → IsImaged scale image boots (Some (record b { segments = b.segments ++ segment ∷ [] }))
segment_joins None image boots b segment p = absurd (cc (p.2))
segment_joins (Some scale) image boots b segment p =
    (p.0, p.1, record { scaled = p.2.scaled; order = p.2.order; workers = p.2.workers })

segment_imaged : (d : Draft) (segment : Segment) (current : Option ScriptBoot)
    → IsImaged d.scale d.image d.boots current → IfOk (segment_taken d segment current) IsImagedDraft
segment_imaged d segment None p = tt
segment_imaged d segment (Some b) p = segment_joins d.scale d.image d.boots b segment p

call_imaged : (d : Draft) (call : Call) → IsImagedDraft d → IfOk (call_taken d call) IsImagedDraft
call_imaged d call p = segment_imaged d (plain_segment call) d.current p

submit_imaged : (d : Draft) (id : SessionId) (part : PartWord) → IsImagedDraft d
    → IfOk (submit_taken d id part) IsImagedDraft
unfolding submit_taken
submit_imaged d id part p =
    from_ok (module_named d.labels 4 part) _ _ (λ m. call_imaged d (calls.Submit id [] false (m ∷ [])) p)

-- blocks change no image

file_imaged : (d : Draft) (path content : List ℕ) (block : Option Block) → IsImagedDraft d
    → IfOk (file_taken d path content block) IsImagedDraft
file_imaged d path content None p = tt
file_imaged d path content (Some block) p = from_ok (file_put block path content) (block_becomes d) _ (λ b. p)

remove_imaged : (d : Draft) (path : List ℕ) (block : Option Block) → IsImagedDraft d
    → IfOk (remove_taken d path block) IsImagedDraft
remove_imaged d path None p = tt
remove_imaged d path (Some block) p = p

seal_imaged : (d : Draft) (block : Option Block) → IsImagedDraft d → IfOk (seal_taken d block) IsImagedDraft
seal_imaged d None p = tt
seal_imaged d (Some block) p = from_ok (listing_put block) (block_becomes d) _ (λ b. p)

done_imaged : (d : Draft) (block : Option Block) → IsImagedDraft d → IfOk (done_taken d block) IsImagedDraft
done_imaged d None p = tt
done_imaged d (Some block) p = p

-- Workers

-- a number that was read is at most its bound
at_most : (a b : Bool) (n most : ℕ) → nat_le n most ≡ b → IfSome (cond (a && b) (Some n) None) (λ m. m ≤ most)
at_most true true n most e = leb-true _ _ e
at_most true false n most e = tt
at_most false b n most e = tt

number_at_most : (most : ℕ) (digits : List ℕ) → IfSome (number_of most digits) (λ n. n ≤ most)
unfolding number_of
number_at_most most digits = at_most (is_number digits) _ (decimal_value digits) most refl

at_least : (b : Bool) (n : ℕ) → nat_le 1 n ≡ b → n ≤ 64 → IfSome (cond b (Some n) None) IsWorkers
at_least true n e few = record { some = leb-true _ _ e; few = few }
at_least false n e few = tt

of_number : (read : Option ℕ) → IfSome read (λ n. n ≤ 64)
    → IfSome (option_and_then (λ n. cond (nat_le 1 n) (Some n) None) read) IsWorkers
of_number None p = tt
of_number (Some n) p = at_least _ n refl p

-- a word that was read is as its reading says
read_as : {T : Type 0} (word : ℕ) (read : Option T) (P : T → Type 0) → IfSome read P → IfOk (read_or word read) P
read_as word None P p = tt
read_as word (Some x) P p = p

boot_workers : (words : List (List ℕ)) → IfOk (boot_words words) (λ said. IsWorkers said.1)
unfolding boot_words
boot_workers words =
    from_ok (ok_or (two_words words) Words) _ _ (λ both. from_ok (read_or 2 (time_of both.0)) _ _
    (λ time. next_ok (read_or 3 (workers_of both.1)) _ IsWorkers _
    (read_as 3 (workers_of both.1) IsWorkers (of_number (number_of 64 both.1) (number_at_most 64 both.1)))
    (λ workers p. p)))

-- Lines

taken_imaged : (number : ℕ) (d : Draft) (k : Keyword) (rest : List ℕ) → IsImagedDraft d
    → IfOk (taken d number k rest) IsImagedDraft
unfolding taken
taken_imaged number d keyword.Scale rest p =
    from_ok (scale_words (words_of rest)) _ _ (λ scale. scale_imaged d scale d.scale p)
taken_imaged number d keyword.Image rest p =
    from_ok (print_words (words_of rest)) _ _ (λ print. image_imaged d.scale print d.image d.boots d.current p)
taken_imaged number d keyword.Pre rest p =
    from_ok (part_words (words_of rest)) _ _ (λ part. pre_imaged d part d.scale d.image refl p)
taken_imaged number d keyword.Boot rest p =
    next_ok (boot_words (words_of rest)) _ (λ said. IsWorkers said.1) _ (boot_workers (words_of rest))
    (λ said fit. boot_imaged d said.0 said.1 d.scale d.image fit refl refl p)
taken_imaged number d keyword.Submit rest p =
    from_ok (submit_words (words_of rest)) _ _ (λ said. submit_imaged d said.0 said.1 p)
taken_imaged number d keyword.Ready rest p =
    from_ok (id_words (words_of rest)) _ _ (λ id. call_imaged d (calls.Ready id) p)
taken_imaged number d keyword.Abort rest p =
    from_ok (id_words (words_of rest)) _ _ (λ id. call_imaged d (calls.Abort id) p)
taken_imaged number d keyword.Success rest p =
    from_ok (success_words (words_of rest)) _ _ (λ said. call_imaged d (calls.Success said.0 said.1) p)
taken_imaged number d keyword.State rest p =
    from_ok (id_words (words_of rest)) _ _ (λ id. call_imaged d (calls.StateOf id) p)
taken_imaged number d keyword.Module rest p = from_ok (label_words (words_of rest)) _ _ (λ label. p)
taken_imaged number d keyword.File rest p =
    from_ok (file_words (words_of rest)) _ _ (λ said. file_imaged d said.0 said.1 d.block p)
taken_imaged number d keyword.Text rest p = from_ok (text_said rest) _ _ (λ said. file_imaged d said.0 said.1 d.block p)
taken_imaged number d keyword.Remove rest p =
    from_ok (path_words (words_of rest)) _ _ (λ path. remove_imaged d path d.block p)
taken_imaged number d keyword.Seal rest p = from_ok (bare_words (words_of rest)) _ _ (λ none. seal_imaged d d.block p)
taken_imaged number d keyword.Done rest p = from_ok (bare_words (words_of rest)) _ _ (λ none. done_imaged d d.block p)
taken_imaged number d keyword.Later rest p = tt

keyword_imaged : (number : ℕ) (d : Draft) (k : Option Keyword) (rest : List ℕ) → IsImagedDraft d
    → IfOk (keyword_read d number k rest) IsImagedDraft
keyword_imaged number d None rest p = tt
keyword_imaged number d (Some k) rest p =
    tested_ok (is_not_yet d k rest) (may_stand d k) _ _ _ _ tt (taken_imaged number d k rest p)

word_imaged : (number : ℕ) (d : Draft) (cut : Option (List ℕ × List ℕ)) → IsImagedDraft d
    → IfOk (word_read d number cut) IsImagedDraft
word_imaged number d None p = tt
word_imaged number d (Some (word, rest)) p = keyword_imaged number d (keyword_of word) rest p

line_imaged : (number : ℕ) (d : Draft) (l : List ℕ) → IsImagedDraft d → IfOk (line_read d number l) IsImagedDraft
unfolding line_read
line_imaged number d l p = tested_ok (is_passed l) (is_plain l) _ _ _ _ p (word_imaged number d (cut_word l) p)

lines_imaged : (number : ℕ) (d : Draft) (ls : List (List ℕ)) → IsImagedDraft d
    → IfOk (lines_read number d ls) IsImagedDraft
lines_imaged number d [] p = p
lines_imaged number d (l ∷ ls) p =
    next_ok _ _ IsImagedDraft _ (at_line_ok number (line_read d number l) _ (line_imaged number d l p))
    (λ e q. lines_imaged (number + 1) e ls q)

-- Scripts

finished_imaged : (d : Draft) (scale : Option Scale) (block : Option Block) → IsImaged scale d.image d.boots d.current
    → IfOk (finished_at d scale block) HasOrders
finished_imaged d None block p = tt
finished_imaged d (Some scale) (Some block) p = tt
finished_imaged d (Some scale) None p = all_closed (IsOrdered scale) d.boots d.current p.1 p.2

by_length : (bytes : List ℕ) (b : Bool)
    → IfOk (cond b (lines_read 1 start (lines bytes) >>= finished) (Err (Bad 0 TooLong))) HasOrders
by_length bytes false = tt
by_length bytes true = next_ok (lines_read 1 start (lines bytes)) finished IsImagedDraft HasOrders
    (lines_imaged 1 start (lines bytes) (tt, refl, refl)) (λ d p. finished_imaged d d.scale d.block p)

-- the boots of a script that was read
pub script_orders : (bytes : List ℕ) → IfOk (script_of bytes) HasOrders
unfolding script_of
script_orders bytes = by_length bytes (nat_le (length bytes) 16777216)
