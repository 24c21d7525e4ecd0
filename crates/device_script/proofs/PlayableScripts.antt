-- A script that was read can be numbered: `script_playable`. Each line adds one boot or one call at most, and
-- there are fewer lines than numbers.
use Rattle.std.proofs.Common.{◌≡◌, ℕ, ◌+◌, ◌==◌, ◌^◌, ◌<◌, ◌≤◌, Bool, true, false, cond, List, [], ◌∷◌, ◌++◌, length}
use Rattle.std.proofs.Common.{Option, Some, None, Err, refl, arith}
use Rattle.std.specs.Prelude.{IfOk, IfSome, nat_le, option_to_list, flat_map}
use Rattle.std.specs.List.{All}
use Rattle.std.specs.Str.Lines.{lines}
use Rattle.std.proofs.lemmas.List.{length-append}
use Rattle.std.proofs.lemmas.List.Concat.{flat_map-append}
use Rattle.std.proofs.lemmas.List.Elements.{All-nil, All-cons, All-push, All-append, All-weaker}
use Rattle.std.proofs.lemmas.Option.{IfSome_then}
use Rattle.std.proofs.lemmas.Bool.{leb-true}
use Rattle.apex_base.specs.declared.numbers.Scale.{Scale}
use Rattle.apex_base.specs.declared.numbers.SessionId.{SessionId}
use Rattle.apex_base.specs.Results.{◌>>=◌}
use Rattle.apex_world.specs.declared.calls.Call.{Call}
use Rattle.apex_world.specs.declared.calls.Call.TheVariants as calls
use Rattle.apex_world.specs.declared.calls.Image.{Image}
use Rattle.apex_world.specs.declared.script.Script.{Script}
use Rattle.apex_world.specs.declared.script.ScriptBoot.{ScriptBoot}
use Rattle.apex_world.specs.declared.script.Segment.{Segment}
use Rattle.apex_world.specs.Playable.{IsBuilt, IsPlayableLane, IsPlayableSegment, IsPlayableBoot, IsPlayable}
use Rattle.apex_world.specs.Turns.{lane_calls}
use Rattle.device_script.specs.declared.draft.Draft.{Draft}
use Rattle.device_script.specs.declared.fault.LineFault.TheVariants.{TooLong}
use Rattle.device_script.specs.declared.fault.ScriptWhy.TheVariants.{Bad}
use Rattle.device_script.specs.declared.keyword.Keyword.{Keyword}
use Rattle.device_script.specs.declared.keyword.Keyword.TheVariants as keyword
use Rattle.device_script.specs.declared.block.Block.{Block}
use Rattle.device_script.specs.declared.words.PartWord.{PartWord}
use Rattle.device_script.specs.Blocks.{file_put, listing_put}
use Rattle.apex_world.specs.Segments.{plain_segment}
use Rattle.device_script.specs.Draft.{start, closed, is_not_yet, may_stand, scale_taken, pre_taken, boot_taken}
use Rattle.device_script.specs.Draft.{segment_taken, call_taken, submit_taken, file_taken, remove_taken, seal_taken}
use Rattle.device_script.specs.Draft.{done_taken, block_becomes, taken, finished_at, finished}
use Rattle.device_script.specs.Images.{module_named, with_manifest, image_with}
use Rattle.device_script.specs.Keywords.{keyword_of}
use Rattle.device_script.specs.Lines.{scale_words, print_words, part_words, boot_words, submit_words, id_words}
use Rattle.device_script.specs.Lines.{success_words, label_words, file_words, text_said, path_words, bare_words}
use Rattle.device_script.specs.Script.{is_passed, is_plain, keyword_read, word_read, line_read, lines_read, script_of}
use Rattle.device_script.specs.Words.{cut_word, words_of}
use Rattle.device_script.proofs.LineLemmas.{few_lines}
use Rattle.device_script.proofs.Steps.{tested_ok, from_ok, next_ok, at_line_ok}

-- Boots of a draft

-- fewer boots than a bound, each with fewer steps than that
record IsSmall (bound : ℕ) (boots : List ScriptBoot) (current : Option ScriptBoot) : Type 0 where
  pub count : length (boots ++ option_to_list current) < bound
  pub done : All (IsPlayableBoot bound) boots
  pub last : IfSome current (IsPlayableBoot bound)

-- the same of a draft
abbrev IsSmallDraft : ℕ → Draft → Type 0
IsSmallDraft bound d = IsSmall bound d.boots d.current

-- a boot within a bound is within a greater one
boot_weaker : (m n : ℕ) → m ≤ n → (b : ScriptBoot) → IsPlayableBoot m b → IsPlayableBoot n b
boot_weaker m n le b p =
    record { alone = p.alone; steps = λ lane. omega (arith, p.steps lane); segments = p.segments }

-- so are the boots of a draft
weaker : (m n : ℕ) (boots : List ScriptBoot) (current : Option ScriptBoot) → m ≤ n → IsSmall m boots current
    → IsSmall n boots current
weaker m n boots current le p = record {
  count = omega (arith, p.count);
  done = All-weaker (IsPlayableBoot m) (IsPlayableBoot n) (boot_weaker m n le) boots p.done;
  last = IfSome_then current p.last (boot_weaker m n le);
}

-- what holds of the boots that are done and of the one that calls join holds of them all
pub all_closed : (P : ScriptBoot → Type 0) (boots : List ScriptBoot) (current : Option ScriptBoot) → All P boots
    → IfSome current P → All P (boots ++ option_to_list current)
all_closed P boots None p q = All-append P boots [] p (All-nil P)
all_closed P boots (Some b) p q = All-push P boots b p q

-- Calls of a boot

-- one call is at most one step of a lane
one_step : (call : Call) (b : Bool) → length (cond b (call ∷ []) []) ≤ 1
one_step call true = omega arith
one_step call false = omega arith

-- with a call more, a lane has one step more at most
steps_more : (segments : List Segment) (call : Call) (lane : ℕ)
    → length (lane_calls lane (flat_map (λ (s : Segment). s.lanes) (segments ++ plain_segment call ∷ [])))
    ≤ length (lane_calls lane (flat_map (λ (s : Segment). s.lanes) segments)) + 1
steps_more segments call lane = simp (flat_map-append, length-append) (omega (arith, one_step call (0 == lane)))

-- the segment that a line makes of a call
plain_playable : (call : Call) → IsBuilt call → IsPlayableSegment (plain_segment call)
plain_playable call built = record {
  numbers = λ i j d below within. absurd (omega (arith, below, within));
  lanes =
      All-cons IsPlayableLane _ []
      (record { number = omega arith; calls = All-cons IsBuilt call [] built (All-nil IsBuilt) })
      (All-nil IsPlayableLane);
}

-- a boot with a call more
call_joins : (n : ℕ) (b : ScriptBoot) (call : Call) → IsBuilt call → IsPlayableBoot n b
    → IsPlayableBoot (n + 1) (record b { segments = b.segments ++ plain_segment call ∷ [] })
call_joins n b call built p = record {
  alone = p.alone;
  steps = λ lane. omega (arith, p.steps lane, steps_more b.segments call lane);
  segments = All-push IsPlayableSegment b.segments (plain_segment call) p.segments (plain_playable call built);
}

-- Lines

-- a scale adds neither boot nor call
scale_small : (n : ℕ) (d : Draft) (scale : Scale) (before : Option Scale) → IsSmallDraft n d
    → IfOk (scale_taken d scale before) (IsSmallDraft n)
scale_small n d scale None p = p
scale_small n d scale (Some before) p = tt

-- neither does a module
pre_small : (n : ℕ) (d : Draft) (part : PartWord) (scale : Option Scale) (image : Option Image) → IsSmallDraft n d
    → IfOk (pre_taken d part scale image) (IsSmallDraft n)
unfolding pre_taken
pre_small n d part None image p = tt
pre_small n d part (Some scale) None p = tt
pre_small n d part (Some scale) (Some image) p =
    from_ok (module_named d.labels 2 part) _ _
    (λ m. from_ok (with_manifest m) _ _ (λ added. from_ok (image_with scale image added) _ _ (λ i. p)))

-- a boot begins without calls, and the one before it is done
boot_small : (n : ℕ) (d : Draft) (time workers : ℕ) (scale : Option Scale) (image : Option Image) → IsSmallDraft n d
    → IfOk (boot_taken d time workers scale image) (IsSmallDraft (n + 1))
boot_small n d time workers None image p = tt
boot_small n d time workers (Some scale) None p = tt
boot_small n d time workers (Some scale) (Some image) p = record {
  count = omega (arith, p.count, length-append {A = ScriptBoot});
  done = All-weaker (IsPlayableBoot n) (IsPlayableBoot (n + 1)) (boot_weaker n (n + 1) (omega arith)) (closed d)
      (all_closed _ d.boots d.current p.done p.last);
  last = record { alone = refl; steps = λ lane. omega arith; segments = All-nil IsPlayableSegment };
}

-- a call joins the current boot
segment_small : (n : ℕ) (d : Draft) (call : Call) (current : Option ScriptBoot) → IsBuilt call
    → IsSmall n d.boots current → IfOk (segment_taken d (plain_segment call) current) (IsSmallDraft (n + 1))
segment_small n d call None built p = tt
segment_small n d call (Some b) built p = record {
  count = omega (arith, p.count, length-append {A = ScriptBoot});
  done = All-weaker (IsPlayableBoot n) (IsPlayableBoot (n + 1)) (boot_weaker n (n + 1) (omega arith)) d.boots p.done;
  last = call_joins n b call built p.last;
}

call_small : (n : ℕ) (d : Draft) (call : Call) → IsBuilt call → IsSmallDraft n d
    → IfOk (call_taken d call) (IsSmallDraft (n + 1))
call_small n d call built p = segment_small n d call d.current built p

-- a submit is a call
submit_small : (n : ℕ) (d : Draft) (id : SessionId) (part : PartWord) → IsSmallDraft n d
    → IfOk (submit_taken d id part) (IsSmallDraft (n + 1))
unfolding submit_taken
submit_small n d id part p =
    from_ok (module_named d.labels 4 part) _ _
    (λ m. call_small n d (calls.Submit id [] false (m ∷ [])) (refl, refl, refl) p)

-- a block adds neither boot nor call
file_small : (n : ℕ) (d : Draft) (path content : List ℕ) (block : Option Block) → IsSmallDraft n d
    → IfOk (file_taken d path content block) (IsSmallDraft n)
file_small n d path content None p = tt
file_small n d path content (Some block) p = from_ok (file_put block path content) (block_becomes d) _ (λ b. p)

remove_small : (n : ℕ) (d : Draft) (path : List ℕ) (block : Option Block) → IsSmallDraft n d
    → IfOk (remove_taken d path block) (IsSmallDraft n)
remove_small n d path None p = tt
remove_small n d path (Some block) p = p

seal_small : (n : ℕ) (d : Draft) (block : Option Block) → IsSmallDraft n d → IfOk (seal_taken d block) (IsSmallDraft n)
seal_small n d None p = tt
seal_small n d (Some block) p = from_ok (listing_put block) (block_becomes d) _ (λ b. p)

done_small : (n : ℕ) (d : Draft) (block : Option Block) → IsSmallDraft n d → IfOk (done_taken d block) (IsSmallDraft n)
done_small n d None p = tt
done_small n d (Some block) p = p

-- each line adds one boot or one call at most; the second bound is that of a line that adds none
taken_small : (n number : ℕ) (d : Draft) (k : Keyword) (rest : List ℕ) → IsSmallDraft n d → IsSmallDraft (n + 1) d
    → IfOk (taken d number k rest) (IsSmallDraft (n + 1))
unfolding taken
taken_small n number d keyword.Scale rest p q =
    from_ok (scale_words (words_of rest)) _ _ (λ scale. scale_small (n + 1) d scale d.scale q)
taken_small n number d keyword.Image rest p q = from_ok (print_words (words_of rest)) _ _ (λ print. q)
taken_small n number d keyword.Pre rest p q =
    from_ok (part_words (words_of rest)) _ _ (λ part. pre_small (n + 1) d part d.scale d.image q)
taken_small n number d keyword.Boot rest p q =
    from_ok (boot_words (words_of rest)) _ _ (λ said. boot_small n d said.0 said.1 d.scale d.image p)
taken_small n number d keyword.Submit rest p q =
    from_ok (submit_words (words_of rest)) _ _ (λ said. submit_small n d said.0 said.1 p)
taken_small n number d keyword.Ready rest p q =
    from_ok (id_words (words_of rest)) _ _ (λ id. call_small n d (calls.Ready id) tt p)
taken_small n number d keyword.Abort rest p q =
    from_ok (id_words (words_of rest)) _ _ (λ id. call_small n d (calls.Abort id) tt p)
taken_small n number d keyword.Success rest p q =
    from_ok (success_words (words_of rest)) _ _ (λ said. call_small n d (calls.Success said.0 said.1) tt p)
taken_small n number d keyword.State rest p q =
    from_ok (id_words (words_of rest)) _ _ (λ id. call_small n d (calls.StateOf id) tt p)
taken_small n number d keyword.Module rest p q = from_ok (label_words (words_of rest)) _ _ (λ label. q)
taken_small n number d keyword.File rest p q =
    from_ok (file_words (words_of rest)) _ _ (λ said. file_small (n + 1) d said.0 said.1 d.block q)
taken_small n number d keyword.Text rest p q =
    from_ok (text_said rest) _ _ (λ said. file_small (n + 1) d said.0 said.1 d.block q)
taken_small n number d keyword.Remove rest p q =
    from_ok (path_words (words_of rest)) _ _ (λ path. remove_small (n + 1) d path d.block q)
taken_small n number d keyword.Seal rest p q =
    from_ok (bare_words (words_of rest)) _ _ (λ none. seal_small (n + 1) d d.block q)
taken_small n number d keyword.Done rest p q =
    from_ok (bare_words (words_of rest)) _ _ (λ none. done_small (n + 1) d d.block q)
taken_small n number d keyword.Later rest p q = tt

-- the same where its place is judged
keyword_small : (n number : ℕ) (d : Draft) (k : Option Keyword) (rest : List ℕ) → IsSmallDraft n d
    → IfOk (keyword_read d number k rest) (IsSmallDraft (n + 1))
keyword_small n number d None rest p = tt
keyword_small n number d (Some k) rest p = tested_ok (is_not_yet d k rest) (may_stand d k) _ _ _ _ tt
    (taken_small n number d k rest p (weaker n (n + 1) d.boots d.current (omega arith) p))

word_small : (n number : ℕ) (d : Draft) (cut : Option (List ℕ × List ℕ)) → IsSmallDraft n d
    → IfOk (word_read d number cut) (IsSmallDraft (n + 1))
word_small n number d None p = tt
word_small n number d (Some (word, rest)) p = keyword_small n number d (keyword_of word) rest p

-- the same of its bytes
line_small : (n number : ℕ) (d : Draft) (l : List ℕ) → IsSmallDraft n d
    → IfOk (line_read d number l) (IsSmallDraft (n + 1))
unfolding line_read
line_small n number d l p =
    tested_ok (is_passed l) (is_plain l) _ _ _ _ (weaker n (n + 1) d.boots d.current (omega arith) p)
    (word_small n number d (cut_word l) p)

-- lines add as many boots and calls as they are, at most
lines_small : (m n number : ℕ) (d : Draft) (ls : List (List ℕ)) → n + length ls ≤ m → IsSmallDraft n d
    → IfOk (lines_read number d ls) (IsSmallDraft m)
lines_small m n number d [] le p = weaker n m d.boots d.current (omega arith) p
lines_small m n number d (l ∷ ls) le p =
    next_ok _ _ (IsSmallDraft (n + 1)) _ (at_line_ok number (line_read d number l) _ (line_small n number d l p))
    (λ e q. lines_small m (n + 1) (number + 1) e ls (omega arith) q)

-- Scripts

-- the script of a draft within the numbers
finished_playable : (d : Draft) (scale : Option Scale) (block : Option Block) → IsSmallDraft (2 ^ 32) d
    → IfOk (finished_at d scale block) IsPlayable
finished_playable d None block p = tt
finished_playable d (Some scale) (Some block) p = tt
finished_playable d (Some scale) None p =
    record { boots = p.count; each = all_closed _ d.boots d.current p.done p.last }

-- before the first line there is neither boot nor call
start_small : IsSmallDraft 1 start
start_small = record { count = omega arith; done = All-nil (IsPlayableBoot 1); last = tt }

-- a script that isn't too long has fewer lines than numbers
by_length : (bytes : List ℕ) (b : Bool) → nat_le (length bytes) 16777216 ≡ b
    → IfOk (cond b (lines_read 1 start (lines bytes) >>= finished) (Err (Bad 0 TooLong))) IsPlayable
by_length bytes false e = tt
by_length bytes true e =
    let few : 1 + length (lines bytes) ≤ 2 ^ 32 = omega (arith, few_lines bytes, leb-true _ _ e) in
    next_ok (lines_read 1 start (lines bytes)) finished (IsSmallDraft (2 ^ 32)) IsPlayable
    (lines_small (2 ^ 32) 1 1 start (lines bytes) few start_small)
    (λ d p. finished_playable d d.scale d.block p)

-- a script that was read can be numbered
pub script_playable : (bytes : List ℕ) → IfOk (script_of bytes) IsPlayable
unfolding script_of
script_playable bytes = by_length bytes _ refl

-- And it has fewer boots than a device can have

abbrev pub HasFewBoots : Script → Type 0
HasFewBoots script = length script.boots < 4000000000

finished_few : (d : Draft) (scale : Option Scale) (block : Option Block) → IsSmallDraft 4000000000 d
    → IfOk (finished_at d scale block) HasFewBoots
finished_few d None block p = tt
finished_few d (Some scale) (Some block) p = tt
finished_few d (Some scale) None p = p.count

few_by_length : (bytes : List ℕ) (b : Bool) → nat_le (length bytes) 16777216 ≡ b
    → IfOk (cond b (lines_read 1 start (lines bytes) >>= finished) (Err (Bad 0 TooLong))) HasFewBoots
few_by_length bytes false e = tt
few_by_length bytes true e =
    let few : 1 + length (lines bytes) ≤ 4000000000 = omega (arith, few_lines bytes, leb-true _ _ e) in
    next_ok (lines_read 1 start (lines bytes)) finished (IsSmallDraft 4000000000) HasFewBoots
    (lines_small 4000000000 1 1 start (lines bytes) few start_small)
    (λ d p. finished_few d d.scale d.block p)

pub script_has_few_boots : (bytes : List ℕ) → IfOk (script_of bytes) HasFewBoots
unfolding script_of
script_has_few_boots bytes = few_by_length bytes _ refl
