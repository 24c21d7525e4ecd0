-- What the lines so far have made, and where the next one may stand: docs/formats/script.md, "Lines".
use Rattle.std.specs.Prelude.{ℕ, Bool, true, false, is_some, is_none, List, [], ◌∷◌, ◌++◌, option_to_list, codes}
use Rattle.std.specs.Prelude.{Option, Some, None, Result, Ok, Err, if◌then◌else◌}
use Rattle.std.specs.Str.{bytes_eq}
use Rattle.std.specs.FinMap as fin
use Rattle.apex_base.specs.declared.numbers.Scale.{Scale}
use Rattle.apex_base.specs.declared.numbers.SessionId.{SessionId}
use Rattle.apex_base.specs.Results.{◌>>=◌}
use Rattle.apex_world.specs.declared.calls.Call.{Call}
use Rattle.apex_world.specs.declared.calls.Call.TheVariants as calls
use Rattle.apex_world.specs.declared.calls.Image.{Image}
use Rattle.apex_world.specs.declared.script.Script.{Script}
use Rattle.apex_world.specs.declared.script.ScriptBoot.{ScriptBoot}
use Rattle.apex_world.specs.declared.script.Segment.{Segment}
use Rattle.apex_world.specs.Segments.{plain_segment}
use Rattle.device_script.specs.declared.block.Block.{Block}
use Rattle.device_script.specs.declared.draft.Draft.{Draft}
use Rattle.device_script.specs.declared.fault.LineFault.{LineFault}
use Rattle.device_script.specs.declared.fault.LineFault.TheVariants.{NotYet, BadPlace, Unended}
use Rattle.device_script.specs.declared.fault.ScriptWhy.{ScriptWhy}
use Rattle.device_script.specs.declared.fault.ScriptWhy.TheVariants.{Bad}
use Rattle.device_script.specs.declared.keyword.Keyword.{Keyword}
use Rattle.device_script.specs.declared.keyword.Keyword.TheVariants as keyword
use Rattle.device_script.specs.declared.words.PartWord.{PartWord}
use Rattle.device_script.specs.Blocks.{begun, file_put, file_removed, listing_put}
use Rattle.device_script.specs.Images.{module_named, with_manifest, image_with}
use Rattle.device_script.specs.Lines.{scale_words, print_words, part_words, boot_words, submit_words, id_words}
use Rattle.device_script.specs.Lines.{success_words, label_words, file_words, text_said, path_words, bare_words}
use Rattle.device_script.specs.Words.{words_of}

-- before the first line
abbrev pub start : Draft
start = record { scale = None; image = None; boots = []; current = None; labels = fin.empty; block = None }

-- Which lines aren't read yet

-- the word after the id asks for a rollback
abbrev pub asks_rollback : List (List ℕ) → Bool
asks_rollback (id ∷ kind ∷ others) = bytes_eq kind (codes "rollback")
asks_rollback _ = false

-- a line of a later table, a second image, or a rollback; the rest of a line is what comes after its first word
abbrev pub is_not_yet : Draft → Keyword → List ℕ → Bool
is_not_yet d keyword.Later rest = true
is_not_yet d keyword.Image rest = is_some d.image
is_not_yet d keyword.Submit rest = asks_rollback (words_of rest)
is_not_yet _ _ _ = false

-- Where a line may stand

-- these stand in module blocks alone
abbrev pub is_of_blocks : Keyword → Bool
is_of_blocks keyword.File = true
is_of_blocks keyword.Text = true
is_of_blocks keyword.Remove = true
is_of_blocks keyword.Seal = true
is_of_blocks keyword.Done = true
is_of_blocks _ = false

-- scale first and once; images and blocks after it; modules and boots after an image; calls after a boot
abbrev pub may_stand_outside : Draft → Keyword → Bool
may_stand_outside d keyword.Scale = is_none d.scale
may_stand_outside d keyword.Image = is_some d.scale
may_stand_outside d keyword.Module = is_some d.scale
may_stand_outside d keyword.Later = is_some d.scale
may_stand_outside d keyword.Pre = is_some d.image
may_stand_outside d keyword.Boot = is_some d.image
may_stand_outside d keyword.Submit = is_some d.current
may_stand_outside d keyword.Ready = is_some d.current
may_stand_outside d keyword.Abort = is_some d.current
may_stand_outside d keyword.Success = is_some d.current
may_stand_outside d keyword.State = is_some d.current
may_stand_outside _ _ = false

-- in a block only its own lines may stand
abbrev pub may_stand : Draft → Keyword → Bool
may_stand d k = if is_some d.block then is_of_blocks k else may_stand_outside d k

-- What a line makes

-- the scale, which stays
abbrev pub scale_taken : Draft → Scale → Option Scale → Result Draft LineFault
scale_taken d scale None = Ok (record d { scale = Some scale })
scale_taken d scale (Some before) = Err BadPlace

-- a new image without modules
abbrev pub image_taken : Draft → List ℕ → Result Draft LineFault
image_taken d print = Ok (record d { image = Some (record { print = print; modules = [] }) })

-- one more module in the last image
unfoldable pub pre_taken : Draft → PartWord → Option Scale → Option Image → Result Draft LineFault
pre_taken d part None image = Err BadPlace
pre_taken d part (Some scale) None = Err BadPlace
pre_taken d part (Some scale) (Some image) = do
  m ← module_named d.labels 2 part
  added ← with_manifest m
  image ← image_with scale image added
  Ok (record d { image = Some image })

-- the boots so far, the one that calls join included
abbrev pub closed : Draft → List ScriptBoot
closed d = d.boots ++ option_to_list d.current

-- a boot of the last image
abbrev pub boot_taken : Draft → ℕ → ℕ → Option Scale → Option Image → Result Draft LineFault
boot_taken d time workers None image = Err BadPlace
boot_taken d time workers (Some scale) None = Err BadPlace
boot_taken d time workers (Some scale) (Some image) = Ok (record d {
  boots = closed d;
  current = Some (record {
    order = record { scale = scale; image = image; observers = []; time = time };
    mounts = [];
    workers = workers;
    cut = None;
    segments = [];
  });
})

-- a segment after the last boot
abbrev pub segment_taken : Draft → Segment → Option ScriptBoot → Result Draft LineFault
segment_taken d segment None = Err BadPlace
segment_taken d segment (Some boot) =
    Ok (record d { current = Some (record boot { segments = boot.segments ++ segment ∷ [] }) })

-- a call outside lane blocks
abbrev pub call_taken : Draft → Call → Result Draft LineFault
call_taken d call = segment_taken d (plain_segment call) d.current

-- a plain submit of one part
unfoldable pub submit_taken : Draft → SessionId → PartWord → Result Draft LineFault
submit_taken d id part = do
  m ← module_named d.labels 4 part
  call_taken d (calls.Submit id [] false (m ∷ []))

-- Module blocks

abbrev pub block_becomes : Draft → Block → Result Draft LineFault
block_becomes d block = Ok (record d { block = Some block })

abbrev pub file_taken : Draft → List ℕ → List ℕ → Option Block → Result Draft LineFault
file_taken d path content None = Err BadPlace
file_taken d path content (Some block) = file_put block path content >>= block_becomes d

abbrev pub remove_taken : Draft → List ℕ → Option Block → Result Draft LineFault
remove_taken d path None = Err BadPlace
remove_taken d path (Some block) = block_becomes d (file_removed block path)

abbrev pub seal_taken : Draft → Option Block → Result Draft LineFault
seal_taken d None = Err BadPlace
seal_taken d (Some block) = listing_put block >>= block_becomes d

-- from here on the label stands for the block's module
abbrev pub done_taken : Draft → Option Block → Result Draft LineFault
done_taken d None = Err BadPlace
done_taken d (Some block) = Ok (record d { labels = fin.insert d.labels block.label block.content; block = None })

-- the rest of a `pre`, a `submit`, a `file` and a `text` line is read, and then taken

abbrev pub pre_read : Draft → List ℕ → Result Draft LineFault
pre_read d rest = part_words (words_of rest) >>= λ part. pre_taken d part d.scale d.image

abbrev pub submit_read : Draft → List ℕ → Result Draft LineFault
submit_read d rest = submit_words (words_of rest) >>= λ said. submit_taken d said.0 said.1

abbrev pub file_read : Draft → List ℕ → Result Draft LineFault
file_read d rest = file_words (words_of rest) >>= λ said. file_taken d said.0 said.1 d.block

abbrev pub text_read : Draft → List ℕ → Result Draft LineFault
text_read d rest = text_said rest >>= λ said. file_taken d said.0 said.1 d.block

-- a draft with one more line, which is line n
unfoldable pub taken : Draft → ℕ → Keyword → List ℕ → Result Draft LineFault
taken d n keyword.Scale rest = scale_words (words_of rest) >>= λ scale. scale_taken d scale d.scale
taken d n keyword.Image rest = print_words (words_of rest) >>= image_taken d
taken d n keyword.Pre rest = pre_read d rest
taken d n keyword.Boot rest = boot_words (words_of rest) >>= λ said. boot_taken d said.0 said.1 d.scale d.image
taken d n keyword.Submit rest = submit_read d rest
taken d n keyword.Ready rest = id_words (words_of rest) >>= λ id. call_taken d (calls.Ready id)
taken d n keyword.Abort rest = id_words (words_of rest) >>= λ id. call_taken d (calls.Abort id)
taken d n keyword.Success rest = success_words (words_of rest) >>= λ said. call_taken d (calls.Success said.0 said.1)
taken d n keyword.State rest = id_words (words_of rest) >>= λ id. call_taken d (calls.StateOf id)
taken d n keyword.Module rest = label_words (words_of rest) >>= λ label. block_becomes d (begun n label)
taken d n keyword.File rest = file_read d rest
taken d n keyword.Text rest = text_read d rest
taken d n keyword.Remove rest = path_words (words_of rest) >>= λ path. remove_taken d path d.block
taken d n keyword.Seal rest = bare_words (words_of rest) >>= λ _. seal_taken d d.block
taken d n keyword.Done rest = bare_words (words_of rest) >>= λ _. done_taken d d.block
taken d n keyword.Later rest = Err NotYet

-- the script that the lines make, if there are no more and no block is open
abbrev pub finished_at : Draft → Option Scale → Option Block → Result Script ScriptWhy
finished_at d None block = Err (Bad 1 Unended)
finished_at d (Some scale) None = Ok (record { scale = scale; boots = closed d })
finished_at d (Some scale) (Some block) = Err (Bad block.line Unended)

abbrev pub finished : Draft → Result Script ScriptWhy
finished d = finished_at d d.scale d.block
