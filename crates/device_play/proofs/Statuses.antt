-- What the statuses say of the source's bytes.
use Rattle.std.proofs.Common.{◌≡◌, ℕ, ◌<◌, List, [], ◌++◌, length, false, Option, Some, None, Result, Ok, Err, sym, ap}
use Rattle.std.proofs.Common.{◌∙◌, refl, arith}
use Rattle.std.specs.Prelude.{IfSome, nat_le}
use Rattle.std.proofs.lemmas.Bool.Decides.{nat_tests}
use Rattle.std.proofs.lemmas.List.{append-nil}
use Rattle.apex_world.specs.declared.script.Script.{Script}
use Rattle.device_script.specs.declared.fault.LineFault.TheVariants.{TooLong}
use Rattle.device_script.specs.declared.fault.ScriptWhy.{ScriptWhy}
use Rattle.device_script.specs.declared.fault.ScriptWhy.TheVariants.{Bad}
use Rattle.device_script.specs.Script.{script_of}
use Rattle.device_play.specs.declared.status.Status.TheVariants as status
use Rattle.device_play.specs.Headline.{HasScript, HasNoScript, IsRefused, HasBadLine}
use Rattle.device_play.specs.Source.{Moved, Ended}

script_of-long : (bytes : List ℕ) → 16777216 < length bytes → script_of bytes ≡ Err (Bad 0 TooLong)
unfolding script_of
script_of-long bytes long = let no : nat_le (length bytes) 16777216 ≡ false = grind (arith, nat_tests) in rw no refl

pub long_bad_line : (left : Option (List ℕ)) → IfSome left (λ all. 16777216 < length all)
    → HasBadLine left (status.Script 0 TooLong)
long_bad_line None long = tt
long_bad_line (Some bytes) long = script_of-long bytes long

pub long_refused : (left : Option (List ℕ)) (why : ScriptWhy) → IfSome left (λ all. 16777216 < length all)
    → HasNoScript left why → IsRefused (status.Script 0 TooLong) why
long_refused None why long none = absurd none
long_refused (Some bytes) why long none = let both : ◌≡◌ {A = Result Script ScriptWhy} (Err why) (Err (Bad 0 TooLong)) =
    sym none ∙ script_of-long bytes long in cc

all_of : (xs ys zs : List ℕ) → xs ≡ ys ++ zs → zs ≡ [] → ys ≡ xs
all_of xs ys zs e none = sym (e ∙ ap (λ v. ys ++ v) none ∙ append-nil ys)

-- a source of which a script was read has one
pub no_refusal : (left left' : Option (List ℕ)) (bytes : List ℕ) (why : ScriptWhy) (t : Script)
    → Moved left left' [] bytes → Ended left left' → HasNoScript left why → script_of bytes ≡ Ok t → ⊥
no_refusal None left' bytes why t moved ended none read = none
no_refusal (Some xs) None bytes why t moved ended none read = moved
no_refusal (Some xs) (Some zs) bytes why t moved ended none read =
    let both : ◌≡◌ {A = Result Script ScriptWhy} (Ok t) (Err why) =
    sym read ∙ ap script_of (all_of xs bytes zs moved ended) ∙ none in cc

-- the script that was read is that of the source
pub same_script : (left left' : Option (List ℕ)) (bytes : List ℕ) (s t : Script) → Moved left left' [] bytes
    → Ended left left' → HasScript left s → script_of bytes ≡ Ok t → t ≡ s
same_script None left' bytes s t moved ended has read = absurd has
same_script (Some xs) None bytes s t moved ended has read = absurd moved
same_script (Some xs) (Some zs) bytes s t moved ended has read =
    let both : ◌≡◌ {A = Result Script ScriptWhy} (Ok t) (Ok s) =
    sym read ∙ ap script_of (all_of xs bytes zs moved ended) ∙ has in cc
