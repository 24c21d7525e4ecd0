-- A device whose first bytes and half in use were read.
use Rattle.std.proofs.Common.{◌≡◌, ℕ, ◌+◌, ◌*◌, ◌≤◌, List, ◌∷◌, ◌++◌, length, take, drop, Option, Result, Ok, Err, refl, sym, ◌∙◌, ap, arith, append_assoc, length-append, length-take, take-append-drop}
use Rattle.std.specs.Result.{IfOk, IfErr}
use Rattle.std.proofs.lemmas.List.{take-take, length-take-le}
use Rattle.apex_base.specs.declared.numbers.Scale.{Scale}
use Rattle.apex_base.specs.declared.numbers.Scale.TheVariants.{Small, Standard}
use Rattle.apex_base.specs.Numbers.{scale_device_len}
use Rattle.apex_journal.specs.declared.half.HalfRead.{HalfRead}
use Rattle.apex_journal.specs.declared.why.JournalWhy.{JournalWhy}
use Rattle.apex_journal.specs.declared.why.JournalWhy.TheVariants.{Blank, NotAStore, ScaleDiffers, Damaged, DiskFault, NoMemory}
use Rattle.apex_journal.specs.declared.why.JournalWhy.TheVariants as why
use Rattle.apex_journal.specs.Records.{blocks, HalfHolds}
use Rattle.apex_journal.specs.Journal.{half_len, half_of, heading, Opens, Told}
use Rattle.apex_journal.specs.Heads.{IsHalfWhy}
use Rattle.apex_journal.specs.Refusals.{WhyClosed}

-- a device of a scale has room for two halves
pub two_halves : (scale : Scale) → 4096 + 2 * half_len scale ≡ scale_device_len scale
two_halves Small = refl
two_halves Standard = refl

opened_file : (scale : Scale) (used : ℕ) (file : List ℕ) (records : List (List ℕ)) → take 11 file ≡ heading scale
    → 4096 + 2 * half_len scale ≤ length file → HalfHolds (half_of scale file) records used → Opens scale file records
opened_file scale used file records named long h =
    let size = half_len scale in
    let behind = drop 4096 file in
    record {
      head = take 4096 file;
      gate = h.gate;
      rest = h.rest ++ drop size behind;
      is = sym (take-append-drop 4096 file) ∙ ap (λ (l : List ℕ). take 4096 file ++ l)
          (sym (take-append-drop size behind) ∙ ap (λ (l : List ℕ). l ++ drop size behind) h.is
          ∙ append_assoc (blocks records) (h.gate ∷ h.rest) (drop size behind));
      starts = length-take-le 4096 file (omega arith);
      headed = take-take 11 4096 file (omega arith) ∙ named;
      closed = h.closed;
      within = omega (arith, ap length h.is, length-take size behind, length-append (blocks records) (h.gate ∷ h.rest));
    }

module _ (scale : Scale) (len : ℕ) (old mid : Option (List ℕ)) (same : mid ≡ old) (fits : scale_device_len scale ≤ len)
    (named : Told old (λ file. take 11 file ≡ heading scale)) where
  pub store_found : Told old (λ file. length file ≡ len) → (result : Result HalfRead JournalWhy)
      → IfOk result (λ read. Told mid (λ file. HalfHolds (half_of scale file) read.records.items read.used))
      → IfOk result (λ read. Told old (λ file. Opens scale file read.records.items))
  store_found long (Ok read) holds = λ file told.
      opened_file scale read.used file read.records.items (named file told) (omega (
        arith,
        two_halves scale,
        fits,
        long file told,
      ))
      (holds file (same ∙ told))
  store_found long (Err why) holds = holds

  pub store_refused : (result : Result HalfRead JournalWhy) → IfErr result (λ why. IsHalfWhy scale mid why)
      → IfErr result (λ why. WhyClosed scale len old why)
  store_refused (Ok read) is = is
  store_refused (Err (Damaged offset)) is = (
    fits,
    λ file told. let at = is file (same ∙ told) in record { headed = named file told; inside = at.0; here = at.1 },
  )
  store_refused (Err DiskFault) is = fits
  store_refused (Err NoMemory) is = fits
  store_refused (Err Blank) is = absurd is
  store_refused (Err (NotAStore offset byte)) is = absurd is
  store_refused (Err (ScaleDiffers found wanted)) is = absurd is
  store_refused (Err (why.Small found need)) is = absurd is
