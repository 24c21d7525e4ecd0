-- Why a device isn't opened, from what the journal reports.
use Rattle.std.proofs.Common.{◌≡◌, ◌≤◌, inl, inr, ℕ, List, Option, Result, Ok, Err, ◌∙◌}
use Rattle.std.specs.Prelude.{IfErr, IfOk, IfSome}
use Rattle.apex_base.specs.declared.numbers.Scale.{Scale}
use Rattle.apex_base.specs.Numbers.{scale_device_len}
use Rattle.apex_journal.specs.declared.why.JournalWhy.{JournalWhy}
use Rattle.apex_journal.specs.declared.why.JournalWhy.TheVariants as journal
use Rattle.apex_journal.specs.Journal.{Opens, Told}
use Rattle.apex_journal.specs.Refusals.{WhyClosed}
use Rattle.row_store.specs.declared.why.StoreWhy.{StoreWhy}
use Rattle.row_store.specs.declared.why.StoreWhy.TheVariants.{Small, NotAStore, ScaleDiffers, Damaged, BadRows, DiskFault, NoMemory}
use Rattle.row_store.specs.Opening.{IsBadAmong, WhyRefused}
use Rattle.row_store.specs.Refused.{store_why_of}

pub err_more : {X E : Type 0} (r : Result X E) (P Q : E → Type 0) → IfErr r P → ((e : E) → P e → Q e) → IfErr r Q
err_more (Ok x) P Q p more = p
err_more (Err e) P Q p more = more e p

pub ok_more : {X E : Type 0} (r : Result X E) (P Q : X → Type 0) → IfOk r P → ((x : X) → P x → Q x) → IfOk r Q
ok_more (Ok x) P Q p more = more x p
ok_more (Err e) P Q p more = p

module _ (scale : Scale) (len : ℕ) (reads : Option (List ℕ)) where
  -- by the journal
  pub judged : (why : JournalWhy) → WhyClosed scale len reads why
      → IfSome (store_why_of why) (WhyRefused scale len reads)
  judged (journal.Small found need) is = is
  judged journal.Blank is = tt
  judged (journal.NotAStore offset byte) is = is
  judged (journal.ScaleDiffers found wanted) is = is
  judged (journal.Damaged offset) is = (is.0, λ file told. inl (is.1 file told))
  judged journal.DiskFault is = is
  judged journal.NoMemory is = is

  -- by its records
  pub bad_among : (mid : Option (List ℕ)) (records : List (List ℕ)) → mid ≡ reads
      → Told mid (λ file. Opens scale file records) → scale_device_len scale ≤ len
      → (why : StoreWhy) → IsBadAmong records why → WhyRefused scale len reads why
  bad_among mid records same opens fits (Small found need) is = absurd is
  bad_among mid records same opens fits (NotAStore offset byte) is = absurd is
  bad_among mid records same opens fits (ScaleDiffers found wanted) is = absurd is
  bad_among mid records same opens fits (Damaged offset) is = (
    fits,
    λ file told. inr (record {
      records = records;
      opens = opens file (same ∙ told);
      inside = is.0;
      here =
          is.1;
    }),
  )
  bad_among mid records same opens fits (BadRows tag) is = absurd is
  bad_among mid records same opens fits DiskFault is = absurd is
  bad_among mid records same opens fits NoMemory is = fits
