-- Over a whole history no id is used twice: `ids_used_once`, `ids_used_once_from_boots`.
use Rattle.std.proofs.Common.{◌≡◌, ℕ, true, List, [], ◌∷◌, sym, ap, subst, ◌∙◌, inl, inr}
use Rattle.std.proofs.lemmas.Bool.{false≢true, cases_eq}
use Rattle.apex_base.specs.declared.numbers.SessionId.{SessionId}
use Rattle.apex_base.specs.declared.records.Record.{Record}
use Rattle.apex_base.specs.Members.{In}
use Rattle.apex_base.specs.Sessions.{has_id, session_of, Ascend}
use Rattle.apex_base.proofs.SessionLemmas.{of_in}
use Rattle.apex_world.specs.Boot.{boot_world}
use Rattle.apex_world.specs.Lawful.{Lawful, HaveIds}
use Rattle.apex_world.specs.Running.{Running}
use Rattle.apex_world.specs.Step.{step}
use Rattle.apex_world.specs.World.{World}
use Rattle.world_facts.specs.Follows.{IsKeptAs, Becomes, Leads}
use Rattle.world_facts.proofs.facts.LeadsLemmas.{same, kept_on, same_ids, leads_same, leads_then, leads_as}
use Rattle.world_facts.proofs.facts.NewIds.{has_in}
use Rattle.world_laws.specs.Histories.{Happening, Booting, Calling, CanHappen, happened, afterwards, IsHistoryOf}
use Rattle.world_laws.specs.Histories.{UsesIdsOnce, IdsAreUsedOnce, IdsAreUsedOnceFromBoots}
use Rattle.world_laws.proofs.meaning.BootFollows.{boot_follows}
use Rattle.world_laws.proofs.meaning.CallStays.{call_follows}
use Rattle.world_laws.proofs.runs.BootLoops.{boots_running}
use Rattle.world_laws.proofs.runs.CallsRun.{calls_run}

-- One after another

runs_on : (w : World) → Running w → (x : Happening) → CanHappen w x → Running (happened w x)
runs_on w run (Booting order mounts) can = boots_running w run.lawful order can mounts
runs_on w run (Calling call) can = calls_run w run call can

kept_by : (r s : Record) → Becomes r s → IsKeptAs r s
kept_by r s b = b.kept

leads_on : (w : World) → Lawful w → (x : Happening) → Leads IsKeptAs w.sessions (happened w x).sessions
leads_on w law (Booting order mounts) =
    leads_as Becomes IsKeptAs w.sessions (boot_world w order mounts).sessions kept_by
    (boot_follows w law.ids law.undone order mounts)
leads_on w law (Calling call) =
    leads_as Becomes IsKeptAs w.sessions (step w call).world.sessions kept_by (call_follows w law.ids law.undone call)

runs_over : (w : World) → Running w → (xs : List Happening) → IsHistoryOf w xs → Running (afterwards w xs)
runs_over w run [] is = run
runs_over w run (x ∷ xs) is = runs_over (happened w x) (runs_on w run x is.0) xs is.1

joined : (before mid after : List Record) → Leads IsKeptAs before mid → Leads IsKeptAs mid after
    → Leads IsKeptAs before after
joined before mid after l m =
    leads_then IsKeptAs IsKeptAs IsKeptAs (λ r s k. k) (λ r s k. k) kept_on before mid after l m

leads_over : (w : World) → Running w → (xs : List Happening) → IsHistoryOf w xs
    → Leads IsKeptAs w.sessions (afterwards w xs).sessions
leads_over w run [] is = leads_same IsKeptAs same w.sessions run.lawful.ids.ascend
leads_over w run (x ∷ xs) is =
    joined w.sessions (happened w x).sessions (afterwards (happened w x) xs).sessions (leads_on w run.lawful x)
    (leads_over (happened w x) (runs_on w run x is.0) xs is.1)

-- Who has an id

same_one : (ss : List Record) (r s : Record) → Ascend ss → In r ss → In s ss → r.id.0 ≡ s.id.0 → r ≡ s
same_one ss r s a h i e =
    let id : r.id ≡ s.id = ap (λ (n : ℕ). record { 0 = n }) e in
    let f = of_in ss r a h in
    let g = ap (session_of ss) id ∙ of_in ss s a i in
    cc (f, g)

-- of two that have one id at one moment
one_of : (ss : List Record) → HaveIds ss → (r s : Record) (id : SessionId) → In r ss → In s ss → has_id id r ≡ true
    → has_id id s ≡ true → r ≡ s
one_of ss ids r s id h i has have = elim (cases_eq r.id.0 s.id.0) [
  | inl e ↦ same_one ss r s ids.ascend h i e
  | inr d ↦ absurd (ids.apart r s id h i d has have)
]

-- and at two
kept_one : (before after : List Record) → HaveIds before → Leads IsKeptAs before after → (r s : Record) (id : SessionId)
    → In r before → In s after → has_id id r ≡ true → has_id id s ≡ true → IsKeptAs r s
kept_one before after ids l r s id h i has have = elim (l.back s i) [
  | inl (t, j, k) ↦
      let is : r ≡ t = one_of before ids r t id h j has (sym (same_ids id t s k) ∙ have) in
      subst (λ (x : Record). IsKeptAs x s) (sym is) k
  | inr fresh ↦ let (told, j, e) = has_in id s have in
      let is : told ≡ id = ap (λ (n : ℕ). record { 0 = n }) e in
      absurd (false≢true (sym (fresh r told h j) ∙ subst (λ (x : SessionId). has_id x r ≡ true) (sym is) has))
]

used_once : (before after : List Record) → HaveIds before → HaveIds after → Leads IsKeptAs before after
    → UsesIdsOnce before after
used_once before after ids ids' l = record { leads = l; once = kept_one before after ids l; apart = ids' }

pub ids_used_once : IdsAreUsedOnce
ids_used_once w run xs is =
    used_once w.sessions (afterwards w xs).sessions run.lawful.ids (runs_over w run xs is).lawful.ids
    (leads_over w run xs is)

pub ids_used_once_from_boots : IdsAreUsedOnceFromBoots
ids_used_once_from_boots w law order mounts can xs is =
    let run : Running (boot_world w order mounts) = boots_running w law order can mounts in
    used_once w.sessions (afterwards (boot_world w order mounts) xs).sessions law.ids
    (runs_over (boot_world w order mounts) run xs is).lawful.ids
    (joined w.sessions (boot_world w order mounts).sessions (afterwards (boot_world w order mounts) xs).sessions
    (leads_on w law (Booting order mounts)) (leads_over (boot_world w order mounts) run xs is))
