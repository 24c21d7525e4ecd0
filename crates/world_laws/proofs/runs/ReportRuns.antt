-- Reports keep worlds running: failures stand in their order, none after the clock. Callers want `report_running`.
use Rattle.std.proofs.Common.{◌≡◌, ℕ, ◌≤◌, Bool, true, false, cond, ◌&&◌, max, IsTrue, List, [], ◌∷◌, ◌++◌, filter}
use Rattle.std.proofs.Common.{Option, Some, None, Ok, sym, subst, refl, inl, inr, arith}
use Rattle.std.specs.Ordering.{nat_cmp, eq_by_cmp}
use Rattle.std.specs.Cmp.Lexicographic.{slice_cmp, nat_list_cmp_total}
use Rattle.std.specs.FinMap as fin
use Rattle.std.specs.FinMap.{get-insert, get-remove}
use Rattle.std.proofs.lemmas.Bool.{and_parts}
use Rattle.apex_base.specs.declared.records.Reason.{Reason}
use Rattle.apex_base.specs.declared.records.Reason.TheVariants as reason
use Rattle.apex_base.specs.declared.refusal.Refusal.{Refusal}
use Rattle.apex_base.specs.Members.{In, EachPair}
use Rattle.apex_base.specs.Ranges.{IsMillis}
use Rattle.apex_base.specs.Results.{◌>>=◌}
use Rattle.apex_base.specs.Rollbacks.{is_eligible}
use Rattle.apex_base.specs.Sessions.{names}
use Rattle.apex_base.specs.Text.{is_name}
use Rattle.apex_base.specs.Windows.{is_failing}
use Rattle.apex_base.proofs.MemberLemmas.{in_append, in_each, each_in}
use Rattle.apex_world.specs.declared.calls.Observer.{Observer}
use Rattle.apex_world.specs.declared.calls.Reply.TheVariants as reply
use Rattle.apex_world.specs.Data.{unknown_module}
use Rattle.apex_world.specs.Report.{failures_or, failures_of, rollbacks_for, report_trigger, at_once, counted}
use Rattle.apex_world.specs.Report.{reported, report}
use Rattle.apex_world.specs.Running.{Running}
use Rattle.apex_world.specs.Stepped.{answered}
use Rattle.apex_world.specs.Submit.{pass, image_print}
use Rattle.apex_world.specs.Trigger.{eligible, eligible_for, triggered}
use Rattle.apex_world.specs.Watching.{is_watching}
use Rattle.apex_world.specs.World.{World, Failures}
use Rattle.world_laws.proofs.runs.TriggerRuns.{elsewhen_running, triggered_running}

-- Moments in their order

-- none is before an earlier one
abbrev pub AreSorted : List ℕ → Type 0
AreSorted ms = EachPair (λ m n. m ≤ n) ms

-- in their order, none after the clock
pub record AreCounted (clock : ℕ) (ms : List ℕ) : Type 0 where
  pub sorted : AreSorted ms
  pub past : (m : ℕ) → In m ms → m ≤ clock

none_counted : (clock : ℕ) → AreCounted clock []
none_counted clock = record { sorted = tt; past = λ m h. absurd h }

-- the clock only rises
pub later_counted : (clock clock' : ℕ) (ms : List ℕ) → clock ≤ clock' → AreCounted clock ms → AreCounted clock' ms
later_counted clock clock' ms l c = record {
  sorted = c.sorted;
  past = λ m h. let low = c.past m h in omega (arith, l, low);
}

sorted_then : (clock : ℕ) (ms : List ℕ) → AreSorted ms → ((m : ℕ) → In m ms → m ≤ clock) → AreSorted (ms ++ clock ∷ [])
sorted_then clock [] a past = (tt, tt)
sorted_then clock (m ∷ ms) a past = (
  in_each (λ (n : ℕ). m ≤ n) (ms ++ clock ∷ []) (λ n h. elim (in_append n ms (clock ∷ []) h) [
    | inl i ↦ each_in (λ (n : ℕ). m ≤ n) ms a.0 n i
    | inr i ↦ elim i [
      | inl e ↦ subst (λ (n : ℕ). m ≤ n) e (past m (inl refl))
      | inr j ↦ absurd j
    ]
  ]),
  sorted_then clock ms a.1 (λ n h. past n (inr h)),
)

-- one more at the clock
counted_then : (clock : ℕ) (ms : List ℕ) → AreCounted clock ms → AreCounted clock (ms ++ clock ∷ [])
counted_then clock ms c = record {
  sorted = sorted_then clock ms c.sorted c.past;
  past = λ m h. elim (in_append m ms (clock ∷ []) h) [
    | inl i ↦ c.past m i
    | inr i ↦ elim i [
      | inl e ↦ let same : clock ≡ m = e in omega (arith, same)
      | inr j ↦ absurd j
    ]
  ];
}

-- all failures are so
abbrev pub Counted : ℕ → Failures → Type 0
Counted clock failures = (name : List ℕ) → AreCounted clock (failures_of failures name)

one_if : (clock : ℕ) (b : Bool) (o : Option (List ℕ)) (ms : List ℕ) → AreCounted clock ms
    → AreCounted clock (failures_or o) → AreCounted clock (failures_or (cond b (Some ms) o))
one_if clock true o ms a c = a
one_if clock false o ms a c = c

none_if : (clock : ℕ) (b : Bool) (o : Option (List ℕ)) → AreCounted clock (failures_or o)
    → AreCounted clock (failures_or (cond b None o))
none_if clock true o c = none_counted clock
none_if clock false o c = c

more_counted : (clock : ℕ) (failures : Failures) (name ms : List ℕ) → AreCounted clock ms → Counted clock failures
    → Counted clock (fin.insert failures name ms)
more_counted clock failures name ms a c q = subst (λ (o : Option (List ℕ)). AreCounted clock (failures_or o))
    (sym (get-insert nat_list_cmp_total failures name ms q))
    (one_if clock (eq_by_cmp (slice_cmp nat_cmp) q name) (fin.get failures q) ms a (c q))

less_counted : (clock : ℕ) (failures : Failures) (name : List ℕ) → Counted clock failures
    → Counted clock (fin.remove failures name)
less_counted clock failures name c q = subst (λ (o : Option (List ℕ)). AreCounted clock (failures_or o))
    (sym (get-remove nat_list_cmp_total failures name q))
    (none_if clock (eq_by_cmp (slice_cmp nat_cmp) q name) (fin.get failures q) (c q))

-- A world at a later clock, with other failures
pub counting_running : (w : World) → Running w → (clock : ℕ) → IsMillis clock → (failures : Failures)
    → Counted clock failures → Running (record w { failures = failures; clock = clock })
counting_running w run clock ranged failures counted =
    elsewhen_running w run w.moments run.lawful.ranges.moments run.lawful.begun clock ranged failures
    (λ name. (counted name).sorted) (λ name. (counted name).past)

-- Reports

module _ (w : World) (run : Running w) (clock : ℕ) (ranged : IsMillis clock) (later : w.clock ≤ clock) where
  old_counted : Counted clock w.failures
  old_counted name = later_counted w.clock clock (failures_of w.failures name) later
      (record { sorted = run.sorted name; past = run.past name })

  -- the rollbacks that a reason asks for are eligible ones
  for_name : (name : List ℕ) (observers : List Observer)
      → Running (record w {
        sessions = (triggered w.sessions (image_print w.image) (eligible_for name w.sessions) observers).sessions;
      })
  for_name name observers = triggered_running (λ x. is_eligible w.sessions x && names name x) w run
      (λ x e. (and_parts (is_eligible w.sessions x) (names name x) e).0) observers

  for_all : (observers : List Observer)
      → Running (record w {
        sessions = (triggered w.sessions (image_print w.image) (eligible w.sessions) observers).sessions;
      })
  for_all observers = triggered_running (is_eligible w.sessions) w run (λ x e. e) observers

  asked_running : (why : Reason) (name : List ℕ) (observers : List Observer)
      → Running (record w {
        sessions = (triggered w.sessions (image_print w.image) (rollbacks_for why name w.sessions) observers).sessions;
      })
  asked_running reason.Unknown name observers = for_name name observers
  asked_running reason.NativeCrash name observers = for_all observers
  asked_running reason.HealthCheck name observers = for_name name observers
  asked_running reason.AppCrash name observers = for_name name observers
  asked_running reason.AppNotResponding name observers = for_name name observers

  at_once_running : (name : List ℕ) (why : Reason) → Running (at_once w clock name why).world
  at_once_running name why =
      let observers = filter (is_watching w.watches clock name) w.observers in
      let t = report_trigger w clock name why in
      counting_running (record w { sessions = t.sessions }) (asked_running why name observers) clock ranged
      (fin.remove w.failures name) (less_counted clock w.failures name old_counted)

  counted_if : (b : Bool) (name : List ℕ) (why : Reason) (ms : List ℕ) → AreCounted clock ms
      → Running (cond b (at_once w clock name why) (record {
        world = record w { failures = fin.insert w.failures name ms; clock = clock };
        reply = reply.Noted;
      })).world
  counted_if true name why ms c = at_once_running name why
  counted_if false name why ms c = counting_running w run clock ranged (fin.insert w.failures name ms)
      (more_counted clock w.failures name ms c old_counted)

  counted_running : (name : List ℕ) (why : Reason) → Running (counted w clock name why).world
  counted_running name why =
      let ms = failures_of w.failures name ++ clock ∷ [] in
      counted_if (is_failing clock ms) name why ms
      (counted_then clock (failures_of w.failures name) (old_counted name))

  reported_running : (name : List ℕ) (why : Reason) → Running (reported w clock name why).world
  reported_running name reason.Unknown = counted_running name reason.Unknown
  reported_running name reason.NativeCrash = at_once_running name reason.NativeCrash
  reported_running name reason.HealthCheck = at_once_running name reason.HealthCheck
  reported_running name reason.AppCrash = counted_running name reason.AppCrash
  reported_running name reason.AppNotResponding = counted_running name reason.AppNotResponding

  report_if : (o : Option Refusal) (name : List ℕ) (why : Reason)
      → Running (answered w (pass o >>= λ known. Ok (reported w clock name why))).world
  report_if None name why = reported_running name why
  report_if (Some refusal) name why = run

-- a report
pub report_running : (w : World) → Running w → (time : ℕ) → IsMillis time → (name : List ℕ) → IsTrue (is_name name)
    → (why : Reason) → Running (report w time name why).world
report_running w run time ranged name named why =
    let low = run.lawful.ranges.clock in
    report_if w run (max w.clock time) (omega (arith, low, ranged)) (omega arith) (unknown_module w.image name) name why
