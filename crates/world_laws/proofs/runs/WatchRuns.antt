-- Worlds run on after Watch. Callers want `watch_running`.
use Rattle.std.proofs.Common.{◌≡◌, ℕ, ◌+◌, ◌≤◌, max, Bool, true, false, cond, eqb, IsTrue, List, [], ◌∷◌, Option}
use Rattle.std.proofs.Common.{Some, None}
use Rattle.std.proofs.Common.{sym, ap, subst, ◌∙◌, refl, inl, inr, arith, Ok}
use Rattle.std.specs.FinMap as fin
use Rattle.apex_base.specs.declared.refusal.Refusal.{Refusal}
use Rattle.apex_base.specs.Members.{In}
use Rattle.apex_base.specs.Ranges.{IsMillis}
use Rattle.apex_base.specs.Results.{◌>>=◌}
use Rattle.apex_base.specs.Tables.{part_of, value_of, with_value}
use Rattle.apex_base.specs.Text.{is_name}
use Rattle.apex_world.specs.Data.{unknown_module}
use Rattle.apex_world.specs.Lawful.{IsTable}
use Rattle.apex_world.specs.Running.{Running, runs, is_registered}
use Rattle.apex_world.specs.Stepped.{replied}
use Rattle.apex_world.specs.Submit.{or_else, pass}
use Rattle.apex_world.specs.Watching.{no_observer, first_unknown, watch_length, with_watches, watched, watch}
use Rattle.apex_world.specs.World.{World, Watches}
use Rattle.world_laws.proofs.runs.DataRuns.{known_if}
use Rattle.world_laws.proofs.runs.NamedMaps.{some_with, value_with}
use Rattle.world_laws.proofs.runs.RunningLemmas as other

-- watches of registered observers and of names that run, which end in time
record AreWatches (w : World) (t : Watches) : Type 0 where
  table : IsTable t
  ends : (observer name : List ℕ) (end : ℕ) → value_of t observer name ≡ Some end → end ≤ 18014398509481982
  runs : (observer name : List ℕ) (end : ℕ) → value_of t observer name ≡ Some end → runs w name ≡ true
  registered : (observer name : List ℕ) (end : ℕ) → value_of t observer name ≡ Some end
      → is_registered w observer ≡ true

module _ (w : World) (observer : List ℕ) (end : ℕ) (is : IsTrue (is_name observer))
    (registered : is_registered w observer ≡ true) (ends : end ≤ 18014398509481982) where
  -- one watch more
  one_more : (t : Watches) (name : List ℕ) → IsTrue (is_name name) → runs w name ≡ true → AreWatches w t
      → AreWatches w (with_value t observer name end)
  one_more t name named known a = record {
    table = record {
      first = λ o n x e. elim (value_with t observer name end o n x e) [
        | inl (same, _, _) ↦ subst (λ (o : List ℕ). IsTrue (is_name o)) (sym same) is
        | inr was ↦ a.table.first o n x was
      ];
      second = λ o n x e. elim (value_with t observer name end o n x e) [
        | inl (_, same, _) ↦ subst (λ (o : List ℕ). IsTrue (is_name o)) (sym same) named
        | inr was ↦ a.table.second o n x was
      ];
      some = λ o. some_with t observer o (fin.insert (part_of t observer) name end) (a.table.some o);
    };
    ends = λ o n x e. elim (value_with t observer name end o n x e) [
      | inl (_, _, same) ↦ subst (λ (m : ℕ). m ≤ 18014398509481982) same ends
      | inr was ↦ a.ends o n x was
    ];
    runs = λ o n x e. elim (value_with t observer name end o n x e) [
      | inl (_, same, _) ↦ ap (runs w) same ∙ known
      | inr was ↦ a.runs o n x was
    ];
    registered = λ o n x e. elim (value_with t observer name end o n x e) [
      | inl (same, _, _) ↦ ap (is_registered w) same ∙ registered
      | inr was ↦ a.registered o n x was
    ];
  }

  -- a watch more for each name
  all_more : (names : List (List ℕ)) (t : Watches) → ((name : List ℕ) → In name names → IsTrue (is_name name))
      → ((name : List ℕ) → In name names → runs w name ≡ true) → AreWatches w t
      → AreWatches w (with_watches observer end names t)
  all_more [] t named known a = a
  all_more (name ∷ names) t named known a =
      all_more names (with_value t observer name end) (λ n h. named n (inr h)) (λ n h. known n (inr h))
      (one_more t name (named name (inl refl)) (known name (inl refl)) a)

-- the names run, where none is unknown
known_first : (o p : Option Refusal) → or_else o p ≡ None → (o ≡ None) × (p ≡ None)
known_first None p e = (refl, e)
known_first (Some refusal) p e = absurd (cc)

all_known : (w : World) (names : List (List ℕ)) → first_unknown w.image names ≡ None → (name : List ℕ)
    → In name names → runs w name ≡ true
all_known w [] e name h = absurd h
all_known w (n ∷ names) e name h =
    let (first, rest) = known_first (unknown_module w.image n) (first_unknown w.image names) e in
    elim h [
      | inl same ↦ ap (runs w) (sym same) ∙ known_if (runs w n) _ first
      | inr i ↦ all_known w names rest name i
    ]

-- a watch lasts two days, or as long as is said
length_by : (b : Bool) (duration : ℕ) → IsMillis duration → cond b 172800000 duration ≤ 9007199254740991
length_by true duration d = omega arith
length_by false duration d = d

module _ (w : World) (run : Running w) (time : ℕ) (observer : List ℕ) (duration : ℕ) (names : List (List ℕ))
    (millis : IsMillis time) (is : IsTrue (is_name observer)) (lasts : IsMillis duration)
    (named : (name : List ℕ) → In name names → IsTrue (is_name name)) where
  -- the clock is in range
  clock_millis : IsMillis (max w.clock time)
  clock_millis = let l = run.lawful.ranges.clock in omega (arith, l, millis)

  -- the world with the watches runs
  watch_done : is_registered w observer ≡ true → first_unknown w.image names ≡ None
      → Running (watched w (max w.clock time) observer duration names)
  watch_done registered known =
      let l = length_by (eqb duration 0) duration lasts in
      let c = clock_millis in
      let a = all_more w observer (max w.clock time + watch_length duration) is registered (omega (arith, l, c)) names
      w.watches named (all_known w names known) (record {
        table = run.lawful.ranges.watches;
        ends = run.lawful.ranges.ends;
        runs = run.watches;
        registered = run.observers;
      }) in
      other.with_watches w run (with_watches observer (max w.clock time + watch_length duration) names w.watches)
      (max w.clock time) a.table a.ends a.runs a.registered (omega arith) c

  -- a watch that is refused, or not
  watch_by : (o p : Option Refusal) → no_observer w.observers observer ≡ o → first_unknown w.image names ≡ p
      → Running (replied w (pass o >>= λ x. pass p >>=
      λ y. Ok (watched w (max w.clock time) observer duration names))).world
  watch_by None None e f = watch_done (known_if (is_registered w observer) _ e) f
  watch_by None (Some refusal) e f = run
  watch_by (Some refusal) p e f = run

  -- the call Watch
  pub watch_running : Running (watch w time observer duration names).world
  watch_running = watch_by (no_observer w.observers observer) (first_unknown w.image names) refl refl
