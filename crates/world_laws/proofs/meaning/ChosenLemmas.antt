-- The active set that a boot chooses. Callers want `chosen_in`, `chosen_back`, `choice_works` and `choice_data`.
use Rattle.std.proofs.Common.{◌≡◌, ◌⊎◌, ℕ, Bool, true, false, cond, List, [], ◌∷◌, fold, Option, Some, None, ap}
use Rattle.std.proofs.Common.{refl, inl, inr}
use Rattle.std.specs.Prelude.{is_none}
use Rattle.std.specs.Ordering.{is_lt, nat_cmp}
use Rattle.std.specs.Cmp.Lexicographic.{slice_cmp}
use Rattle.apex_base.specs.declared.numbers.SessionId.{SessionId}
use Rattle.apex_base.specs.declared.records.Case.{Case}
use Rattle.apex_base.specs.declared.records.Pick.{Pick}
use Rattle.apex_base.specs.declared.records.Place.{Place}
use Rattle.apex_base.specs.declared.records.Place.TheVariants.{Data, Pre}
use Rattle.apex_base.specs.declared.records.Record.{Record}
use Rattle.apex_base.specs.declared.records.Target.{Target}
use Rattle.apex_base.specs.declared.records.Target.TheVariants as targets
use Rattle.apex_base.specs.Members.{In}
use Rattle.apex_world.specs.declared.modules.Package.{Package}
use Rattle.apex_world.specs.declared.world.Submission.{Submission}
use Rattle.apex_world.specs.Selection.{Mounts, preinstalled_case, submitted_by, submitted_case, target_case, fallback}
use Rattle.apex_world.specs.Selection.{choice, pick_of, with_pick, chosen}

-- A pick among others

self_if : (p q : Pick) (qs : List Pick) (b : Bool) → In p (with_pick p qs)
    → In p (cond b (q ∷ with_pick p qs) (p ∷ q ∷ qs))
self_if p q qs true h = inr h
self_if p q qs false h = inl refl

pick_self : (p : Pick) (qs : List Pick) → In p (with_pick p qs)
pick_self p [] = inl refl
pick_self p (q ∷ qs) = self_if p q qs (is_lt (slice_cmp nat_cmp q.name p.name)) (pick_self p qs)

stays_if : (x p q : Pick) (qs : List Pick) (b : Bool) → (In x qs → In x (with_pick p qs)) → In x (q ∷ qs)
    → In x (cond b (q ∷ with_pick p qs) (p ∷ q ∷ qs))
stays_if x p q qs true rest (inl e) = inl e
stays_if x p q qs true rest (inr h) = inr (rest h)
stays_if x p q qs false rest h = inr h

pick_stays : (x p : Pick) (qs : List Pick) → In x qs → In x (with_pick p qs)
pick_stays x p [] h = absurd h
pick_stays x p (q ∷ qs) h = stays_if x p q qs (is_lt (slice_cmp nat_cmp q.name p.name)) (pick_stays x p qs) h

any_if : (x p q : Pick) (qs : List Pick) (b : Bool) → (In x (with_pick p qs) → (p ≡ x) ⊎ In x qs)
    → In x (cond b (q ∷ with_pick p qs) (p ∷ q ∷ qs)) → (p ≡ x) ⊎ In x (q ∷ qs)
any_if x p q qs true rest (inl e) = inr (inl e)
any_if x p q qs true rest (inr h) =
    elim (rest h) [
      | inl e ↦ inl e
      | inr i ↦ inr (inr i)
    ]
any_if x p q qs false rest (inl e) = inl e
any_if x p q qs false rest (inr h) = inr h

pick_any : (x p : Pick) (qs : List Pick) → In x (with_pick p qs) → (p ≡ x) ⊎ In x qs
pick_any x p [] (inl e) = inl e
pick_any x p [] (inr h) = absurd h
pick_any x p (q ∷ qs) h = any_if x p q qs (is_lt (slice_cmp nat_cmp q.name p.name)) (pick_any x p qs) h

-- All picks

module _ (g : Package → Pick) where
  abbrev picks : List Pick → List Package → List Pick
  picks ps ms = fold (λ ps m. with_pick (g m) ps) ps ms

  picks_stay : (ms : List Package) (ps : List Pick) (x : Pick) → In x ps → In x (picks ps ms)
  picks_stay [] ps x h = h
  picks_stay (m ∷ ms) ps x h = picks_stay ms (with_pick (g m) ps) x (pick_stays x (g m) ps h)

  picks_in : (ms : List Package) (ps : List Pick) (m : Package) → In m ms → In (g m) (picks ps ms)
  picks_in [] ps m h = absurd h
  picks_in (n ∷ ms) ps m (inl e) = picks_stay ms (with_pick (g n) ps) (g m) (rw (← e) (pick_self (g n) ps))
  picks_in (n ∷ ms) ps m (inr h) = picks_in ms (with_pick (g n) ps) m h

  picks_back : (ms : List Package) (ps : List Pick) (x : Pick) → In x (picks ps ms)
      → In x ps ⊎ ((m : Package) × In m ms × (g m ≡ x))
  picks_back [] ps x h = inl h
  picks_back (m ∷ ms) ps x h =
      elim (picks_back ms (with_pick (g m) ps) x h) [
        | inl i ↦ elim (pick_any x (g m) ps i) [
          | inl e ↦ inr (m, inl refl, e)
          | inr j ↦ inl j
        ]
        | inr (n, i, e) ↦ inr (n, inr i, e)
      ]

module _ (mounts : Mounts) (modules : List Submission) (sessions : List Record) (image : List Package) where
  -- each module of the image has its pick
  pub chosen_in : (m : Package) → In m image → In (pick_of mounts modules sessions m)
      (chosen mounts modules sessions image)
  chosen_in m h = picks_in (pick_of mounts modules sessions) image [] m h

  -- and there are no others
  pub chosen_back : (q : Pick) → In q (chosen mounts modules sessions image)
      → (m : Package) × In m image × (pick_of mounts modules sessions m ≡ q)
  chosen_back q h =
      elim (picks_back (pick_of mounts modules sessions) image [] q h) [
        | inl i ↦ absurd i
        | inr i ↦ i
      ]

-- What is chosen of one module

abbrev pub chosen_from : Target → Package → Option (ℕ × Place)
chosen_from targets.Preinstalled m = Some (m.version, Pre)
chosen_from (targets.Module session part version) m = Some (version, Data)

-- a target that works is chosen
pub choice_works : (mounts : Mounts) (modules : List Submission) (t : Target) (m : Package)
    → target_case mounts modules t m ≡ None → choice mounts modules t m ≡ chosen_from t m
choice_works mounts modules targets.Preinstalled m e = ap
    (λ (o : Option Case). cond (is_none o) (Some (m.version, Pre)) None) e
choice_works mounts modules (targets.Module session part version) m e = ap
    (λ (o : Option Case). cond (is_none o) (Some (version, Data)) (fallback mounts m)) e

abbrev on_data : Option (ℕ × Place) → Option ℕ
on_data None = None
on_data (Some (version, Data)) = Some version
on_data (Some (version, Pre)) = None

fallback_pre : (b : Bool) (m : Package) (version : ℕ)
    → ◌≡◌ {A = Option (ℕ × Place)} (cond b (Some (m.version, Pre)) None) (Some (version, Data)) → ⊥
fallback_pre true m version e = let f : ◌≡◌ {A = Option ℕ} None (Some version) = ap on_data e in absurd (cc)
fallback_pre false m version e = let f : ◌≡◌ {A = Option ℕ} None (Some version) = ap on_data e in absurd (cc)

data_if : (b : Bool) (mounts : Mounts) (m : Package) (v version : ℕ)
    → cond b (Some (v, Data)) (fallback mounts m) ≡ Some (version, Data) → v ≡ version
data_if true mounts m v version e = let f : ◌≡◌ {A = Option ℕ} (Some v) (Some version) = ap on_data e in cc
data_if false mounts m v version e = absurd (fallback_pre (is_none (preinstalled_case mounts m)) m version e)

-- a module on data that is chosen is the target
pub choice_data : (mounts : Mounts) (modules : List Submission) (t : Target) (m : Package) (version : ℕ)
    → choice mounts modules t m ≡ Some (version, Data)
    → (session : SessionId) × (part : ℕ) × (t ≡ targets.Module session part version)
choice_data mounts modules targets.Preinstalled m version e = absurd
    (fallback_pre (is_none (preinstalled_case mounts m)) m version e)
choice_data mounts modules (targets.Module session part v) m version e =
    let same = data_if (is_none (submitted_case mounts (submitted_by modules session part) v m)) mounts m v version e in
    (session, part, ap (λ (n : ℕ). targets.Module session part n) same)
