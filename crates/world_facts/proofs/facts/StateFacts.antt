-- What a state passes, it passes another test too, since each of the eight does. Callers want the facts by their names,
-- and `implied` and `excluded` for others.
use Rattle.std.proofs.Common.{◌≡◌, Bool, true, false, ◌&&◌, ◌||◌, List, [], ◌∷◌, Some, sym, ◌∙◌, refl, inl, inr, ap}
use Rattle.std.specs.Prelude.{not}
use Rattle.std.specs.List.{list_all}
use Rattle.std.proofs.lemmas.Bool.{false≢true, and_parts}
use Rattle.apex_base.specs.declared.moves.Move.TheVariants as step_of
use Rattle.apex_base.specs.declared.records.State.{State}
use Rattle.apex_base.specs.declared.records.State.TheVariants as state
use Rattle.apex_base.specs.Commit.{is_waiting}
use Rattle.apex_base.specs.Held.{is_unfinished, is_undoable, is_standing, is_success, is_staged}
use Rattle.apex_base.specs.Members.{In}
use Rattle.apex_base.specs.Moves.{moved}
use Rattle.apex_world.specs.Lawful.{never_activated}

-- Each of the eight

abbrev states : List State
states =
    state.Verified ∷ state.Staged ∷ state.Activated ∷ state.ActivationFailed ∷ state.Success ∷ state.RevertInProgress ∷
    state.Reverted ∷ state.Aborted ∷ []

pub all_in : {X : Type 0} (test : X → Bool) (xs : List X) (x : X) → list_all test xs ≡ true → In x xs → test x ≡ true
all_in test [] x e h = absurd h
all_in test (y ∷ ys) x e (inl same) = ap test (sym same) ∙ (and_parts (test y) (list_all test ys) e).0
all_in test (y ∷ ys) x e (inr h) = all_in test ys x (and_parts (test y) (list_all test ys) e).1 h

in_states : (s : State) → In s states
in_states state.Verified = inl refl
in_states state.Staged = inr (inl refl)
in_states state.Activated = inr (inr (inl refl))
in_states state.ActivationFailed = inr (inr (inr (inl refl)))
in_states state.Success = inr (inr (inr (inr (inl refl))))
in_states state.RevertInProgress = inr (inr (inr (inr (inr (inl refl)))))
in_states state.Reverted = inr (inr (inr (inr (inr (inr (inl refl))))))
in_states state.Aborted = inr (inr (inr (inr (inr (inr (inr (inl refl)))))))

implied_if : (a b : Bool) → (not a || b) ≡ true → a ≡ true → b ≡ true
implied_if true b e f = e
implied_if false b e f = absurd (false≢true f)

-- a state that passes the first test passes the second
pub implied : (first second : State → Bool) → list_all (λ s. not (first s) || second s) states ≡ true
    → (s : State) → first s ≡ true → second s ≡ true
implied first second e s =
    implied_if (first s) (second s) (all_in (λ s. not (first s) || second s) states s e (in_states s))

excluded_if : (a b : Bool) → not (a && b) ≡ true → a ≡ true → b ≡ false
excluded_if true true e f = absurd (false≢true e)
excluded_if true false e f = refl
excluded_if false b e f = absurd (false≢true f)

-- a state that passes the first test doesn't pass the second
pub excluded : (first second : State → Bool) → list_all (λ s. not (first s && second s)) states ≡ true
    → (s : State) → first s ≡ true → second s ≡ false
excluded first second e s =
    excluded_if (first s) (second s) (all_in (λ s. not (first s && second s)) states s e (in_states s))

-- Facts

pub undoable_stands : (s : State) → is_undoable s ≡ true → is_standing s ≡ true
undoable_stands = implied is_undoable is_standing refl

pub success_stands : (s : State) → is_success s ≡ true → is_standing s ≡ true
success_stands = implied is_success is_standing refl

pub undoable_unfinished : (s : State) → is_undoable s ≡ true → is_unfinished s ≡ true
undoable_unfinished = implied is_undoable is_unfinished refl

pub staged_unfinished : (s : State) → is_staged s ≡ true → is_unfinished s ≡ true
staged_unfinished = implied is_staged is_unfinished refl

pub stands_activated : (s : State) → is_standing s ≡ true → never_activated s ≡ false
stands_activated = excluded is_standing never_activated refl

pub undoable_activated : (s : State) → is_undoable s ≡ true → never_activated s ≡ false
undoable_activated = excluded is_undoable never_activated refl

pub success_activated : (s : State) → is_success s ≡ true → never_activated s ≡ false
success_activated = excluded is_success never_activated refl

pub success_finished : (s : State) → is_success s ≡ true → is_unfinished s ≡ false
success_finished = excluded is_success is_unfinished refl

pub waits_no_success : (s : State) → is_waiting s ≡ true → is_success s ≡ false
waits_no_success = excluded is_waiting is_success refl

pub unfinished_no_success : (s : State) → is_unfinished s ≡ true → is_success s ≡ true → ⊥
unfinished_no_success s e f = false≢true (sym (excluded is_unfinished is_success refl s e) ∙ f)

pub undoable_no_success : (s : State) → is_undoable s ≡ true → is_success s ≡ true → ⊥
undoable_no_success s e f = false≢true (sym (excluded is_undoable is_success refl s e) ∙ f)

-- only an activated session succeeds anew
pub success_from : (s t : State) → moved s step_of.Success ≡ Some t → is_success s ≡ false → s ≡ state.Activated
success_from state.Verified t e f = absurd (cc)
success_from state.Staged t e f = absurd (cc)
success_from state.Activated t e f = refl
success_from state.ActivationFailed t e f = absurd (cc)
success_from state.Success t e f = absurd (cc)
success_from state.RevertInProgress t e f = absurd (cc)
success_from state.Reverted t e f = absurd (cc)
success_from state.Aborted t e f = absurd (cc)
