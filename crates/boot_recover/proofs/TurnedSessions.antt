-- What a boot by rows leaves of a session. Callers want `become_kept`, `become_room` and `become_rests`.
use Rattle.std.proofs.Common.{◌≡◌, ◌⊎◌, ℕ, ◌<◌, Bool, true, false, cond, List, [], length, Option, Some, None, sym, ap}
use Rattle.std.proofs.Common.{subst, ◌∙◌, refl}
use Rattle.std.specs.List.{AllByRecursion}
use Rattle.apex_base.specs.declared.numbers.SessionId.{SessionId}
use Rattle.apex_base.specs.declared.records.Cause.{Cause}
use Rattle.apex_base.specs.declared.records.Part.{Part}
use Rattle.apex_base.specs.declared.records.Record.{Record}
use Rattle.apex_base.specs.declared.records.RollbackState.{RollbackState}
use Rattle.apex_base.specs.declared.records.State.{State}
use Rattle.apex_base.specs.declared.records.State.TheVariants as state
use Rattle.apex_base.specs.Keys.{RowMap}
use Rattle.apex_base.specs.Moves.{state_number}
use Rattle.apex_base.specs.Rollbacks.{given_up, no_longer, is_expired}
use Rattle.apex_world.specs.declared.calls.BootOrder.{BootOrder}
use Rattle.apex_world.specs.declared.calls.Image.{Image}
use Rattle.apex_world.specs.Boot.{reverted_in, reverted, rebuilt_in, rebuilt, activated_in, is_same_build}
use Rattle.apex_world.specs.Boot.{keeps_rollback}
use Rattle.apex_world.specs.Boot.{kept_in, aged}
use Rattle.world_laws.specs.BootByRows.{cause_in, activated_by_rows, become_in}
use Rattle.world_facts.specs.Follows.{IsKeptAs}
use Rattle.apex_world.specs.Selection.{Mounts}
use Rattle.session_record.specs.Room.{HasRoom, HasPartNumber}
use Rattle.world_facts.proofs.facts.LeadsLemmas.{changed, kept_on}
use Rattle.world_facts.proofs.facts.PlainLemmas.{reverted_keeps, rebuilt_kept, activated_keeps}

-- What stays

module _ (mounts : Mounts) (rows : RowMap) (order : BootOrder) (b : ℕ) (r : Record) where
  abbrev second : Record
  second = reverted r

  abbrev third : Record
  third = rebuilt order.image second

  abbrev fourth : Record
  fourth = activated_by_rows mounts rows order b third

  fourth_keeps : IsKeptAs r fourth
  fourth_keeps =
      kept_on r second fourth (reverted_keeps r.state r).0
      (kept_on second third fourth (rebuilt_kept order.image second) (activated_keeps third.state
      (is_same_build order.image third) (cause_in mounts rows order.image.modules third.parts) b third).0)

  -- a session keeps its id, its children, its kind and its parts
  pub become_kept : IsKeptAs r (become_in mounts rows order b r)
  become_kept =
      kept_on r fourth (become_in mounts rows order b r) fourth_keeps (changed fourth)

  -- and its spelling has room
  pub become_room : HasRoom r → HasRoom (become_in mounts rows order b r)
  become_room room =
      let k = fourth_keeps in record {
        few = subst (λ (ps : List Part). length ps < 256) (sym k.parts) room.few;
        numbers = subst (λ (ps : List Part). AllByRecursion (λ (p : Part). HasPartNumber p.target) ps) (sym k.parts)
            room.numbers;
        count = subst (λ (ps : List Part). (fourth.children ≡ []) ⊎ (length fourth.children ≡ length ps)) (sym k.parts)
            (subst (λ (cs : List SessionId). (cs ≡ []) ⊎ (length cs ≡ length r.parts)) (sym k.children) room.count);
      }

-- What rests

kept_none : (s : State) (o : Option RollbackState) → o ≡ None → kept_in s o ≡ o
kept_none state.Verified o e = refl
kept_none state.Staged o e = refl
kept_none state.Activated o e = refl
kept_none state.ActivationFailed o e = rw e refl
kept_none state.Success o e = refl
kept_none state.RevertInProgress o e = refl
kept_none state.Reverted o e = rw e refl
kept_none state.Aborted o e = refl

aged_if : (b : Bool) (s : State) (o : Option RollbackState) → o ≡ None → cond b (no_longer o) (kept_in s o) ≡ o
aged_if true s o e = rw e refl
aged_if false s o e = kept_none s o e

rebuilt_if : (b : Bool) (o : Option RollbackState) → o ≡ None → cond b o (given_up o) ≡ o
rebuilt_if true o e = refl
rebuilt_if false o e = rw e refl

-- without rollbacks there is nothing to age or to give up
aged_plain : (t : ℕ) (r : Record) → r.rollback ≡ None → aged t r ≡ r
aged_plain t r e = ap (λ (o : Option RollbackState). record r { rollback = o })
    (aged_if (is_expired t r) r.state r.rollback e)

rebuilt_rollback : (s : State) (b : Bool) (r : Record) → (rebuilt_in s b r).rollback ≡ r.rollback
rebuilt_rollback state.Verified b r = refl
rebuilt_rollback state.Staged b r = refl
rebuilt_rollback state.Activated true r = refl
rebuilt_rollback state.Activated false r = refl
rebuilt_rollback state.ActivationFailed b r = refl
rebuilt_rollback state.Success b r = refl
rebuilt_rollback state.RevertInProgress b r = refl
rebuilt_rollback state.Reverted b r = refl
rebuilt_rollback state.Aborted b r = refl

rebuilt_plain : (image : Image) (r : Record) → r.rollback ≡ None
    → rebuilt image r ≡ rebuilt_in r.state (is_same_build image r) r
rebuilt_plain image r e =
    let x = rebuilt_in r.state (is_same_build image r) r in
    ap (λ (o : Option RollbackState). record x { rollback = o })
    (rebuilt_if (keeps_rollback image r) r.rollback e ∙ sym (rebuilt_rollback r.state (is_same_build image r) r))

-- the steps of a session in a state, by whether it is of this build and by why it doesn't work
abbrev stepped : Bool → Record → Record
stepped a r = rebuilt_in r.state a r

abbrev steps : State → Bool → Bool → Option Cause → ℕ → Record → Record
steps s a c cause b r =
    let third = stepped a (reverted_in s (record r { state = s })) in activated_in third.state c cause b third

-- a session whose state stays is as it was
rests_in : (s : State) (a c : Bool) (cause : Option Cause) (b : ℕ) (r : Record)
    → state_number s ≡ state_number (steps s a c cause b r).state → steps s a c cause b r ≡ record r { state = s }
rests_in state.Verified a c cause b r e = refl
rests_in state.Staged a true None b r e = absurd (cc)
rests_in state.Staged a true (Some cause) b r e = absurd (cc)
rests_in state.Staged a false cause b r e = absurd (cc)
rests_in state.Activated true c None b r e = refl
rests_in state.Activated true c (Some cause) b r e = absurd (cc)
rests_in state.Activated false c cause b r e = absurd (cc)
rests_in state.ActivationFailed a c cause b r e = refl
rests_in state.Success a c cause b r e = refl
rests_in state.RevertInProgress a c cause b r e = absurd (cc)
rests_in state.Reverted a c cause b r e = refl
rests_in state.Aborted a c cause b r e = refl

module _ (mounts : Mounts) (rows : RowMap) (order : BootOrder) (b : ℕ) (r : Record) (none : r.rollback ≡ None) where
  abbrev two : Record
  two = reverted r

  abbrev three : Record
  three = rebuilt_in two.state (is_same_build order.image two) two

  abbrev four : Record
  four = activated_by_rows mounts rows order b three

  two_none : two.rollback ≡ None
  two_none = (reverted_keeps r.state r).1 ∙ none

  four_none : four.rollback ≡ None
  four_none =
      (activated_keeps three.state (is_same_build order.image three)
      (cause_in mounts rows order.image.modules three.parts) b three).1
      ∙ rebuilt_rollback two.state (is_same_build order.image two) two ∙ two_none

  become_steps : become_in mounts rows order b r ≡ four
  become_steps =
      ap (λ (x : Record). aged order.time (activated_by_rows mounts rows order b x))
      (rebuilt_plain order.image two two_none)
      ∙ aged_plain order.time four four_none

  -- a session without a rollback whose state stays is as it was
  pub become_rests : state_number r.state ≡ state_number (become_in mounts rows order b r).state
      → become_in mounts rows order b r ≡ r
  become_rests e = become_steps
      ∙ rests_in r.state (is_same_build order.image two) (is_same_build order.image three)
      (cause_in mounts rows order.image.modules three.parts) b r
      (e ∙ ap (λ (x : Record). state_number x.state) become_steps)
