-- In a plain world a success is a move, and a boot is what is left of it (`Plain`). Callers want `success_plain`,
-- `boot_world_plain`, `boot_reply_plain`, and that a world stays plain: `empty_plain`, `submit_plain`, `move_plain`,
-- `boot_plain`.
use Rattle.std.proofs.Common.{◌≡◌, ℕ, Bool, true, false, cond, max, List, [], ◌∷◌, ◌++◌, length, map, fold, flat_map, Option, Some, None, Result, Ok, Err, sym, ap, subst, ◌∙◌, refl, inl, inr, is_some, if◌then◌else◌}
use Rattle.std.specs.Option.{option_map}
use Rattle.std.specs.FinMap as fin
use Rattle.std.specs.FinMap.{same_map, slice_cmp-IsAntisymmetric, nat_cmp-IsAntisymmetric, get-empty, get-retain_keys}
use Rattle.std.specs.Ordering.{nat_cmp}
use Rattle.std.specs.Cmp.Lexicographic.{slice_cmp, nat_list_cmp_total}
use Rattle.apex_base.specs.declared.numbers.Scale.{Scale}
use Rattle.apex_base.specs.declared.numbers.SessionId.{SessionId}
use Rattle.apex_base.specs.declared.records.Cause.{Cause}
use Rattle.apex_base.specs.declared.records.Kind.{Kind}
use Rattle.apex_base.specs.declared.records.Kind.TheVariants.{Plain}
use Rattle.apex_base.specs.declared.records.Record.{Record}
use Rattle.apex_base.specs.declared.records.RollbackState.{RollbackState}
use Rattle.apex_base.specs.declared.records.State.{State}
use Rattle.apex_base.specs.declared.records.State.TheVariants as state
use Rattle.apex_base.specs.declared.moves.Move.{Move}
use Rattle.apex_base.specs.declared.moves.Move.TheVariants as step_of
use Rattle.apex_base.specs.Members.{In}
use Rattle.apex_base.specs.Moves.{moved}
use Rattle.apex_base.specs.Rollbacks.{is_enabling, no_longer, not_enabled, given_up, is_expired}
use Rattle.apex_base.specs.Sessions.{session_of, with_session, shares, Ascend}
use Rattle.apex_base.specs.Windows.{is_looping}
use Rattle.apex_base.proofs.MemberLemmas.{in_map_back, map_same, in_map}
use Rattle.apex_base.proofs.SessionLemmas.{ascend_with, with_any, of_found, of_in, with_found, ascend_map}
use Rattle.apex_world.specs.declared.calls.BootOrder.{BootOrder}
use Rattle.apex_world.specs.declared.calls.Image.{Image}
use Rattle.apex_world.specs.declared.world.Submission.{Submission}
use Rattle.apex_world.specs.Advance.{rollback_after, move_to, move_found, move_session, outdated_by, after_success, success_to, success_found, success, succeeding}
use Rattle.apex_world.specs.Boot.{reverted_in, reverted, rebuilt_in, rebuilt, activated_in, booted, aged, become, started, boot_world, boot_reply, boot_loop, after_loop, changed_to, changed_in, changes, told_loop, is_same_build, keeps_rollback, kept_in, counted, settled, selected, running}
use Rattle.world_facts.specs.Plain.{IsPlainSession, IsPlain, plain_boot_world, plain_boot_reply, plain_changes, plain_settled, plain_started}
use Rattle.apex_world.specs.Restore.{restored, restored_by, of_image, restored_to, era_for}
use Rattle.apex_world.specs.Selection.{Mounts, cause_of, preinstalled}
use Rattle.apex_world.specs.Stepped.{done, replied}
use Rattle.apex_world.specs.World.{World, Contents, Watches, empty_world}
use Rattle.apex_base.specs.declared.records.RollbackState.TheVariants.{Available}
use Rattle.apex_base.specs.Held.{is_success}
use Rattle.apex_base.specs.Tables.{NameMap, with_part, part_of}
use Rattle.apex_base.specs.declared.refusal.Refusal.{Refusal}
use Rattle.apex_base.specs.Modules.{FileMap}
use Rattle.apex_base.specs.Results.{◌>>=◌}
use Rattle.apex_world.specs.declared.calls.Observer.{Observer}
use Rattle.apex_world.specs.declared.modules.Package.{Package}
use Rattle.apex_world.specs.Step.{submit}
use Rattle.apex_world.specs.Submit.{pass, admitted, entered, new_session, image_print, within_scale, sessions_full, store_full}
use Rattle.apex_world.specs.Trigger.{Triggered, triggered, eligible}
use Rattle.apex_world.specs.Watching.{watches_after, lasting}
use Rattle.world_facts.specs.Follows.{IsKeptAs}
use Rattle.world_facts.proofs.facts.LeadsLemmas.{changed, same, kept_on}

-- Fields that stay

with_same : (r : Record) (o : Option RollbackState) → o ≡ r.rollback → record r { rollback = o } ≡ r
with_same r o e = ap (λ (o : Option RollbackState). record r { rollback = o }) e

if_same : {X : Type 0} (b : Bool) (x y : X) → x ≡ y → cond b x y ≡ y
if_same true x y e = e
if_same false x y e = refl

if_false : {X : Type 0} (b : Bool) (x y : X) → b ≡ false → cond b x y ≡ y
if_false b x y e = ap (λ (b : Bool). cond b x y) e

if_true : {X : Type 0} (b : Bool) (x y : X) → b ≡ true → cond b x y ≡ x
if_true b x y e = ap (λ (b : Bool). cond b x y) e

-- Success

outdated_same : (x r : Record) → r.rollback ≡ None → outdated_by x r ≡ r
outdated_same x r e = if_same (shares r x) (record r {
  rollback =
      no_longer r.rollback;
}) r (with_same r (no_longer r.rollback) (ap no_longer e ∙ sym e))

succeeding_same : (clock : ℕ) (r : Record) → r.rollback ≡ None → succeeding clock r ≡ record r { state = state.Success }
succeeding_same clock r e = if_false (is_enabling r.rollback) (record r {
  state = state.Success;
  rollback =
      Some Available;
  moment = clock;
}) (record r { state = state.Success }) (ap is_enabling e)

after_same : (clock : ℕ) (r : Record) (ss : List Record) → r.rollback ≡ None → ((s : Record) → In s ss
    → s.rollback ≡ None) → after_success clock r ss ≡ with_session (record r { state = state.Success }) ss
after_same clock r ss e all =
    ap (λ (ss : List Record). with_session (succeeding clock r) ss) (map_same (outdated_by r) ss
    (λ s h. outdated_same r s (all s h)))
    ∙ ap (λ (s : Record). with_session s ss) (succeeding_same clock r e)

abbrev success_sessions : World → ℕ → Record → List Record
success_sessions w clock r = if is_success r.state then w.sessions else after_success clock r w.sessions

module _ (w : World) (plain : IsPlain w) (clock : ℕ) (id : SessionId) (r : Record)
    (found : session_of w.sessions id ≡ Some r) where
  none : r.rollback ≡ None
  none = (plain.sessions r (of_found w.sessions id r found).0).rollback

  -- the sessions after it, in each state from which it may be made
  moved_same : (st s : State) → r.state ≡ st → moved st step_of.Success ≡ Some s
      → success_sessions w clock r ≡ with_session (record r {
        state = s;
        rollback =
            rollback_after step_of.Success r.rollback;
      }) w.sessions
  moved_same state.Verified s e m = absurd (cc)
  moved_same state.Staged s e m = absurd (cc)
  moved_same state.Activated s e m =
      let goes : state.Success ≡ s = cc in
      if_false (is_success r.state) w.sessions (after_success clock r w.sessions) (ap is_success e)
      ∙ after_same clock r w.sessions none (λ x h. (plain.sessions x h).rollback)
      ∙ ap (λ (s : State). with_session (record r { state = s }) w.sessions) goes
  moved_same state.ActivationFailed s e m = absurd (cc)
  moved_same state.Success s e m =
      let goes : r.state ≡ s = cc in
      if_true (is_success r.state) w.sessions (after_success clock r w.sessions) (ap is_success e)
      ∙ sym (with_found w.sessions id r found)
      ∙ ap (λ (s : State). with_session (record r { state = s }) w.sessions) goes
  moved_same state.RevertInProgress s e m = absurd (cc)
  moved_same state.Reverted s e m = absurd (cc)
  moved_same state.Aborted s e m = absurd (cc)

  success_if : (o : Option State) → moved r.state step_of.Success ≡ o
      → success_to w clock r o ≡ move_to w clock r step_of.Success o
  success_if None e = refl
  success_if (Some s) e = ap (λ (ss : List Record). done (record w {
    sessions = ss;
    clock =
        clock;
  })) (moved_same r.state s refl e)

found_same : (w : World) → IsPlain w → (clock : ℕ) (id : SessionId) (o : Option Record) → session_of w.sessions id ≡ o
    → success_found w clock id o ≡ move_found w clock id step_of.Success o
found_same w plain clock id None e = refl
found_same w plain clock id (Some r) e = success_if w plain clock id r e (moved r.state step_of.Success) refl

-- in a plain world a success is a move
pub success_plain : (w : World) → IsPlain w → (time : ℕ) (id : SessionId)
    → success w time id ≡ move_session w (max w.clock time) id step_of.Success
success_plain w plain time id = found_same w plain (max w.clock time) id (session_of w.sessions id) refl

-- Boots of sessions

pub reverted_keeps : (st : State) (r : Record)
    → IsKeptAs r (reverted_in st r) × ((reverted_in st r).rollback ≡ r.rollback)
reverted_keeps state.Verified r = (same r, refl)
reverted_keeps state.Staged r = (same r, refl)
reverted_keeps state.Activated r = (same r, refl)
reverted_keeps state.ActivationFailed r = (same r, refl)
reverted_keeps state.Success r = (same r, refl)
reverted_keeps state.RevertInProgress r = (changed r, refl)
reverted_keeps state.Reverted r = (same r, refl)
reverted_keeps state.Aborted r = (same r, refl)

rebuilt_keeps : (st : State) (b : Bool) (r : Record) → IsKeptAs r (rebuilt_in st b r)
rebuilt_keeps state.Verified b r = same r
rebuilt_keeps state.Staged b r = same r
rebuilt_keeps state.Activated true r = same r
rebuilt_keeps state.Activated false r = changed r
rebuilt_keeps state.ActivationFailed b r = same r
rebuilt_keeps state.Success b r = same r
rebuilt_keeps state.RevertInProgress b r = same r
rebuilt_keeps state.Reverted b r = same r
rebuilt_keeps state.Aborted b r = same r

pub rebuilt_kept : (image : Image) (r : Record) → IsKeptAs r (rebuilt image r)
rebuilt_kept image r =
    let s = rebuilt_in r.state (is_same_build image r) r in
    kept_on r s (rebuilt image r) (rebuilt_keeps r.state (is_same_build image r) r) (changed s)

pub activated_keeps : (st : State) (b : Bool) (cause : Option Cause) (n : ℕ) (r : Record)
    → IsKeptAs r (activated_in st b cause n r) × ((activated_in st b cause n r).rollback ≡ r.rollback)
activated_keeps state.Verified b cause n r = (same r, refl)
activated_keeps state.Staged true None n r = (changed r, refl)
activated_keeps state.Staged true (Some cause) n r = (changed r, refl)
activated_keeps state.Staged false cause n r = (changed r, refl)
activated_keeps state.Activated b None n r = (same r, refl)
activated_keeps state.Activated b (Some cause) n r = (changed r, refl)
activated_keeps state.ActivationFailed b cause n r = (same r, refl)
activated_keeps state.Success b cause n r = (same r, refl)
activated_keeps state.RevertInProgress b cause n r = (same r, refl)
activated_keeps state.Reverted b cause n r = (same r, refl)
activated_keeps state.Aborted b cause n r = (same r, refl)

module _ (mounts : Mounts) (modules : List Submission) (image : Image) (n : ℕ) (r : Record) where
  abbrev second : Record
  second = reverted r

  abbrev third : Record
  third = rebuilt image second

  pub booted_keeps : IsKeptAs r (booted mounts modules image n r)
  booted_keeps =
      kept_on r second (booted mounts modules image n r) (reverted_keeps r.state r).0
      (kept_on second third (booted mounts modules image n r) (rebuilt_kept image second) (activated_keeps third.state
      (is_same_build image third) (cause_of mounts modules image.modules third.parts) n third).0)

  booted_none : r.rollback ≡ None → (booted mounts modules image n r).rollback ≡ None
  booted_none e =
      let none : second.rollback ≡ None = (reverted_keeps r.state r).1 ∙ e in
      (activated_keeps third.state (is_same_build image third)
      (cause_of mounts modules image.modules third.parts) n third).1
      ∙ ap (λ (o : Option RollbackState). cond (keeps_rollback image second) o (given_up o)) none
      ∙ if_same (keeps_rollback image second) None None refl

kept_none : (st : State) (o : Option RollbackState) → o ≡ None → kept_in st o ≡ o
kept_none state.Verified o e = refl
kept_none state.Staged o e = refl
kept_none state.Activated o e = refl
kept_none state.ActivationFailed o e = ap not_enabled e ∙ sym e
kept_none state.Success o e = refl
kept_none state.RevertInProgress o e = refl
kept_none state.Reverted o e = ap not_enabled e ∙ sym e
kept_none state.Aborted o e = refl

aged_same : (t : ℕ) (r : Record) → r.rollback ≡ None → aged t r ≡ r
aged_same t r e =
    with_same r (if is_expired t r then no_longer r.rollback else kept_in r.state r.rollback)
    (if_same (is_expired t r) (no_longer r.rollback) (kept_in r.state r.rollback) (ap no_longer e ∙ sym e
    ∙ sym (kept_none r.state r.rollback e)) ∙ kept_none r.state r.rollback e)

become_same : (mounts : Mounts) (modules : List Submission) (order : BootOrder) (n : ℕ) (r : Record) → r.rollback ≡ None
    → become mounts modules order n r ≡ booted mounts modules order.image n r
become_same mounts modules order n r e =
    aged_same order.time (booted mounts modules order.image n r) (booted_none mounts modules order.image n r e)

pub map_by : {X Y : Type 0} (f g : X → Y) (xs : List X) → ((x : X) → In x xs → f x ≡ g x) → map f xs ≡ map g xs
map_by f g [] e = refl
map_by f g (x ∷ xs) e = let here = e x (inl refl) in let rest = map_by f g xs (λ y h. e y (inr h)) in cc (here, rest)

pub flat_map_by : {X Y : Type 0} (f g : X → List Y) (xs : List X) → ((x : X) → In x xs → f x ≡ g x)
    → flat_map f xs ≡ flat_map g xs
flat_map_by f g [] e = refl
flat_map_by f g (x ∷ xs) e = let here = e x (inl refl) in let rest = flat_map_by f g xs (λ y h. e y (inr h)) in
    cc (here, rest)

-- Boots of data and watches

restored_same : (eras : List Contents) (ss : List Record) (f : Record → Record) (xs : List Record) (c : Contents)
    → ((r : Record) → In r xs → (f r).kind ≡ Plain) → fold (λ c r. restored_by eras ss r (f r) c) c xs ≡ c
restored_same eras ss f [] c plain = refl
restored_same eras ss f (r ∷ xs) c plain =
    ap (λ (c : Contents). fold (λ c r. restored_by eras ss r (f r) c) c xs) (ap
    (λ (k : Kind). restored_to eras (f r).parts (era_for ss r (f r) k) c) (plain r (inl refl)))
    ∙ restored_same eras ss f xs c (λ s h. plain s (inr h))

of_nothing : (image : Image) → of_image image fin.empty ≡ fin.empty
of_nothing image =
    same_map nat_list_cmp_total (slice_cmp-IsAntisymmetric nat_cmp-IsAntisymmetric) (of_image image fin.empty) fin.empty
    (λ q. get-retain_keys fin.empty (λ name. is_some (preinstalled image.modules name)) q (λ x t. ap
    (λ (name : List ℕ). is_some (preinstalled image.modules name)) (sym
    (slice_cmp-IsAntisymmetric nat_cmp-IsAntisymmetric q x t)))
    ∙ ap (λ (o : Option (NameMap (List ℕ))). cond (is_some (preinstalled image.modules q)) o None) (get-empty
    (slice_cmp nat_cmp) q)
    ∙ if_same (is_some (preinstalled image.modules q)) None None refl
    ∙ sym (get-empty (slice_cmp nat_cmp) q))

-- Boots of worlds

module _ (w : World) (plain : IsPlain w) (order : BootOrder) (alone : order.observers ≡ []) (mounts : Mounts) where
  abbrev counted_world : World
  counted_world = counted w

  abbrev number : ℕ
  number = length counted_world.eras

  sessions_same : map (become mounts w.modules order number) w.sessions ≡ map
      (booted mounts w.modules order.image number) w.sessions
  sessions_same = map_by (become mounts w.modules order number) (booted mounts w.modules order.image number) w.sessions
      (λ r h. become_same mounts w.modules order number r (plain.sessions r h).rollback)

  become_kind : (r : Record) → In r w.sessions → (become mounts w.modules order number r).kind ≡ Plain
  become_kind r h = (booted_keeps mounts w.modules order.image number r).kind ∙ (plain.sessions r h).kind

  contents_same : of_image order.image (restored
      (become mounts w.modules order number) counted_world.eras w.sessions w.contents) ≡ w.contents
  contents_same =
      ap (of_image order.image) (restored_same counted_world.eras w.sessions
      (become mounts w.modules order number) w.sessions w.contents become_kind ∙ plain.contents)
      ∙ of_nothing order.image ∙ sym plain.contents

  watches_same : watches_after order w.watches ≡ w.watches
  watches_same =
      ap (λ (os : List Observer). fold (λ (kept : Watches) o. with_part kept o.name (lasting order.image order.time
      (part_of w.watches o.name))) fin.empty os) alone ∙ sym plain.watches

  settled_same : settled mounts order counted_world ≡ plain_settled mounts order.image counted_world
  settled_same = λ i. record counted_world {
    sessions = sessions_same i;
    contents = contents_same i;
    watches =
        watches_same i;
  }

  started_same : started w order mounts ≡ plain_started w order mounts
  started_same = ap (λ (v : World). running order (selected mounts order.image v)) settled_same

  -- nobody acts

  nobody : (sessions : List Record) (print : List ℕ) (rollbacks : List Record)
      → triggered sessions print rollbacks order.observers ≡ record { observer = None; ids = []; sessions = sessions }
  nobody sessions print rollbacks = ap (triggered sessions print rollbacks) alone

  loop_same : (after : World) → boot_loop order after ≡ (if is_looping order.time after.moments then Some
      (record { observer = None; ids = []; sessions = after.sessions }) else None)
  loop_same after = ap (λ (t : Triggered). if is_looping order.time after.moments then Some t else None)
      (nobody after.sessions order.image.print (eligible after.sessions))

  left_same : (b : Bool) (after : World) → after_loop after (if b then Some (record {
    observer = None;
    ids = [];
    sessions = after.sessions;
  }) else None) ≡ record after { moments = if b then [] else after.moments }
  left_same true after = refl
  left_same false after = refl

  told_same : (b : Bool) (sessions : List Record)
      → option_map told_loop (if b then Some (record {
        observer = None;
        ids = [];
        sessions =
            sessions;
      }) else None) ≡ (if b then Some (None, []) else None)
  told_same true sessions = refl
  told_same false sessions = refl

  -- what a boot is in a plain world
  pub boot_world_plain : boot_world w order mounts ≡ plain_boot_world w order mounts
  boot_world_plain =
      ap (λ (after : World). after_loop after (boot_loop order after)) started_same
      ∙ ap (after_loop (plain_started w order mounts)) (loop_same (plain_started w order mounts))
      ∙ left_same (is_looping order.time (w.moments ++ order.time ∷ [])) (plain_started w order mounts)

  ascends : Ascend (map (booted mounts w.modules order.image number) w.sessions)
  ascends = ascend_map (booted mounts w.modules order.image number) w.sessions
      (λ r. (booted_keeps mounts w.modules order.image number r).id) plain.ascend

  found_after : (r : Record) → In r w.sessions
      → session_of (map (booted mounts w.modules order.image number) w.sessions) r.id ≡ Some
      (booted mounts w.modules order.image number r)
  found_after r h =
      ap (session_of (map (booted mounts w.modules order.image number) w.sessions)) (sym
      (booted_keeps mounts w.modules order.image number r).id)
      ∙ of_in (map (booted mounts w.modules order.image number) w.sessions)
      (booted mounts w.modules order.image number r) ascends (in_map
      (booted mounts w.modules order.image number) r w.sessions h)

  changes_same : changes w.sessions (map
      (booted mounts w.modules order.image number) w.sessions) ≡ plain_changes mounts w.modules order.image number w.sessions
  changes_same =
      flat_map_by (λ r. changed_in r (session_of (map (booted mounts w.modules order.image number) w.sessions) r.id))
      (λ r. changed_to r (booted mounts w.modules order.image number r)) w.sessions
      (λ r h. ap (changed_in r) (found_after r h))

  -- and what it answers
  pub boot_reply_plain : boot_reply w order mounts ≡ plain_boot_reply w order mounts
  boot_reply_plain =
      let after = boot_world_plain in
      let loop : option_map told_loop (boot_loop order (started w order mounts)) ≡
      (plain_boot_reply w order mounts).boot_loop =
      ap (λ (v : World). option_map told_loop (boot_loop order v)) started_same
      ∙ ap (option_map told_loop) (loop_same (plain_started w order mounts))
      ∙ told_same (is_looping order.time (w.moments ++ order.time ∷ [])) (plain_started w order mounts).sessions in
      let changed : changes w.sessions (boot_world w order mounts).sessions ≡
      (plain_boot_reply w order mounts).changes = ap (λ (v : World). changes w.sessions v.sessions) after
      ∙ changes_same in
      λ i. record { number = length (after i).eras; changes = changed i; active = (after i).active; boot_loop = loop i }

  -- a boot without observers leads to a plain world
  pub boot_plain : IsPlain (boot_world w order mounts)
  boot_plain = subst IsPlain (sym boot_world_plain) (record {
    ascend = ascends;
    sessions = λ s h. let (r, i, e) = in_map_back (booted mounts w.modules order.image number) s w.sessions h in
        subst IsPlainSession e (record {
          kind = (booted_keeps mounts w.modules order.image number r).kind ∙ (plain.sessions r i).kind;
          rollback = booted_none mounts w.modules order.image number r (plain.sessions r i).rollback;
        });
    contents = plain.contents;
    watches = plain.watches;
    observers = alone;
  })

-- Calls

pub empty_plain : (scale : Scale) → IsPlain (empty_world scale)
empty_plain scale = record {
  ascend = tt;
  sessions = λ r h. absurd h;
  contents = refl;
  watches = refl;
  observers =
      refl;
}

with_plain : (w : World) (s : Record) → IsPlain w → IsPlainSession s → (clock : ℕ)
    → IsPlain (record w { sessions = with_session s w.sessions; clock = clock })
with_plain w s plain own clock = record {
  ascend = ascend_with s w.sessions plain.ascend;
  sessions = λ r h. elim (with_any s w.sessions r h) [
    | inl e ↦ subst IsPlainSession (sym e) own
    | inr i ↦ plain.sessions r i
  ];
  contents = plain.contents;
  watches = plain.watches;
  observers = plain.observers;
}

after_none : (m : Move) → rollback_after m None ≡ None
after_none step_of.Ready = refl
after_none step_of.Abort = refl
after_none step_of.Success = refl
after_none step_of.Revert = refl
after_none step_of.Activate = refl
after_none step_of.Fail = refl
after_none step_of.Undo = refl

nothing_after : (m : Move) (o : Option RollbackState) → o ≡ None → rollback_after m o ≡ None
nothing_after m o e = ap (rollback_after m) e ∙ after_none m

module _ (w : World) (plain : IsPlain w) (clock : ℕ) (id : SessionId) (m : Move) where
  move_if : (r : Record) → IsPlainSession r → (o : Option State) → IsPlain (move_to w clock r m o).world
  move_if r own None = plain
  move_if r own (Some s) = with_plain w (record r {
    state = s;
    rollback =
        rollback_after m r.rollback;
  }) plain (record {
    kind = own.kind;
    rollback =
        nothing_after m r.rollback own.rollback;
  }) clock

  move_plain_if : (o : Option Record) → session_of w.sessions id ≡ o → IsPlain (move_found w clock id m o).world
  move_plain_if None e = plain
  move_plain_if (Some r) e = move_if r (plain.sessions r (of_found w.sessions id r e).0) (moved r.state m)

  -- and so does a move
  pub move_plain : IsPlain (move_session w clock id m).world
  move_plain = move_plain_if (session_of w.sessions id) refl

scaled : (w v : World) → IsPlain w → IsPlain v → (a b : Option Refusal)
    → IsPlain (replied w (pass a >>= λ few. pass b >>= λ light. Ok v)).world
scaled w v plain plain' None None = plain'
scaled w v plain plain' None (Some refusal) = plain
scaled w v plain plain' (Some refusal) b = plain

module _ (w : World) (plain : IsPlain w) (id : SessionId) (children : List SessionId) where
  entered_plain : (ps : List Package) → IsPlain (entered w id children false ps)
  entered_plain ps =
      let s = new_session id children false ps (image_print w.image) in
      let with : IsPlain (record w { sessions = with_session s w.sessions; clock = w.clock }) =
      with_plain w s plain (record { kind = refl; rollback = refl }) w.clock in
      record {
        ascend = with.ascend;
        sessions = with.sessions;
        contents = plain.contents;
        watches = plain.watches;
        observers = plain.observers;
      }

  submit_if : (o : Result (List Package) Refusal)
      → IsPlain (replied w (o >>= λ packages. within_scale (entered w id children false packages))).world
  submit_if (Err refusal) = plain
  submit_if (Ok ps) = let v = entered w id children false ps in
      scaled w v plain (entered_plain ps) (sessions_full v) (store_full v)

  -- and a submit without a rollback
  pub submit_plain : (parts : List FileMap) → IsPlain (submit w id children false parts).world
  submit_plain parts = submit_if (admitted w id children parts)
