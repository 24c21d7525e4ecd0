-- No boot tells worlds apart that are alike. Callers want `boot_alike`.
use Rattle.std.proofs.Common.{◌≡◌, ℕ, Bool, true, false, cond, List, [], ◌∷◌, ◌++◌, length, map, Option, Some, None}
use Rattle.std.proofs.Common.{sym, ap, subst, ◌∙◌, refl, inl, inr}
use Rattle.std.specs.Option.{option_map}
use Rattle.std.proofs.lemmas.Bool.{false≢true}
use Rattle.apex_base.specs.declared.numbers.SessionId.{SessionId}
use Rattle.apex_base.specs.declared.records.Pick.{Pick}
use Rattle.apex_base.specs.declared.records.Record.{Record}
use Rattle.apex_base.specs.Commit.{rollback_id}
use Rattle.apex_base.specs.Held.{is_success, is_available}
use Rattle.apex_base.specs.Members.{In}
use Rattle.apex_base.specs.Rollbacks.{is_eligible}
use Rattle.apex_base.specs.Windows.{is_looping}
use Rattle.apex_base.proofs.MemberLemmas.{in_map_back}
use Rattle.apex_world.specs.declared.calls.BootOrder.{BootOrder}
use Rattle.apex_world.specs.declared.calls.BootReply.{BootReply}
use Rattle.apex_world.specs.declared.calls.Changed.{Changed}
use Rattle.apex_world.specs.Boot.{become, started, loop_trigger, boot_loop, after_loop, boot_world, changes, told_loop}
use Rattle.apex_world.specs.Boot.{boot_reply}
use Rattle.apex_world.specs.Lawful.{Lawful}
use Rattle.apex_world.specs.Restore.{of_image}
use Rattle.apex_world.specs.Selection.{Mounts, chosen}
use Rattle.world_laws.specs.StoredAlike.{AreAlikeInParts}
use Rattle.apex_world.specs.Trigger.{eligible}
use Rattle.apex_world.specs.World.{World, Contents}
use Rattle.world_laws.proofs.alike.AlikeAfter.{same_modules}
use Rattle.world_laws.proofs.alike.AlikeLemmas.{other, other_is, unchanged}
use Rattle.world_laws.proofs.alike.BootDataAlike.{restored_alike}
use Rattle.world_laws.proofs.meaning.BootFollows.{mid_new}
use Rattle.world_laws.proofs.alike.BootOrdered.{ordered_booted, carries_booted, nothing_booted, success_booted}
use Rattle.world_laws.proofs.alike.BootPast.{number_alike, past_booted}
use Rattle.world_laws.proofs.meaning.BootRollbacks.{settles}
use Rattle.world_laws.proofs.alike.BootTurnsAlike.{become_alike, chosen_alike}
use Rattle.world_laws.proofs.meaning.CallStays.{among_eligible}
use Rattle.world_laws.proofs.meaning.CommitStays.{ascend_filter}
use Rattle.world_laws.proofs.alike.CommitTurns.{CanCommit}
use Rattle.world_facts.proofs.facts.KeptLemmas.{ordered}
use Rattle.apex_base.proofs.MomentsAlike.{moments_alike, looping_alike}
use Rattle.world_facts.proofs.facts.NewIds.{in_has}
use Rattle.world_laws.proofs.alike.OpenedModules.{HaveSameFiles}
use Rattle.world_laws.proofs.alike.TriggersAlike.{triggered_alike}

map_alike : (f g : Record → Record) (ss : List Record) → ((r : Record) → In r ss → f r ≡ g r) → map f ss ≡ map g ss
map_alike f g [] same = refl
map_alike f g (r ∷ ss) same =
    ap (λ (s : Record). s ∷ map f ss) (same r (inl refl))
    ∙ ap (λ (xs : List Record). g r ∷ xs) (map_alike f g ss (λ s h. same s (inr h)))

-- worlds that are alike, after which the boots that led to a boot loop are forgotten
without_moments : (x y : World) → AreAlikeInParts x y
    → AreAlikeInParts (record x { moments = [] }) (record y { moments = [] })
without_moments x y a = record {
  stored = record {
    sessions = a.stored.sessions;
    modules = a.stored.modules;
    contents = a.stored.contents;
    past = a.stored.past;
    boots = a.stored.boots;
    moments = refl;
    watches = a.stored.watches;
  };
  scale = a.scale;
  image = a.image;
  observers = a.observers;
  active = a.active;
  clock = a.clock;
  failures = a.failures;
}

-- the same reply, and worlds that are alike in parts
pub record AreBootedAlike (order : BootOrder) (mounts : Mounts) (w v : World) : Type 0 where
  pub reply : boot_reply w order mounts ≡ boot_reply v order mounts
  pub world : AreAlikeInParts (boot_world w order mounts) (boot_world v order mounts)

abbrev reply_by : ℕ → List Changed → List Pick → Option (Option (List ℕ) × List SessionId) → BootReply
reply_by n cs ps l = record { number = n; changes = cs; active = ps; boot_loop = l }

module _ (w v : World) (a : AreAlikeInParts w v) (law : Lawful w) (order : BootOrder) (mounts : Mounts) where
  abbrev z : World
  z = other w v a

  abbrev eras : List Contents
  eras = w.eras ++ w.contents ∷ []

  abbrev eras' : List Contents
  eras' = v.eras ++ w.contents ∷ []

  abbrev f : Record → Record
  f r = become mounts w.modules order (length eras) r

  abbrev g : Record → Record
  g r = become mounts v.modules order (length eras') r

  abbrev mid : List Record
  mid = map f w.sessions

  abbrev first : World
  first = started w order mounts

  abbrev second : World
  second = started z order mounts

  turns_same : (r : Record) → In r w.sessions → f r ≡ g r
  turns_same r h =
      become_alike mounts w.modules v.modules order (length eras) w.sessions r a.stored.modules h
      ∙ ap (λ (n : ℕ). become mounts v.modules order n r) (number_alike w v a law order mounts)

  sessions_same : mid ≡ map g w.sessions
  sessions_same = map_alike f g w.sessions turns_same

  files_same : HaveSameFiles mid w.modules v.modules
  files_same = same_modules w v a mid (ordered w law) (ordered_booted w law order mounts)
      (carries_booted w law order mounts) (nothing_booted w law order mounts)

  -- the worlds before anybody looks for a boot loop
  started_alike : AreAlikeInParts first second
  started_alike = record {
    stored = record {
      sessions = sessions_same;
      modules = files_same;
      contents = ap (of_image order.image) (restored_alike w v a law order mounts g turns_same w.contents);
      past = past_booted w v a law order mounts;
      boots = number_alike w v a law order mounts;
      moments = moments_alike w.moments v.moments order.time a.stored.moments;
      watches = refl;
    };
    scale = refl;
    image = refl;
    observers = refl;
    active = chosen_alike mounts w.modules v.modules mid order.image.modules files_same
        ∙ ap (λ (ss : List Record). chosen mounts v.modules ss order.image.modules) sessions_same;
    clock = refl;
    failures = λ name. refl;
  }

  -- The boot loop

  can_loop : (x : Record) → In x (eligible mid) → CanCommit mid x
  can_loop x h =
      let (i, e) = among_eligible mid x h in
      let (r, j, is) = in_map_back f x w.sessions i in
      let was = (settles mounts w.modules order (length eras) r).available
      (ap (λ (x : Record). is_available x.rollback) is ∙ e) in
      record {
        among = i;
        success = ap (λ (x : Record). is_success x.state) (sym is)
            ∙ success_booted w law order mounts r ((law.rollbacks.each r j).available was);
        available = e;
        unused = λ q k same.
            let free = mid_new w law.ids law.undone order mounts x h q (rollback_id x.id) k (inl refl) in
            false≢true (sym free ∙ in_has (rollback_id x.id) q q.id (inl refl) same);
      }

  abbrev beside : World
  beside = other first second started_alike

  looped_if : (b c : Bool) → b ≡ c
      → AreAlikeInParts (after_loop first (cond b (Some (loop_trigger order mid)) None))
      (after_loop beside (cond c (Some (loop_trigger order mid)) None))
  looped_if true true e =
      let t = loop_trigger order mid in
      without_moments (record first { sessions = t.sessions }) (record beside { sessions = t.sessions })
      (triggered_alike first second started_alike (ordered_booted w law order mounts) order.image.print (eligible mid)
      (ascend_filter (is_eligible mid) mid (ordered_booted w law order mounts).ascend) can_loop order.observers)
  looped_if true false e = absurd (cc)
  looped_if false true e = absurd (cc)
  looped_if false false e = unchanged first second started_alike

  looping_same : is_looping order.time first.moments ≡ is_looping order.time second.moments
  looping_same = looping_alike order.time first.moments second.moments started_alike.stored.moments

  looped_alike : AreAlikeInParts (boot_world w order mounts) (boot_world z order mounts)
  looped_alike =
      subst (λ (y : World). AreAlikeInParts (boot_world w order mounts) (after_loop y (boot_loop order y)))
      (other_is first second started_alike)
      (looped_if (is_looping order.time first.moments) (is_looping order.time second.moments) looping_same)

  loop_same : boot_loop order first ≡ boot_loop order second
  loop_same =
      ap (λ (b : Bool). cond b (Some (loop_trigger order mid)) None) looping_same
      ∙ ap (λ (ss : List Record). cond (is_looping order.time second.moments) (Some (loop_trigger order ss)) None)
      sessions_same

  reply_same : boot_reply w order mounts ≡ boot_reply z order mounts
  reply_same =
      let x = boot_world w order mounts in
      let y = boot_world z order mounts in
      let l = option_map told_loop (boot_loop order first) in
      let cs = changes w.sessions y.sessions in
      ap (λ (n : ℕ). reply_by n (changes w.sessions x.sessions) x.active l) looped_alike.stored.boots
      ∙ ap (λ (ss : List Record). reply_by (length y.eras) (changes w.sessions ss) x.active l)
      looped_alike.stored.sessions
      ∙ ap (λ (ps : List Pick). reply_by (length y.eras) cs ps l) looped_alike.active
      ∙ ap (λ o. reply_by (length y.eras) cs y.active (option_map told_loop o)) loop_same

  -- a boot has the same reply in both worlds, and leads to worlds that are alike in parts
  pub boot_alike : AreBootedAlike order mounts w v
  boot_alike =
      subst (λ (y : World). AreBootedAlike order mounts w y) (other_is w v a)
      (record { reply = reply_same; world = looped_alike })
