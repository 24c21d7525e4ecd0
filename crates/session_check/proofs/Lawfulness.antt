-- Sessions are lawful if and only if they are apart and have their rollback sessions: `dated`, `lawful_decides`.
use Rattle.std.proofs.Common.{◌≡◌, ◌≢◌, ℕ, Bool, true, false, not, IsTrue, List, is_some, sym, ap, ◌∙◌, refl, inl, inr}
use Rattle.std.proofs.Common.{Decides, arith}
use Rattle.std.specs.List.{list_all}
use Rattle.std.proofs.lemmas.Bool.{cases_eq}
use Rattle.std.proofs.lemmas.Bool.Decides.{Decides-and, Decides-not, Decides-eqb}
use Rattle.apex_base.specs.declared.numbers.SessionId.{SessionId}
use Rattle.apex_base.specs.declared.records.Record.{Record}
use Rattle.apex_base.specs.declared.records.State.{State}
use Rattle.apex_base.specs.declared.records.State.TheVariants as state
use Rattle.apex_base.specs.Held.{is_success, is_standing, is_undoable}
use Rattle.apex_base.specs.Members.{In}
use Rattle.apex_base.specs.Sessions.{names, Ascend}
use Rattle.apex_world.specs.Decided.{is_zero, is_after_undone, have_rollback_sessions}
use Rattle.apex_world.specs.Lawful.{ids_of, HasParts, HasActivation, has_cause, HasRollback, never_activated}
use Rattle.apex_base.specs.Commit.{undoes, is_caller_id}
use Rattle.world_facts.proofs.facts.DecidedIds.{parts_decide, caller_ids_decide}
use Rattle.world_facts.proofs.facts.DecidedPeers.{activation_decides, after_decides, cause_decides, rollback_decides, IsAfter}
use Rattle.world_facts.proofs.facts.DecidedRollbacks.{undone_decide}
use Rattle.world_facts.proofs.facts.DecidedTests.{every}
use Rattle.world_facts.proofs.facts.KeptLemmas.{stands_activated, success_stands, undoable_stands}
use Rattle.session_check.specs.declared.marks.Which.TheVariants.{Unfinished, Available, Activated}
use Rattle.session_check.specs.declared.marks.Mark.{Mark}
use Rattle.session_check.specs.Apart.{AreApart}
use Rattle.session_check.specs.Before.{AreDated}
use Rattle.session_check.specs.LawfulSessions.{AreLawfulSessions}
use Rattle.session_check.specs.Sound.{is_sound}
use Rattle.session_check.proofs.Earlier.{same_session}
use Rattle.session_check.proofs.Equal.{marks_differ, differ_marks, numbers_differ, differ_numbers}
use Rattle.session_check.proofs.Peers.{peers_by_marks, marks_by_peers, own_by_numbers, apart_by_numbers, numbers_by_ids}

-- what a sound session is
abbrev HasCallerIds : Record → Type 0
HasCallerIds r = undoes r.kind ≡ false → (id : SessionId) → In id (ids_of r) → IsTrue (is_caller_id id)

abbrev Sound : ℕ → Record → Type 0
Sound boots r =
    HasParts r × (HasActivation boots r × ((has_cause r.state ≡ is_some r.cause) × (HasRollback r × HasCallerIds r)))

sound_decides : (boots : ℕ) (r : Record) → Decides (is_sound boots r) (Sound boots r)
sound_decides boots r =
    Decides-and _ _ (parts_decide r) (Decides-and _ _ (activation_decides boots r)
    (Decides-and _ _ (cause_decides r) (Decides-and _ _ (rollback_decides r) (caller_ids_decide r))))

all_sound : (boots : ℕ) (ss : List Record)
    → Decides (list_all (is_sound boots) ss) ((r : Record) → In r ss → Sound boots r)
all_sound boots ss = every (is_sound boots) (Sound boots) ss (λ r i. sound_decides boots r)

all_after : (ss : List Record)
    → Decides (list_all (λ r. is_after_undone ss r.activation r.kind) ss)
    ((r : Record) → In r ss → IsAfter ss r.activation r.kind)
all_after ss = every _ (λ r. IsAfter ss r.activation r.kind) ss (λ r i. after_decides ss r.activation r.kind)

-- A session that stands was activated

stands_some : (boots : ℕ) (r : Record) → HasActivation boots r → is_standing r.state ≡ true → r.activation ≢ 0
stands_some boots r h e zero = let low = h.some (stands_activated r.state e) in omega (arith, low, zero)

-- activated sessions are marked
counted : (n : ℕ) → Decides (not (is_zero n)) (n ≢ 0)
counted n = Decides-not _ (Decides-eqb n 0)

module _ (boots : ℕ) (ss : List Record) (a : Ascend ss) where
  -- two activated sessions that share a name
  boots_differ : AreApart boots ss → (r s : Record) (name : List ℕ) → In r ss → In s ss → r.id.0 ≢ s.id.0
      → names name r ≡ true → names name s ≡ true → r.activation ≢ 0 → s.activation ≢ 0
      → r.activation ≢ s.activation
  boots_differ h r s name i j differ n m u v same =
      peers_by_marks Activated ss (marks_differ _ h.activated) r s name i j differ n m
      ((counted r.activation).1 u) ((counted s.activation).1 v)
      (λ p q e k. record { name = e k; boot = same k; session = 0 })

  -- sessions that are apart can be told by their activation boots
  pub dated : AreApart boots ss → AreDated ss
  dated h = record {
    ascend = a;
    activated = λ r i e. stands_some boots r ((all_sound boots ss).0 h.sound r i).1.0 (success_stands r.state e);
    apart = boots_differ h;
  }

  -- apart, and with their rollback sessions, they are lawful
  pub apart_lawful : AreApart boots ss → have_rollback_sessions ss ≡ true → AreLawfulSessions boots ss
  apart_lawful h u =
      let sound = (all_sound boots ss).0 h.sound in
      let numbers = numbers_differ _ h.ids in record {
        ids = record {
          ascend = a;
          distinct = own_by_numbers ss numbers;
          apart = apart_by_numbers ss numbers;
          callers = λ r id i e k. (sound r i).1.1.1.1 e id k;
        };
        parts = λ r i. (sound r i).0;
        alone = λ r s name i j differ n m e f.
            peers_by_marks Unfinished ss (marks_differ _ h.unfinished) r s name i j differ n m e f
            (λ p q g k. record { name = g k; boot = 0; session = 0 });
        activations = record {
          each = λ r i. (sound r i).1.0;
          peers = λ r s name i j differ n m. record {
            apart = boots_differ h r s name i j differ n m;
            above = λ e f.
                let most = h.last r s name i j n m e f in
                let some = stands_some boots r (sound r i).1.0 (undoable_stands r.state e) in
                let other = stands_some boots s (sound s j).1.0 f in
                let apart = boots_differ h r s name i j differ n m some other in
                omega (arith, most, apart);
          };
          after = (all_after ss).0 h.after;
        };
        causes = λ r i. (sound r i).1.1.0;
        rollbacks = record {
          each = λ r i. (sound r i).1.1.1.0;
          peers = λ r s name i j differ n m e f.
              peers_by_marks Available ss (marks_differ _ h.available) r s name i j differ n m e f
              (λ p q g k. record { name = g k; boot = 0; session = 0 });
        };
        undone = (undone_decide ss).0 u;
      }

  -- and lawful sessions are apart
  pub lawful_apart : AreLawfulSessions boots ss → AreApart boots ss
  lawful_apart h =
      let own = λ (r : Record) (i : In r ss). (h.parts r i).names in record {
        sound = (all_sound boots ss).1 (λ r i. (
          h.parts r i,
          (h.activations.each r i, (h.causes r i, (h.rollbacks.each r i, λ e id k. h.ids.callers r id i e k))),
        ));
        after = (all_after ss).1 h.activations.after;
        ids = differ_numbers _ (numbers_by_ids ss a h.ids.distinct h.ids.apart);
        unfinished = differ_marks _ (marks_by_peers Unfinished ss a own
            (λ r s name p q i j differ n m e f same. h.alone r s name i j differ n m e f));
        available = differ_marks _ (marks_by_peers Available ss a own
            (λ r s name p q i j differ n m e f same. h.rollbacks.peers r s name i j differ n m e f));
        activated = differ_marks _ (marks_by_peers Activated ss a own
            (λ r s name p q i j differ n m e f same.
            let apart = (h.activations.peers r s name i j differ n m).apart in
            apart ((counted r.activation).0 e) ((counted s.activation).0 f) (ap (λ (m : Mark). m.boot) same)));
        last = λ r s name i j n m e f. elim (cases_eq r.id.0 s.id.0) [
          | inl same ↦
              let one : r.activation ≡ s.activation =
              ap (λ (r : Record). r.activation) (same_session ss a r s i j same) in
              omega (arith, one)
          | inr differ ↦
              let below = (h.activations.peers r s name i j differ n m).above e f in
              omega (arith, below)
        ];
      }

  -- the test of rollback sessions decides, where sessions are apart
  pub lawful_decides : AreApart boots ss → (b : Bool) → b ≡ have_rollback_sessions ss
      → Decides b (AreLawfulSessions boots ss)
  lawful_decides h b e = (λ f. apart_lawful h (sym e ∙ f), λ l. e ∙ (undone_decide ss).1 l.undone)
