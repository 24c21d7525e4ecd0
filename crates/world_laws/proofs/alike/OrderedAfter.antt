-- Sessions stay in the order that modules are kept by, where each is as it was, or is idle. Callers want
-- `ordered_after`, `ordered_map`, `ordered_one` and `ordered_new`.
use Rattle.std.proofs.Common.{◌≡◌, ◌≢◌, ◌⊎◌, ℕ, true, false, List, map, sym, ap, subst, ◌∙◌, refl, inl, inr}
use Rattle.std.specs.List.{list_any}
use Rattle.std.specs.Str.{bytes_eq}
use Rattle.std.proofs.lemmas.Bool.{false≢true}
use Rattle.apex_base.specs.declared.numbers.SessionId.{SessionId}
use Rattle.apex_base.specs.declared.records.Part.{Part}
use Rattle.apex_base.specs.declared.records.Record.{Record}
use Rattle.apex_base.specs.Held.{is_undoable, is_standing}
use Rattle.apex_base.specs.Members.{In}
use Rattle.apex_base.specs.Sessions.{names, with_session, Ascend}
use Rattle.apex_base.proofs.MemberLemmas.{in_map_back}
use Rattle.apex_base.proofs.SessionLemmas.{with_any, ascend_with, ascend_map}
use Rattle.apex_world.specs.Lawful.{AreActivatedApart}
use Rattle.world_facts.proofs.facts.KeptLemmas.{AreOrdered}

-- a session that still has its id, parts and activation boot, and stands only if it stood
pub record IsUnder (r s : Record) : Type 0 where
  pub id : s.id ≡ r.id
  pub parts : s.parts ≡ r.parts
  pub activation : s.activation ≡ r.activation
  pub stands : is_standing s.state ≡ true → is_standing r.state ≡ true
  pub undoable : is_undoable s.state ≡ true → is_undoable r.state ≡ true

-- a session is under itself
pub under_self : (r : Record) → IsUnder r r
under_self r = record { id = refl; parts = refl; activation = refl; stands = λ e. e; undoable = λ e. e }

-- a session that no boot has activated and that doesn't stand
pub record IsIdle (s : Record) : Type 0 where
  pub activation : s.activation ≡ 0
  pub stands : is_standing s.state ≡ false
  pub undoable : is_undoable s.state ≡ false

-- where each later session comes from
abbrev pub ComesIdle : List Record → Record → Type 0
ComesIdle ss s = ((r : Record) × In r ss × IsUnder r s) ⊎ IsIdle s

module _ (ss ss' : List Record) (law : AreOrdered ss) (ascend : Ascend ss')
    (back : (s : Record) → In s ss' → ComesIdle ss s) where
  number_same : (r s : Record) → IsUnder r s → s.id.0 ≡ r.id.0
  number_same r s u = ap (λ (id : SessionId). id.0) u.id

  names_same : (r s : Record) (name : List ℕ) → IsUnder r s → names name s ≡ true → names name r ≡ true
  names_same r s name u n = ap (λ (ps : List Part). list_any (λ p. bytes_eq p.name name) ps) (sym u.parts) ∙ n

  peers_after : (r s : Record) (name : List ℕ) → r.id.0 ≢ s.id.0 → names name r ≡ true → names name s ≡ true
      → ComesIdle ss r → ComesIdle ss s → AreActivatedApart r s
  peers_after r s name d n m (inr i) c = record {
    apart = λ a b. absurd (a i.activation);
    above = λ u f. absurd (false≢true (sym i.undoable ∙ u));
  }
  peers_after r s name d n m (inl p) (inr i) = record {
    apart = λ a b. absurd (b i.activation);
    above = λ u f. absurd (false≢true (sym i.stands ∙ f));
  }
  peers_after r s name d n m (inl (p, h, u)) (inl (q, i, v)) =
      let old = law.peers p q name h i (λ e. d (number_same p r u ∙ e ∙ sym (number_same q s v)))
      (names_same p r name u n) (names_same q s name v m) in
      record {
        apart = λ a b e. old.apart (λ z. a (u.activation ∙ z)) (λ z. b (v.activation ∙ z))
            (sym u.activation ∙ e ∙ v.activation);
        above = λ f g. let l = old.above (u.undoable f) (v.stands g) in rw (u.activation, v.activation) l;
      }

  active_after : (s : Record) → is_standing s.state ≡ true → s.activation ≡ 0 → ComesIdle ss s → ⊥
  active_after s f z (inr i) = false≢true (sym i.stands ∙ f)
  active_after s f z (inl (r, h, u)) = law.active r h (u.stands f) (sym u.activation ∙ z)

  -- then the order stays
  pub ordered_after : AreOrdered ss'
  ordered_after = record {
    ascend = ascend;
    peers = λ r s name h i d n m. peers_after r s name d n m (back r h) (back s i);
    active = λ s h f z. active_after s f z (back s h);
  }

-- each session by itself
pub ordered_map : (f : Record → Record) (ss : List Record) → AreOrdered ss → ((r : Record) → IsUnder r (f r))
    → AreOrdered (map f ss)
ordered_map f ss law under =
    ordered_after ss (map f ss) law (ascend_map f ss (λ r. (under r).id) law.ascend) (λ s h.
    let (r, i, e) = in_map_back f s ss h in
    inl (r, i, subst (IsUnder r) e (under r)))

-- one session
pub ordered_one : (r s : Record) (ss : List Record) → AreOrdered ss → In r ss → IsUnder r s
    → AreOrdered (with_session s ss)
ordered_one r s ss law h under =
    ordered_after ss (with_session s ss) law (ascend_with s ss law.ascend) (λ q i. elim (with_any s ss q i) [
      | inl e ↦ inl (r, h, subst (IsUnder r) (sym e) under)
      | inr j ↦ inl (q, j, under_self q)
    ])

-- and an idle one more
pub ordered_new : (s : Record) (ss : List Record) → AreOrdered ss → IsIdle s → AreOrdered (with_session s ss)
ordered_new s ss law idle =
    ordered_after ss (with_session s ss) law (ascend_with s ss law.ascend) (λ r h. elim (with_any s ss r h) [
      | inl e ↦ inr (subst IsIdle (sym e) idle)
      | inr i ↦ inl (r, i, under_self r)
    ])
