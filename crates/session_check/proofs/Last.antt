-- The test of sessions that can be undone decides that they were activated last: `last_decides`.
use Rattle.std.proofs.Common.{◌≡◌, ℕ, ◌<◌, ◌&&◌, true, not, List, nat_lt, ap, ◌∙◌, refl, inl, inr, Decides, arith}
use Rattle.std.specs.List.{list_all}
use Rattle.std.specs.Str.{bytes_eq}
use Rattle.std.proofs.lemmas.Bool.{cases_lt}
use Rattle.std.proofs.lemmas.Bool.Decides.{Decides-and, Decides-ltb, Decides-not}
use Rattle.std.proofs.lemmas.Slice.Eq.{bytes_eq-Decides}
use Rattle.apex_base.specs.declared.records.Part.{Part}
use Rattle.apex_base.specs.declared.records.Record.{Record}
use Rattle.apex_base.specs.Held.{is_standing, is_undoable}
use Rattle.apex_base.specs.Members.{In}
use Rattle.apex_base.specs.Sessions.{names}
use Rattle.apex_base.proofs.MemberLemmas.{any_in, in_any}
use Rattle.world_facts.proofs.facts.DecidedTests.{itself, every, implies_decides}
use Rattle.session_check.specs.declared.marks.Mark.{Mark}
use Rattle.session_check.specs.declared.marks.Which.TheVariants.{Standing}
use Rattle.session_check.specs.Before.{is_above, StandLast}
use Rattle.session_check.specs.Marks.{has_later, mark_of, AreMarks}
use Rattle.session_check.proofs.Marked.{IsMarkOf, marked_in, is_marked_in}
use Rattle.session_check.proofs.Peers.{part_named, named_part}

-- no mark of a name of the session is of a later boot
abbrev IsLast : List Mark → Record → Type 0
IsLast marks r = is_undoable r.state ≡ true → (p : Part) → In p r.parts
    → (has_later marks p.name r.activation ≡ true) → ⊥

last_decides_one : (marks : List Mark) (r : Record) → Decides (is_above marks r) (IsLast marks r)
last_decides_one marks r =
    implies_decides (is_undoable r.state) _ (itself (is_undoable r.state))
    (every (λ (p : Part). not (has_later marks p.name r.activation))
    (λ (p : Part). (has_later marks p.name r.activation ≡ true) → ⊥) r.parts
    (λ p i. Decides-not _ (itself (has_later marks p.name r.activation))))

module _ (ss : List Record) (marks : List Mark) (a : AreMarks Standing ss marks) where
  -- a session that stands is marked
  later_by : (s : Record) (name : List ℕ) (boot : ℕ) → In s ss → names name s ≡ true → is_standing s.state ≡ true
      → boot < s.activation → has_later marks name boot ≡ true
  later_by s name boot j m v less =
      let (q, k, g) = part_named name s m in
      let d = Decides-and _ _ (bytes_eq-Decides q.name name) (Decides-ltb boot s.activation) in
      in_any (λ (m : Mark). bytes_eq m.name name && nat_lt boot m.boot) (mark_of Standing s q) marks
      (is_marked_in Standing ss marks a s q j v k) (d.1 (g, less))

  -- and what is marked stands
  by_later : (name : List ℕ) (boot : ℕ) → has_later marks name boot ≡ true
      → (s : Record) × In s ss × (names name s ≡ true) × (is_standing s.state ≡ true) × (boot < s.activation)
  by_later name boot e =
      let (m, i, f) = any_in (λ (m : Mark). bytes_eq m.name name && nat_lt boot m.boot) marks e in
      let h = (Decides-and _ _ (bytes_eq-Decides m.name name) (Decides-ltb boot m.boot)).0 f in
      let k : IsMarkOf Standing ss m = marked_in Standing ss marks a m i in
      let named : k.part.name ≡ name = ap (λ (m : Mark). m.name) k.is ∙ h.0 in
      let same : k.session.activation ≡ m.boot = ap (λ (m : Mark). m.boot) k.is in
      let less = h.1 in
      (k.session, k.among, named_part name k.session k.part k.has named, k.counted, omega (arith, same, less))

  pub last_decides : Decides (list_all (is_above marks) ss) (StandLast ss)
  last_decides =
      let d = every (is_above marks) (IsLast marks) ss (λ r i. last_decides_one marks r) in (
        λ e r s name i j n m u v.
            let (p, h, f) = part_named name r n in
            elim (cases_lt r.activation s.activation) [
              | inl less ↦ absurd (d.0 e r i u p h (rw f (later_by s name r.activation j m v less)))
              | inr le ↦ le
            ],
        λ h. d.1 (λ r i u p k later.
            let (s, j, m, v, less) = by_later p.name r.activation later in
            let most = h r s p.name i j (named_part p.name r p k refl) m u v in
            omega (arith, most, less)),
      )
