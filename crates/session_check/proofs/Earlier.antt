-- What a name held before a session, by marks. Callers want `before_none` and `before_some`.
use Rattle.std.proofs.Common.{◌≡◌, ◌≢◌, ℕ, ◌<◌, ◌&&◌, Bool, true, List, Option, nat_lt, sym, ap, ◌∙◌, refl, inl, inr}
use Rattle.std.proofs.Common.{arith}
use Rattle.std.specs.Str.{bytes_eq}
use Rattle.std.proofs.lemmas.Bool.{cases_eq}
use Rattle.std.proofs.lemmas.Bool.Decides.{Decides-and, Decides-ltb}
use Rattle.std.proofs.lemmas.Slice.Eq.{bytes_eq-Decides}
use Rattle.apex_base.specs.declared.numbers.SessionId.{SessionId}
use Rattle.apex_base.specs.declared.records.Part.{Part}
use Rattle.apex_base.specs.declared.records.Record.{Record}
use Rattle.apex_base.specs.declared.records.Target.TheVariants.{Preinstalled}
use Rattle.apex_base.specs.Held.{before, is_success}
use Rattle.apex_base.specs.Members.{In}
use Rattle.apex_base.specs.Sessions.{names, session_of, Ascend}
use Rattle.apex_base.proofs.MemberLemmas.{in_any}
use Rattle.apex_base.proofs.SessionLemmas.{of_in}
use Rattle.world_facts.proofs.facts.DecidedTests.{itself}
use Rattle.world_facts.proofs.facts.LatestLemmas.{part_for, names_part, named_by, IsLatest, latest_is}
use Rattle.session_check.specs.declared.marks.Mark.{Mark}
use Rattle.session_check.specs.declared.marks.Which.TheVariants.{Succeeded}
use Rattle.session_check.specs.Before.{AreDated, target_in, target_of_part}
use Rattle.session_check.specs.Marks.{AreMarks, NoneBefore, IsLastBefore}
use Rattle.session_check.proofs.Marked.{IsMarkOf, marked_in, is_marked_in}

-- two sessions of one id are one
pub same_session : (ss : List Record) → Ascend ss → (r s : Record) → In r ss → In s ss → r.id.0 ≡ s.id.0 → r ≡ s
same_session ss a r s i j e =
    let id : r.id ≡ s.id = λ k. record { 0 = e k } in
    let found = sym (of_in ss r a i) ∙ ap (session_of ss) id ∙ of_in ss s a j in
    cc (found)

-- the sessions that count
abbrev Earlier : ℕ → Record → Bool
Earlier boot r = is_success r.state && nat_lt r.activation boot

module _ (ss : List Record) (d : AreDated ss) (marks : List Mark) (a : AreMarks Succeeded ss marks) (x : Record)
    (name : List ℕ) where
  -- a session that counts has a mark
  earlier_mark : (r : Record) (p : Part) → IsLatest (Earlier x.activation) ss name r p
      → (m : Mark) × In m marks × (m.name ≡ name) × (m.boot ≡ r.activation) × (r.activation < x.activation)
  earlier_mark r p l =
      let n = named_by name r p l.part in
      let c = (Decides-and _ _ (itself (is_success r.state)) (Decides-ltb r.activation x.activation)).0 l.counts in (
        record { name = p.name; boot = r.activation; session = r.id.0 },
        is_marked_in Succeeded ss marks a r p l.among c.0 n.0,
        (bytes_eq-Decides p.name name).0 n.1,
        refl,
        c.1,
      )

  -- no mark, no session
  pub before_none : NoneBefore marks name x.activation → Preinstalled ≡ before ss x name
  before_none none =
      elim (latest_is (Earlier x.activation) name ss) [
        | inl e ↦ sym e.1
        | inr l ↦
            let (m, i, named, boot, less) = earlier_mark l.0 l.1 l.2 in
            absurd (none m i named (omega (arith, boot, less)))
      ]

  -- the last mark is of the latest session
  pub before_some : (m : Mark) → IsLastBefore marks name x.activation m
      → target_in (session_of ss (record { 0 = m.session })) name ≡ before ss x name
  before_some m last =
      let k : IsMarkOf Succeeded ss m = marked_in Succeeded ss marks a m last.among in
      let r = k.session in
      let boot : r.activation ≡ m.boot = ap (λ (m : Mark). m.boot) k.is in
      let number : r.id.0 ≡ m.session = ap (λ (m : Mark). m.session) k.is in
      let of_name : k.part.name ≡ name = ap (λ (m : Mark). m.name) k.is ∙ last.named in
      let named : names name r ≡ true = in_any (λ (p : Part). bytes_eq p.name name) k.part r.parts k.has
      ((bytes_eq-Decides k.part.name name).1 of_name) in
      let less = last.before in
      let counted = (Decides-and _ _ (itself (is_success r.state)) (Decides-ltb r.activation x.activation)).1
      (k.counted, omega (arith, boot, less)) in
      elim (latest_is (Earlier x.activation) name ss) [
        | inl e ↦ absurd (e.0 r k.among counted named)
        | inr l ↦
            let s = l.0 in
            let (n, i, f, g, h) = earlier_mark s l.1 l.2 in
            let up = last.last n i f (omega (arith, g, h)) in
            let down = l.2.most r k.among counted named in
            let same_boot : r.activation ≡ s.activation = omega (arith, up, down, boot, g) in
            let some = d.activated r k.among k.counted in
            let other : s.activation ≢ 0 = λ zero. some (omega (arith, same_boot, zero)) in
            let same : r ≡ s = elim (cases_eq r.id.0 s.id.0) [
              | inl e ↦ same_session ss d.ascend r s k.among l.2.among e
              | inr differ ↦
                  let also = names_part name s l.1 l.2.part in
                  absurd (d.apart r s name k.among l.2.among differ named also some other same_boot)
            ] in
            let id : (record { 0 = m.session }) ≡ r.id = λ j. record { 0 = sym number j } in
            ap (λ (id : SessionId). target_in (session_of ss id) name) id
            ∙ ap (λ (o : Option Record). target_in o name) (of_in ss r d.ascend k.among)
            ∙ ap (λ (r : Record). target_of_part (part_for name r)) same ∙ ap target_of_part l.2.part ∙ sym l.3
      ]
