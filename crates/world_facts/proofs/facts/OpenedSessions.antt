-- The rows of a lawful world open to its sessions. Callers want `same_opened`.
use Rattle.std.proofs.Common.{◌≡◌, ◌<◌, ◌^◌, Bool, cond, ltb, List, [], ◌∷◌, Option, Some, None, sym, ap}
use Rattle.std.proofs.Common.{subst, ◌∙◌, refl, inl, inr, arith}
use Rattle.std.specs.Prelude.{option_and_then}
use Rattle.std.specs.List.{AllByRecursion}
use Rattle.std.specs.Option.{option_map}
use Rattle.std.specs.FinMap as fin
use Rattle.std.proofs.lemmas.Bool.{lt-ltb, ltb-true}
use Rattle.apex_base.specs.declared.numbers.SessionId.{SessionId}
use Rattle.apex_base.specs.declared.records.Record.{Record}
use Rattle.apex_base.specs.Keys.{RecordOf, key_text, RowMap}
use Rattle.apex_base.specs.Members.{In}
use Rattle.apex_base.specs.Sessions.{session_of, Ascend}
use Rattle.apex_base.specs.Spelling.{record_text, record_of}
use Rattle.apex_base.proofs.Finding.{some_if}
use Rattle.apex_base.proofs.MemberLemmas.{each_in}
use Rattle.apex_base.proofs.SessionLemmas.{of_found, of_in}
use Rattle.apex_base.proofs.SpellingLemmas.{record_again}
use Rattle.apex_world.specs.Lawful.{Lawful}
use Rattle.apex_world.specs.Opened.{record_in, ids_in, opened_sessions}
use Rattle.apex_world.specs.Rows.{rows}
use Rattle.apex_world.specs.World.{World}
use Rattle.world_facts.proofs.facts.PlacedSessions.{in_ids, opened_ascend, opened_known, opened_there}
use Rattle.world_facts.proofs.facts.WorldRows.{record_id, record_at, same_id}

-- Lists that ascend

pub below_each : (r s : Record) (ss : List Record) → AllByRecursion (λ s. r.id.0 < s.id.0) ss → In s ss
    → r.id.0 < s.id.0
below_each r s ss a h = each_in (λ (s : Record). r.id.0 < s.id.0) ss a s h

not_below : (r : Record) (ss : List Record) → AllByRecursion (λ s. r.id.0 < s.id.0) ss → In r ss → ⊥
not_below r ss a h = let l = below_each r r ss a h in omega (arith, l)

-- sessions of one id are one session
pub one_session : (ss : List Record) (r s : Record) → Ascend ss → In r ss → In s ss → r.id.0 ≡ s.id.0 → r ≡ s
one_session ss r s a h i e =
    let one : Some r ≡ Some s = sym (of_in ss r a h) ∙ ap (λ (id : SessionId). session_of ss id)
    (same_id r.id s.id e) ∙ of_in ss s a i in
    cc one

same_first : (x y : Record) (xs ys : List Record) → Ascend (x ∷ xs) → Ascend (y ∷ ys) → In x (y ∷ ys)
    → In y (x ∷ xs) → x ≡ y
same_first x y xs ys a b (inl e) i = sym e
same_first x y xs ys a b (inr h) (inl e) = e
same_first x y xs ys a b (inr h) (inr i) = let l = below_each y x ys b.0 h in let m = below_each x y xs a.0 i in
    absurd (omega (arith, l, m))

later : (x r : Record) (xs ys : List Record) → Ascend (x ∷ xs) → In r xs → In r (x ∷ ys) → In r ys
later x r xs ys a h (inl e) = absurd (not_below x xs a.0 (subst (λ (s : Record). In s xs) (sym e) h))
later x r xs ys a h (inr i) = i

-- lists that ascend and have the same sessions are the same
pub same_members : (xs ys : List Record) → Ascend xs → Ascend ys → ((r : Record) → In r xs → In r ys)
    → ((r : Record) → In r ys → In r xs) → xs ≡ ys
same_members [] [] a b there back = refl
same_members [] (y ∷ ys) a b there back = absurd (back y (inl refl))
same_members (x ∷ xs) [] a b there back = absurd (there x (inl refl))
same_members (x ∷ xs) (y ∷ ys) a b there back =
    let one : x ≡ y = same_first x y xs ys a b (there x (inl refl)) (back y (inl refl)) in
    let rest : xs ≡ ys = same_members xs ys a.1 b.1
    (λ r h. later x r xs ys a h (subst (λ (z : Record). In r (z ∷ ys)) (sym one) (there r (inr h))))
    (λ r h. later y r ys xs b h (subst (λ (z : Record). In r (z ∷ xs)) one (back r (inr h)))) in
    cc (one, rest)

-- Sessions that are opened

module _ (m : RowMap) (ws : List Record) (a : Ascend ws) (sound : (id : SessionId) (r : Record)
    → record_in m id ≡ Some r → In r ws) where
  abbrev Among : Record → Type 0
  Among r = In r ws

  one : (r s : Record) → Among r → Among s → r.id.0 ≡ s.id.0 → r ≡ s
  one r s h i e = one_session ws r s a h i e

  -- the sessions that are opened are these, where each of them has its record
  pub sessions_opened : ((r : Record) → In r ws → In r.id (ids_in m) × (record_in m r.id ≡ Some r))
      → opened_sessions m ≡ ws
  sessions_opened each =
      same_members _ ws (opened_ascend m) a (opened_known m Among one sound)
      (λ r h. let (i, e) = each r h in opened_there m Among one sound r.id r i e)

module _ (w : World) (law : Lawful w) where
  read_if : (id : SessionId) (o : Option Record) (r : Record) → session_of w.sessions id ≡ o
      → option_and_then (record_of id) (option_map record_text o) ≡ Some r → In r w.sessions
  read_if id None r e f = absurd (cc)
  read_if id (Some s) r e f =
      let (h, same) = of_found w.sessions id s e in
      let again : record_of id (record_text s) ≡ Some s =
      ap (λ (id : SessionId). record_of id (record_text s)) (sym (same_id s.id id same))
      ∙ record_again s (law.ranges.sessions s h) in
      let one : s ≡ r = cc (again, f) in
      subst (λ (x : Record). In x w.sessions) one h

  sound : (id : SessionId) (r : Record) → record_in (rows w) id ≡ Some r → In r w.sessions
  sound id r e =
      let (low, f) = some_if (ltb id.0 4294967296) (option_and_then (record_of id)
      (fin.get (rows w) (key_text (RecordOf id)))) r e in
      let l : id.0 < 2 ^ 32 = ltb-true id.0 4294967296 low in
      read_if id (session_of w.sessions id) r refl (ap (option_and_then (record_of id)) (sym (record_at w law id l))
      ∙ f)

  each : (r : Record) → In r w.sessions → In r.id (ids_in (rows w)) × (record_in (rows w) r.id ≡ Some r)
  each r h =
      let l = record_id w law r h in
      let here : fin.get (rows w) (key_text (RecordOf r.id)) ≡ Some (record_text r) = record_at w law r.id l
      ∙ ap (option_map record_text) (of_in w.sessions r law.ids.ascend h) in (
        in_ids (rows w) r.id (record_text r) l here,
        ap (λ (b : Bool). cond b (option_and_then (record_of r.id) (fin.get (rows w) (key_text (RecordOf r.id))))
            None) (lt-ltb r.id.0 4294967296 l)
            ∙ ap (option_and_then (record_of r.id)) here ∙ record_again r (law.ranges.sessions r h),
      )

  pub same_opened : opened_sessions (rows w) ≡ w.sessions
  same_opened = sessions_opened (rows w) w.sessions law.ids.ascend sound each
