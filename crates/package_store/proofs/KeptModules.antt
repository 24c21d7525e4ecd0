-- Which modules are kept, noted one after another. Callers want `part_noted`, `all_kept` and `same_note`.
use Rattle.std.proofs.Common.{◌≡◌, ℕ, Bool, true, false, cond, ◌||◌, ◌&&◌, not, List, [], ◌∷◌, ◌++◌, fold, Some}
use Rattle.std.proofs.Common.{None, flat_map, ap, sym, ◌∙◌, refl, inl, inr}
use Rattle.std.specs.Cmp.{tied_then, unsigned_ties}
use Rattle.std.specs.Int.{w32, from_be_bytes}
use Rattle.std.specs.List.{list_any}
use Rattle.std.specs.Ordering.{nat_cmp, is_eq}
use Rattle.std.specs.Prelude.{◌==◌}
use Rattle.std.specs.Str.{bytes_eq}
use Rattle.std.proofs.lemmas.Bool.{and_parts, or_cases, or_left, or_right}
use Rattle.std.proofs.lemmas.Slice.Eq.{bytes_eq-Decides}
use Rattle.apex_base.specs.declared.numbers.SessionId.{SessionId}
use Rattle.apex_base.specs.declared.records.Part.{Part}
use Rattle.apex_base.specs.declared.records.Record.{Record}
use Rattle.apex_base.specs.declared.records.Target.{Target}
use Rattle.apex_base.specs.declared.records.Target.TheVariants as targets
use Rattle.apex_base.specs.Held.{is_unfinished, is_undoable, is_standing, is_available, is_module, is_target}
use Rattle.apex_base.specs.Held.{held, before, kept_for, kept, target_of}
use Rattle.apex_base.specs.Members.{In}
use Rattle.apex_base.specs.Settled.{stands_for}
use Rattle.apex_base.proofs.MemberLemmas.{in_left, in_right, in_append, in_flat_map, in_flat_map_back, any_in, in_any}
use Rattle.package_store.specs.declared.kept.KeptParts.{KeptParts}
use Rattle.package_store.specs.Keeping.{part_cmp, keep_held, keep_for, has_part, stays_among}
use Rattle.package_store.specs.Latest.{Best, best_of}
use Rattle.package_store.specs.Named.{Note, resettled, note_row}
use Rattle.package_store.specs.Settled.{file_stays}
use Rattle.package_store.proofs.HeldNames.{Lists, both_ways, entry_stands, stands_entry}

true_or : (a b : Bool) → cond a true b ≡ (a || b)
true_or true b = refl
true_or false b = refl

-- a module more
pub part_noted : (s : SessionId) (p version : ℕ) (session : SessionId) (part : ℕ) (had : Bool)
    → cond (is_eq (part_cmp (s.0, p) (session.0, part))) true had
    ≡ (is_module session part (targets.Module s p version) || had)
part_noted s p version session part had =
    ap (λ (b : Bool). cond b true had) (sym (tied_then (nat_cmp s.0 session.0) (nat_cmp p part)))
    ∙ ap (λ (b : Bool). cond (b && is_eq (nat_cmp p part)) true had) (sym (unsigned_ties s.0 session.0))
    ∙ ap (λ (b : Bool). cond ((s.0 == session.0) && b) true had) (sym (unsigned_ties p part))
    ∙ true_or ((s.0 == session.0) && (p == part)) had

or_more : (a b c : Bool) → ((a || b) || c) ≡ (b || (a || c))
or_more true true c = refl
or_more true false c = refl
or_more false b c = refl

or_turn : (a b c : Bool) → (b || (a || c)) ≡ ((a || (b || false)) || c)
or_turn true true c = refl
or_turn true false c = refl
or_turn false true c = refl
or_turn false false c = refl

or_later : (a b c : Bool) → ((a || b) || c) ≡ (a || (b || c))
or_later true b c = refl
or_later false b c = refl

or_none : (b : Bool) → b ≡ (b || false)
or_none true = refl
or_none false = refl

in_if : {X : Type 0} (b : Bool) (x y : X) → In x (cond b (y ∷ []) []) → (b ≡ true) × (y ≡ x)
in_if true x y (inl e) = (refl, e)
in_if true x y (inr h) = absurd h
in_if false x y h = absurd h

if_in : {X : Type 0} (b : Bool) (x y : X) → b ≡ true → y ≡ x → In x (cond b (y ∷ []) [])
if_in true x y e same = inl same
if_in false x y e same = absurd (cc)

module _ (records : List Record) (session : SessionId) (part : ℕ) where
  abbrev is_it : Target → Bool
  is_it = is_module session part

  -- what a session keeps for one of its names, beside what the name holds
  abbrev own : Record → Part → List Target
  own r p = cond (is_unfinished r.state) (p.target ∷ []) []

  abbrev old : Record → Part → List Target
  old r p = cond (is_undoable r.state || is_available r.rollback) (before records r p.name ∷ []) []

  abbrev holding : Record → Part → List Target
  holding r p = cond (is_standing r.state) (held records p.name ∷ []) []

  abbrev beside : Record → Part → List Target
  beside r p = own r p ++ old r p

  -- the walks as tests of all that they see

  held_any : (es : List (List ℕ × Best)) (had : Bool)
      → fold (keep_held session part) had es ≡ (had || list_any (λ (e : List ℕ × Best). is_it e.1.1) es)
  held_any [] had = or_none had
  held_any (e ∷ es) had = held_any es (is_it e.1.1 || had)
      ∙ or_more (is_it e.1.1) had (list_any (λ (e : List ℕ × Best). is_it e.1.1) es)

  for_if : (u o had : Bool) (x y : Target)
      → cond o (is_it y || cond u (is_it x || had) had) (cond u (is_it x || had) had)
      ≡ (list_any is_it (cond u (x ∷ []) [] ++ cond o (y ∷ []) []) || had)
  for_if true true had x y = or_turn (is_it x) (is_it y) had
  for_if true false had x y = ap (λ (b : Bool). b || had) (or_none (is_it x))
  for_if false true had x y = ap (λ (b : Bool). b || had) (or_none (is_it y))
  for_if false false had x y = refl

  for_any : (r : Record) (ps : List Part) (had : Bool) → fold (keep_for records r session part) had ps
      ≡ (had || list_any (λ (p : Part). list_any is_it (beside r p)) ps)
  for_any r [] had = or_none had
  for_any r (p ∷ ps) had =
      let rest = list_any (λ (p : Part). list_any is_it (beside r p)) ps in
      for_any r ps (keep_for records r session part had p)
      ∙ ap (λ (b : Bool). b || rest) (for_if (is_unfinished r.state) (is_undoable r.state || is_available r.rollback)
      had p.target (before records r p.name))
      ∙ or_more (list_any is_it (beside r p)) had rest

  abbrev any_beside : Record → Bool
  any_beside r = list_any (λ (p : Part). list_any is_it (beside r p)) r.parts

  all_any : (rs : List Record) (had : Bool)
      → fold (λ (had : Bool) (r : Record). fold (keep_for records r session part) had r.parts) had rs
      ≡ (had || list_any any_beside rs)
  all_any [] had = or_none had
  all_any (r ∷ rs) had =
      all_any rs (fold (keep_for records r session part) had r.parts)
      ∙ ap (λ (b : Bool). b || list_any any_beside rs) (for_any r r.parts had)
      ∙ or_later had (any_beside r) (list_any any_beside rs)

  -- a target that a session keeps for one of its names is among those kept
  kept_is : (r : Record) (p : Part) (x : Target) → In r records → In p r.parts → In x (kept_for records r p)
      → is_it x ≡ true → is_target (kept records) session part ≡ true
  kept_is r p x in_r in_p in_x is =
      in_any is_it x (kept records)
      (in_flat_map (λ (r : Record). flat_map (kept_for records r) r.parts) r x records in_r
      (in_flat_map (kept_for records r) p x r.parts in_p in_x)) is

  module _ (es : List (List ℕ × Best)) (lists : Lists records es) where
    -- what a name holds is kept for a session that stands
    held_kept : list_any (λ (e : List ℕ × Best). is_it e.1.1) es ≡ true → is_target (kept records) session part ≡ true
    held_kept any =
        let (e, there, is) = any_in (λ (e : List ℕ × Best). is_it e.1.1) es any in
        let best : best_of records e.0 ≡ Some e.1 = lists.each e there in
        let (r, in_r, stands) = any_in (stands_for e.0) records (entry_stands records es lists e there) in
        let (standing, named) = and_parts _ _ stands in
        let (p, in_p, name) = any_in (λ (p : Part). bytes_eq p.name e.0) r.parts named in
        let holds : held records p.name ≡ e.1.1 =
        ap (λ (n : List ℕ). held records n) ((bytes_eq-Decides p.name e.0).0 name) ∙ ap target_of best in
        kept_is r p e.1.1 in_r in_p (in_left e.1.1 (own r p ++ holding r p) (old r p)
        (in_right e.1.1 (own r p) (holding r p)
        (if_in (is_standing r.state) e.1.1 (held records p.name) standing holds))) is

    beside_kept : list_any any_beside records ≡ true → is_target (kept records) session part ≡ true
    beside_kept any =
        let (r, in_r, some) = any_in any_beside records any in
        let (p, in_p, one) = any_in (λ (p : Part). list_any is_it (beside r p)) r.parts some in
        let (x, in_x, is) = any_in is_it (beside r p) one in
        kept_is r p x in_r in_p (elim (in_append x (own r p) (old r p) in_x) [
          | inl here ↦ in_left x (own r p ++ holding r p) (old r p) (in_left x (own r p) (holding r p) here)
          | inr here ↦ in_right x (own r p ++ holding r p) (old r p) here
        ]) is

    held_there : (r : Record) (p : Part) (x : Target) → In r records → In p r.parts → is_it x ≡ true
        → is_standing r.state ≡ true → held records p.name ≡ x
        → list_any (λ (e : List ℕ × Best). is_it e.1.1) es ≡ true
    held_there r p x in_r in_p is standing holds =
        let named : list_any (λ (q : Part). bytes_eq q.name p.name) r.parts ≡ true =
        in_any (λ (q : Part). bytes_eq q.name p.name) p r.parts in_p ((bytes_eq-Decides p.name p.name).1 refl) in
        let stands : stands_for p.name r ≡ true = rw (standing, named) refl in
        let (best, found, there) = stands_entry records es lists p.name
        (in_any (stands_for p.name) r records in_r stands) in
        let same : best.1 ≡ x = sym (ap target_of found) ∙ holds in
        in_any (λ (e : List ℕ × Best). is_it e.1.1) (p.name, best) es there
        (ap is_it same ∙ is)

    beside_there : (r : Record) (p : Part) (x : Target) → In r records → In p r.parts → is_it x ≡ true
        → In x (beside r p) → list_any any_beside records ≡ true
    beside_there r p x in_r in_p is in_x =
        in_any any_beside r records in_r (in_any (λ (p : Part). list_any is_it (beside r p)) p r.parts in_p
        (in_any is_it x (beside r p) in_x is))

    kept_there : is_target (kept records) session part ≡ true
        → (list_any (λ (e : List ℕ × Best). is_it e.1.1) es || list_any any_beside records) ≡ true
    kept_there is_kept =
        let (x, in_x, is) = any_in is_it (kept records) is_kept in
        let (r, in_r, in_s) = in_flat_map_back (λ (r : Record). flat_map (kept_for records r) r.parts) x records in_x in
        let (p, in_p, in_k) = in_flat_map_back (kept_for records r) x r.parts in_s in
        elim (in_append x (own r p ++ holding r p) (old r p) in_k) [
          | inl rest ↦ elim (in_append x (own r p) (holding r p) rest) [
            | inl here ↦ or_right _ _ (beside_there r p x in_r in_p is (in_left x (own r p) (old r p) here))
            | inr here ↦ let (standing, holds) = in_if (is_standing r.state) x (held records p.name) here in
                or_left _ _ (held_there r p x in_r in_p is standing holds)
          ]
          | inr here ↦ or_right _ _ (beside_there r p x in_r in_p is (in_right x (own r p) (old r p) here))
        ]

    -- what is noted in the end is what is kept
    pub all_kept : fold (λ (had : Bool) (r : Record). fold (keep_for records r session part) had r.parts)
        (fold (keep_held session part) false es) records ≡ is_target (kept records) session part
    all_kept =
        all_any records (fold (keep_held session part) false es)
        ∙ ap (λ (b : Bool). b || list_any any_beside records) (held_any es false)
        ∙ both_ways _ _ (λ h. elim (or_cases _ _ h) [
          | inl any ↦ held_kept any
          | inr any ↦ beside_kept any
        ]) kept_there

-- ---- what is noted by what is kept

module _ (parts : KeptParts) (targets : List Target)
    (are : (session : SessionId) (part : ℕ) → has_part parts session part ≡ is_target targets session part) where
  same_stays : (rest : List ℕ) → stays_among parts rest ≡ file_stays targets rest
  same_stays [] = refl
  same_stays (a ∷ []) = refl
  same_stays (a ∷ b ∷ []) = refl
  same_stays (a ∷ b ∷ c ∷ []) = refl
  same_stays (a ∷ b ∷ c ∷ d ∷ []) = refl
  same_stays (a ∷ b ∷ c ∷ d ∷ part ∷ path) =
      are (record { 0 = from_be_bytes w32 (a ∷ b ∷ c ∷ d ∷ []) }) part

  pub same_note : (key value : List ℕ) (n : Note)
      → note_row (stays_among parts) key value n ≡ note_row (file_stays targets) key value n
  same_note [] value n = refl
  same_note (tag ∷ rest) value n = ap (λ (b : Bool). cond ((tag == 3) || (tag == 4)) (resettled n value)
      (cond ((tag == 5) && not b) (Some None) n)) (same_stays rest)
