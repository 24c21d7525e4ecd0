-- What a name had just before a boot is what the rows of the one session say that this boot activated and that has the
-- name. Callers want `data_is`, `era_is`, `era_none`, `front_kind` and `boot_kept`.
use Rattle.std.proofs.Common.{◌≡◌, ◌≢◌, ◌⊎◌, ℕ, ◌<◌, ◌≤◌, ◌^◌, Bool, true, false, cond, eqb, ◌&&◌, not, List, [], ◌∷◌}
use Rattle.std.proofs.Common.{◌++◌}
use Rattle.std.proofs.Common.{length, Option, Some, None, sym, ap, subst, ◌∙◌, refl, inl, inr}
use Rattle.std.specs.Prelude.{option_and_then, nat_le}
use Rattle.std.specs.Int.{w32}
use Rattle.std.specs.Option.{option_or}
use Rattle.std.specs.FinMap as fin
use Rattle.std.proofs.lemmas.Bool.{true≢false, and_parts, eqb-true, eq-eqb, leb-true}
use Rattle.apex_base.specs.declared.numbers.Scale.{Scale}
use Rattle.apex_base.specs.declared.numbers.SessionId.{SessionId}
use Rattle.apex_base.specs.declared.records.Kind.{Kind}
use Rattle.apex_base.specs.declared.records.Kind.TheVariants.{Plain, WithRollback, RollbackOf}
use Rattle.apex_base.specs.declared.records.Record.{Record}
use Rattle.apex_base.specs.Commit.{rolls_back, undoes}
use Rattle.apex_base.specs.Keys.{DataOf, RowMap, id_text, key_text}
use Rattle.apex_base.specs.Members.{In}
use Rattle.apex_base.specs.Reading.{number_at, short_text}
use Rattle.apex_base.specs.Sessions.{names, session_of}
use Rattle.apex_base.specs.Tables.{value_of}
use Rattle.apex_base.specs.Text.{is_name}
use Rattle.apex_base.proofs.Finding.{filtered, some_if, some_then}
use Rattle.apex_base.proofs.MemberLemmas.{in_filter}
use Rattle.apex_base.proofs.SessionLemmas.{of_found, of_in}
use Rattle.apex_base.proofs.SpellingLemmas.{four_again}
use Rattle.apex_world.specs.Opened.{opened_boots, opened_sessions, opened_contents, activated_at}
use Rattle.apex_world.specs.Rows.{has_snapshot, has_pre_restore}
use Rattle.world_facts.proofs.facts.WorldRows.{same_id}
use Rattle.row_check.specs.BadRows.{opened_rows}
use Rattle.row_check.specs.KeptRows.{kept_row, kept_if, kept_by, kept_value, keeps, counting}
use Rattle.row_key.specs.Kept.{IsKeptTag, kept_text}
use Rattle.row_check.specs.KeptRows.{first_kept, era_value, is_boot}
use Rattle.row_check.proofs.EraValues.{opened_at, at_boot}
use Rattle.row_check.proofs.KeptKeys.{kept_there}
use Rattle.row_check.proofs.OpenedRecords.{session_id}
use Rattle.row_check.proofs.OpenedWorld.{opened_row}
use Rattle.session_check.specs.LawfulSessions.{AreLawfulSessions}
use Rattle.world_check.specs.DataRows.{boot_of, activation_at, activation_of}
use Rattle.row_key.specs.Data.{front_of}
use Rattle.world_check.proofs.FrontForms.{data_name, kept_name, IsKeptRow, IsFronted, fronted}

-- Options

or_same : (o : Option (List ℕ)) → option_or o o ≡ o
or_same None = refl
or_same (Some v) = refl

or_none : (o : Option (List ℕ)) → option_or o None ≡ o
or_none None = refl
or_none (Some v) = refl

no_value : (b : Bool) → ◌≡◌ {A = Option (List ℕ)} (cond b None None) None
no_value true = refl
no_value false = refl

not_zero : (a : ℕ) → not (eqb a 0) ≡ true → a ≢ 0
not_zero a e z = true≢false (sym e ∙ ap not (eq-eqb a 0 z))

-- A session keeps values under one tag at most

one_kind : (k : Kind) → rolls_back k ≡ true → undoes k ≡ false
one_kind Plain e = refl
one_kind WithRollback e = refl
one_kind (RollbackOf x) e = absurd (true≢false (sym e))

-- what has a snapshot has no values before a rollback
pub one_tag : (ss : List Record) (r : Record) → has_snapshot ss r ≡ true → has_pre_restore r ≡ false
one_tag ss r e =
    let two = and_parts (rolls_back r.kind && not (eqb r.activation 0)) _ e in
    let kind = one_kind r.kind (and_parts (rolls_back r.kind) _ two.0).0 in
    rw kind refl

-- the tag under which it keeps them
abbrev pub tag_of : List Record → Record → ℕ
tag_of ss r = cond (has_snapshot ss r) 7 8

not_both : (b : Bool) (ss : List Record) (r : Record) → has_snapshot ss r ≡ b → has_pre_restore r ≡ true → b ≡ false
not_both true ss r e f = absurd (true≢false (sym f ∙ one_tag ss r e))
not_both false ss r e f = refl

tag_kept : (ss : List Record) (tag : ℕ) (r : Record) → IsKeptTag tag → keeps ss tag r ≡ true → tag ≡ tag_of ss r
tag_kept ss tag r (inl seven) e =
    let snapshot : has_snapshot ss r ≡ true = ap (λ (t : ℕ). keeps ss t r) (sym seven) ∙ e in
    seven ∙ ap (λ (b : Bool). cond b 7 8) (sym snapshot)
tag_kept ss tag r (inr eight) e =
    let restore : has_pre_restore r ≡ true = ap (λ (t : ℕ). keeps ss t r) (sym eight) ∙ e in
    eight ∙ ap (λ (b : Bool). cond b 7 8) (sym (not_both (has_snapshot ss r) ss r refl restore))

pub tag_if : (b : Bool) → IsKeptTag (cond b 7 8)
tag_if true = inl refl
tag_if false = inr refl

-- The boot of a session's front

pub boot_kept : (ss : List Record) (tag : ℕ) (id : SessionId) (name : List ℕ) (r : Record) → IsKeptTag tag
    → id.0 < 2 ^ 32 → session_of ss id ≡ Some r → boot_of ss (kept_name tag id name) ≡ r.activation
boot_kept ss tag id name r kept low e =
    let read = four_again id.0 (length name ∷ name) low in
    let at_id : activation_at ss (number_at w32 (id_text id ++ length name ∷ name)) ≡ r.activation =
    ap (activation_at ss) read ∙ ap activation_of e in
    elim kept [
      | inl seven ↦ subst (λ (t : ℕ). boot_of ss (kept_name t id name) ≡ r.activation) (sym seven) at_id
      | inr eight ↦ subst (λ (t : ℕ). boot_of ss (kept_name t id name) ≡ r.activation) (sym eight) at_id
    ]

module _ (m : RowMap) (scale : Scale) (right : opened_rows m scale ≡ m) where
  abbrev pub ss : List Record
  ss = opened_sessions m

  abbrev pub n : ℕ
  n = (opened_boots m).0

  -- what a name has is what the rows say
  pub data_is : (name key : List ℕ) → value_of (opened_contents m) name key ≡ fin.get m (data_name name ++ key)
  data_is name key =
      sym (ap (λ (rows : RowMap). fin.get rows (key_text (DataOf name key))) (sym right)
      ∙ opened_row m scale (DataOf name key) tt)

  kept_is : (tag : ℕ) (id : SessionId) (name key : List ℕ) → IsKeptTag tag → id.0 < 2 ^ 32
      → fin.get m (kept_text tag id name key) ≡ kept_row m tag id name key
  kept_is tag id name key kept low =
      ap (λ (rows : RowMap). fin.get rows (kept_text tag id name key)) (sym right)
      ∙ kept_there m scale tag id name key kept low

  module _ (lawful : AreLawfulSessions n ss) where
    -- One session for a boot and a name

    one_if : (b : Bool) (r s : Record) (name : List ℕ) → eqb r.id.0 s.id.0 ≡ b → In r ss → In s ss
        → names name r ≡ true → names name s ≡ true → r.activation ≢ 0 → s.activation ≡ r.activation → s ≡ r
    one_if true r s name e i j f g some same =
        let id : r.id ≡ s.id = same_id r.id s.id (eqb-true r.id.0 s.id.0 e) in
        let of_r = of_in ss r lawful.ids.ascend i in
        let of_s = of_in ss s lawful.ids.ascend j in
        let both : ◌≡◌ {A = Option Record} (Some s) (Some r) = sym of_s ∙ ap (session_of ss) (sym id) ∙ of_r in
        cc both
    one_if false r s name e i j f g some same =
        let apart : r.id.0 ≢ s.id.0 = λ z. true≢false (sym (eq-eqb r.id.0 s.id.0 z) ∙ e) in
        let peers = lawful.activations.peers r s name i j apart f g in
        absurd (peers.apart some (λ z. some (sym same ∙ z)) (sym same))

    pub one_session : (r s : Record) (name : List ℕ) → In r ss → In s ss → names name r ≡ true → names name s ≡ true
        → r.activation ≢ 0 → s.activation ≡ r.activation → s ≡ r
    one_session r s name = one_if (eqb r.id.0 s.id.0) r s name refl

    pub counted_back : (b : ℕ) (name : List ℕ) (s : Record) → In s (counting ss b name)
        → In s ss × (s.activation ≡ b) × (names name s ≡ true)
    counted_back b name s h =
        let (i, f) = in_filter (names name) s (activated_at b ss) h in
        let (j, e) = in_filter (λ (r : Record). eqb r.activation b) s ss i in
        (j, eqb-true s.activation b e, f)

    counted_there : (r : Record) (name : List ℕ) → In r ss → names name r ≡ true
        → In r (counting ss r.activation name)
    counted_there r name i f =
        filtered (names name) r (activated_at r.activation ss)
        (filtered (λ (s : Record). eqb s.activation r.activation) r ss i (eq-eqb r.activation r.activation refl)) f

    module _ (r : Record) (name key : List ℕ) where
      abbrev at_tag : ℕ → Option (List ℕ)
      at_tag tag = fin.get m (kept_text tag r.id name key)

      first_one : (tag : ℕ) (s : Record) (rs : List Record) → ((t : Record) → In t (s ∷ rs) → t ≡ r)
          → first_kept m tag (short_text name key) (s ∷ rs) ≡ at_tag tag
      first_one tag s [] all =
          or_none _ ∙ ap (λ (t : Record). fin.get m (kept_text tag t.id name key)) (all s (inl refl))
      first_one tag s (t ∷ rs) all =
          ap (option_or (fin.get m (kept_text tag s.id name key)))
          (first_one tag t rs (λ u h. all u (inr h)))
          ∙ ap (λ (u : Record). option_or (fin.get m (kept_text tag u.id name key)) (at_tag tag)) (all s (inl refl))
          ∙ or_same (at_tag tag)

      first_of : (tag : ℕ) (rs : List Record) → In r rs → ((t : Record) → In t rs → t ≡ r)
          → first_kept m tag (short_text name key) rs ≡ at_tag tag
      first_of tag [] h all = absurd h
      first_of tag (s ∷ rs) h all = first_one tag s rs all

      module _ (member : In r ss) (named : names name r ≡ true) where
        kept_one : (tag : ℕ) → IsKeptTag tag
            → at_tag tag ≡ kept_if ss tag name (era_value m ss n r.activation name key) r
        kept_one tag kept =
            kept_is tag r.id name key kept (session_id m r member)
            ∙ ap (option_and_then (kept_value m ss n tag name key)) (of_in ss r lawful.ids.ascend member)

        off : (tag : ℕ) → IsKeptTag tag → keeps ss tag r ≡ false → at_tag tag ≡ None
        off tag kept e = kept_one tag kept ∙ ap (λ (b : Bool). cond {A = Option (List ℕ)} b
            (cond (names name r) (era_value m ss n r.activation name key) None) None) e

        unnamed : (tag : ℕ) → IsKeptTag tag → is_name key ≡ false → at_tag tag ≡ None
        unnamed tag kept e =
            let no : (b : Bool) → (b && is_name key) ≡ false = λ b. both_no b e in
            let none : era_value m ss n r.activation name key ≡ None =
            ap (λ (b : Bool). cond {A = Option (List ℕ)} b
            (kept_by m (short_text name key) (counting ss r.activation name)) None) (no (is_boot n r.activation)) in
            kept_one tag kept
            ∙ ap (λ (o : Option (List ℕ)). cond (keeps ss tag r) (cond (names name r) o None) None) none
            ∙ ap (λ (o : Option (List ℕ)). cond (keeps ss tag r) o None) (no_value (names name r))
            ∙ no_value (keeps ss tag r) where
              both_no : (b : Bool) → is_name key ≡ false → (b && is_name key) ≡ false
              both_no true e = e
              both_no false e = refl

        value_if : (a b : Bool) → is_name key ≡ a → has_snapshot ss r ≡ b
            → cond a (option_or (at_tag 7) (at_tag 8)) None ≡ at_tag (cond b 7 8)
        value_if false b e f = sym (unnamed (cond b 7 8) (tag_if b) e)
        value_if true true e f = ap (option_or (at_tag 7)) (off 8 (inr refl) (one_tag ss r f)) ∙ or_none (at_tag 7)
        value_if true false e f = ap (λ (o : Option (List ℕ)). option_or o (at_tag 8)) (off 7 (inl refl) f)

        -- what the name had before the session was activated
        pub era_is : r.activation ≢ 0 → value_of (opened_at m ss r.activation) name key
            ≡ fin.get m (kept_name (tag_of ss r) r.id name ++ key)
        era_is some =
            let rs = counting ss r.activation name in
            let here = counted_there r name member named in
            let all : (t : Record) → In t rs → t ≡ r = λ t h.
            let (i, e, f) = counted_back r.activation name t h in one_session r t name member i named f some e in
            at_boot m ss r.activation name key
            ∙ ap (λ (o : Option (List ℕ)). cond (is_name key)
            (option_or o (first_kept m 8 (short_text name key) rs)) None) (first_of 7 rs here all)
            ∙ ap (λ (o : Option (List ℕ)). cond (is_name key) (option_or (at_tag 7) o) None) (first_of 8 rs here all)
            ∙ value_if (is_name key) (has_snapshot ss r) refl refl

    -- where no session names it, it had nothing
    pub era_none : (b : ℕ) (name key : List ℕ) → counting ss b name ≡ []
        → value_of (opened_at m ss b) name key ≡ None
    era_none b name key e =
        at_boot m ss b name key
        ∙ ap (λ (rs : List Record). cond (is_name key) (kept_by m (short_text name key) rs) None) e
        ∙ no_value (is_name key)

    -- Fronts

    pub record IsDataFront (front : List ℕ) : Type 0 where
      pub name : List ℕ
      pub key : List ℕ
      pub value : List ℕ
      pub is : front ≡ data_name name
      pub there : fin.get m (front ++ key) ≡ Some value

    pub record IsSessionFront (front : List ℕ) : Type 0 where
      pub session : Record
      pub name : List ℕ
      pub key : List ℕ
      pub value : List ℕ
      pub member : In session ss
      pub named : names name session ≡ true
      pub some : session.activation ≢ 0
      pub most : session.activation ≤ n
      pub is : front ≡ kept_name (tag_of ss session) session.id name
      pub there : fin.get m (front ++ key) ≡ Some value

    of_session : (q v front : List ℕ) → fin.get m q ≡ Some v → IsKeptRow m q v front → IsSessionFront front
    of_session q v front e row =
        let tag = row.tag in
        let name = row.name in
        let (r, found, has) = some_then (kept_value m ss n tag name row.key) (session_of ss row.id) v row.value in
        let value = era_value m ss n r.activation name row.key in
        let (kept, f) = some_if (keeps ss tag r) (cond (names name r) value None) v has in
        let (named, g) = some_if (names name r) value v f in
        let (both, h) = some_if (is_boot n r.activation && is_name row.key)
        (kept_by m (short_text name row.key) (counting ss r.activation name)) v g in
        let boot = and_parts (not (eqb r.activation 0)) (nat_le r.activation n)
        (and_parts (is_boot n r.activation) (is_name row.key) both).0 in
        let (member, same) = of_found ss row.id r found in
        let id : row.id ≡ r.id = sym (same_id r.id row.id same) in
        record {
          session = r;
          name = name;
          key = row.key;
          value = v;
          member = member;
          named = named;
          some = not_zero r.activation boot.0;
          most = leb-true r.activation n boot.1;
          is = row.begins ∙ ap (λ (i : SessionId). kept_name tag i name) id
              ∙ ap (λ (t : ℕ). kept_name t r.id name) (tag_kept ss tag r row.kept kept);
          there = ap (fin.get m) (ap (λ (f : List ℕ). f ++ row.key) row.begins ∙ sym row.is) ∙ e;
        }

    kind_of : (q v front : List ℕ) → fin.get m q ≡ Some v → IsFronted m q v front
        → IsDataFront front ⊎ IsSessionFront front
    kind_of q v front e (inl row) = inl (record {
      name = row.name;
      key = row.key;
      value = v;
      is = row.begins;
      there = ap (fin.get m) (ap (λ (f : List ℕ). f ++ row.key) row.begins ∙ sym row.is) ∙ e;
    })
    kind_of q v front e (inr row) = inr (of_session q v front e row)

    -- a front is of a name's data, or of what a session keeps
    pub front_kind : (q v front : List ℕ) → fin.get m q ≡ Some v → front_of q ≡ Some front
        → IsDataFront front ⊎ IsSessionFront front
    front_kind q v front e f = kind_of q v front e (fronted m scale right q v front e f)

    pub session_boot : (front : List ℕ) (s : IsSessionFront front) → boot_of ss front ≡ s.session.activation
    session_boot front s =
        ap (boot_of ss) s.is
        ∙ boot_kept ss (tag_of ss s.session) s.session.id s.name s.session (tag_if (has_snapshot ss s.session))
        (session_id m s.session s.member) (of_in ss s.session lawful.ids.ascend s.member)
