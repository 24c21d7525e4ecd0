-- Which rows can be booted from. Callers want `stored_bootable`, `simple_from`, `not_refused`, `order_of` and `few_boots`.
use Rattle.std.proofs.Common.{◌≡◌, ◌<◌, ℕ, Bool, true, false, cond, not, eqb, ltb, ◌&&◌, List, [], ◌∷◌}
use Rattle.std.proofs.Common.{Option, Some, None, Result, Ok, Err, sym, ap, subst, ◌∙◌, refl, inl, inr, arith, Decides}
use Rattle.std.specs.Prelude.{is_some, IfErr, IsErrAnd}
use Rattle.std.specs.Cmp.Lexicographic.{slice_cmp}
use Rattle.std.specs.FinMap as fin
use Rattle.std.specs.FinMap.{len-empty}
use Rattle.std.specs.Ordering.{nat_cmp}
use Rattle.std.proofs.lemmas.Bool.{eqb-true}
use Rattle.std.proofs.lemmas.Bool.Decides.{Decides-and, Decides-ltb}
use Rattle.std.proofs.lemmas.List.FromFn.{length-map-range_with_len}
use Rattle.apex_base.specs.declared.numbers.Scale.{Scale}
use Rattle.apex_base.specs.declared.numbers.SessionId.{SessionId}
use Rattle.apex_base.specs.declared.records.Kind.{Kind}
use Rattle.apex_base.specs.declared.records.Kind.TheVariants.{Plain, WithRollback, RollbackOf}
use Rattle.apex_base.specs.declared.records.Record.{Record}
use Rattle.apex_base.specs.declared.records.RollbackState.{RollbackState}
use Rattle.apex_base.specs.declared.why.Why.{Why}
use Rattle.apex_base.specs.declared.why.Why.TheVariants.{Fault, NoMemory}
use Rattle.apex_base.specs.Commit.{rolls_back}
use Rattle.apex_base.specs.Keys.{RowMap}
use Rattle.apex_base.specs.Members.{In}
use Rattle.apex_base.specs.Tables.{NameMap, Table}
use Rattle.apex_base.proofs.TableLemmas.{no_len}
use Rattle.apex_world.specs.declared.calls.BootOrder.{BootOrder}
use Rattle.world_laws.specs.Invariance.{IsOrderOf}
use Rattle.apex_world.specs.Lawful.{HasRollback, Lawful}
use Rattle.apex_world.specs.Opened.{activated_at, era_of, opened, opened_boots, opened_contents, opened_sessions}
use Rattle.apex_world.specs.Opened.{opened_watches}
use Rattle.world_facts.specs.Plain.{IsPlainSession}
use Rattle.apex_world.specs.World.{World, boots}
use Rattle.world_facts.proofs.facts.DecidedTests.{every}
use Rattle.world_laws.proofs.alike.OpenedBoots.{boots_same}
use Rattle.world_laws.proofs.rows.OpenedLemmas as again
use Rattle.world_facts.proofs.facts.OpenedSessions.{same_opened}
use Rattle.world_facts.proofs.facts.OpenedTables.{contents_again, watches_again}
use Rattle.row_check.specs.declared.opened.BadRows.{BadRows}
use Rattle.row_check.specs.BadRows.{opened_rows}
use Rattle.row_check.specs.WrongTags.{AreBad}
use Rattle.stored_world.specs.Stored.{IsSimple, IsStored}
use Rattle.boot_recover.specs.Refused.{AreBootable, AreRefused, HasBootsLeft, IsAnOrder}
use Rattle.boot_recover.specs.Refused.{are_simple, is_childless, is_plain, unbuilt_tag}
use Rattle.boot_recover.proofs.TagRows.{are_of, data_rows, is_some_table, watch_rows}

-- The tests of simple worlds

plain_decides : (k : Kind) → Decides (is_plain k) (k ≡ Plain)
plain_decides Plain = (λ e. refl, λ e. refl)
plain_decides WithRollback = (λ e. absurd (cc e), λ e. absurd (cc e))
plain_decides (RollbackOf x) = (λ e. absurd (cc e), λ e. absurd (cc e))

childless_decides : (ids : List SessionId) → Decides (is_childless ids) (ids ≡ [])
childless_decides [] = (λ e. refl, λ e. refl)
childless_decides (id ∷ ids) = (λ e. absurd (cc e), λ e. absurd (cc e))

simple_decides : (sessions : List Record)
    → Decides (are_simple sessions) ((r : Record) → In r sessions → (r.kind ≡ Plain) × (r.children ≡ []))
simple_decides sessions =
    every (λ r. is_plain r.kind && is_childless r.children) (λ r. (r.kind ≡ Plain) × (r.children ≡ [])) sessions
    (λ r h. Decides-and _ _ (plain_decides r.kind) (childless_decides r.children))

none_left : (o : Option RollbackState) → is_some o ≡ false → o ≡ None
none_left None e = refl
none_left (Some x) e = absurd (cc e)

-- a lawful session of the plain kind has no rollback
plain_session : (r : Record) → HasRollback r → r.kind ≡ Plain → IsPlainSession r
plain_session r has kind = record { kind = kind; rollback = none_left r.rollback (has.kind ∙ ap rolls_back kind) }

empty_if : {X : Type 0} (t : Table X) (b : Bool) → eqb (fin.len t) 0 ≡ b → not b ≡ false → t ≡ fin.empty
empty_if t true e f = no_len t (eqb-true (fin.len t) 0 e)
empty_if t false e f = absurd (cc f)

-- a table without anything is empty
empty_table : {X : Type 0} (t : Table X) → is_some_table t ≡ false → t ≡ fin.empty
empty_table t e = empty_if t (eqb (fin.len t) 0) refl e

nothing_in : {X : Type 0} (t : Table X) → t ≡ fin.empty → is_some_table t ≡ false
nothing_in {X} t e = ap is_some_table e ∙ ap (λ (n : ℕ). not (eqb n 0)) (len-empty (slice_cmp nat_cmp) (NameMap X))

-- the least tag, by three tests
abbrev pub tag_by : Bool → Bool → Bool → Option ℕ
tag_by s d h = cond (not s) (Some 2) (cond d (Some 6) (cond h (Some 9) None))

tests_of : (s d h : Bool) → tag_by s d h ≡ None → (s ≡ true) × (d ≡ false) × (h ≡ false)
tests_of false d h e = absurd (cc e)
tests_of true true h e = absurd (cc e)
tests_of true false true e = absurd (cc e)
tests_of true false false e = (refl, refl, refl)

-- a lawful world in which nobody is registered, without a tag, is simple
pub simple_from : (w : World) → Lawful w → w.observers ≡ [] → unbuilt_tag w ≡ None → IsSimple w
simple_from w law alone e =
    let (s, d, h) = tests_of (are_simple w.sessions) (is_some_table w.contents) (is_some_table w.watches) e in
    let each = (simple_decides w.sessions).0 s in
    record {
      plain = record {
        ascend = law.ids.ascend;
        sessions = λ r i. plain_session r (law.rollbacks.each r i) (each r i).0;
        contents = empty_table w.contents d;
        watches = empty_table w.watches h;
        observers = alone;
      };
      childless = λ r i. (each r i).1;
    }

-- and a simple world has no tag
pub no_tag : (w : World) → IsSimple w → unbuilt_tag w ≡ None
no_tag w s =
    let all = (simple_decides w.sessions).1 (λ r i. ((s.plain.sessions r i).kind, s.childless r i)) in
    rw (all, nothing_in w.contents s.plain.contents, nothing_in w.watches s.plain.watches) refl

-- the tag, by tests that a program can make of right rows
pub tag_by_rows : (m : RowMap) (scale : Scale) (ss : List Record) → opened_rows m scale ≡ m → Lawful (opened m scale)
    → ss ≡ opened_sessions m → tag_by (are_simple ss) (are_of 6 m) (are_of 9 m) ≡ unbuilt_tag (opened m scale)
tag_by_rows m scale ss right law e =
    let w = opened m scale in
    let d : are_of 6 m ≡ is_some_table w.contents = ap (are_of 6) (sym right) ∙ data_rows w law in
    let h : are_of 9 m ≡ is_some_table w.watches = ap (are_of 9) (sym right) ∙ watch_rows w law in
    ap (λ (b : Bool). tag_by b (are_of 6 m) (are_of 9 m)) (ap are_simple e)
    ∙ ap (λ (b : Bool). tag_by (are_simple w.sessions) b (are_of 9 m)) d
    ∙ ap (λ (b : Bool). tag_by (are_simple w.sessions) (is_some_table w.contents) b) h

pub tag_two : (s d h : Bool) → s ≡ false → Some 2 ≡ tag_by s d h
tag_two s d h e = rw e refl

pub tag_six : (s d h : Bool) → s ≡ true → d ≡ true → Some 6 ≡ tag_by s d h
tag_six s d h e f = rw (e, f) refl

pub tag_nine : (s d h : Bool) → s ≡ true → d ≡ false → h ≡ true → Some 9 ≡ tag_by s d h
tag_nine s d h e f g = rw (e, f, g) refl

pub tag_none : (s d h : Bool) → s ≡ true → d ≡ false → h ≡ false → None ≡ tag_by s d h
tag_none s d h e f g = rw (e, f, g) refl

-- Boots of the world that rows open to

pub boots_opened : (m : RowMap) (scale : Scale) → boots (opened m scale) ≡ (opened_boots m).0
boots_opened m scale =
    length-map-range_with_len (λ b. era_of m (activated_at b (opened_sessions m))) 1 (opened_boots m).0

-- so many boots
boots_seen : (m : RowMap) (scale : Scale) (n : ℕ) (moments : List ℕ) → (n, moments) ≡ opened_boots m
    → boots (opened m scale) ≡ n
boots_seen m scale n moments e = boots_opened m scale ∙ ap (λ (x : ℕ × List ℕ). x.0) (sym e)

-- a lawful world may boot exactly if it has boots left
pub left_decides : (m : RowMap) (scale : Scale) (lawful left : Bool) (n : ℕ) (moments : List ℕ)
    → Decides lawful (Lawful (opened m scale)) → lawful ≡ true → left ≡ ltb n 4000000000
    → (n, moments) ≡ opened_boots m → Decides left (Lawful (opened m scale) × HasBootsLeft (opened m scale))
left_decides m scale lawful left n moments d is e f =
    let few : Decides left (n < 4000000000) =
    subst (λ (b : Bool). Decides b (n < 4000000000)) (sym e) (Decides-ltb n 4000000000) in
    let has : Decides left (boots (opened m scale) < 4000000000) =
    subst (λ (k : ℕ). Decides left (k < 4000000000)) (sym (boots_seen m scale n moments f)) few in
    (λ g. (d.0 is, has.0 g), λ both. has.1 both.1)

-- Why rows are refused

pub foreign_refused : (m : RowMap) (scale : Scale) (why : Why BadRows) → AreBad m why → AreRefused m scale why
foreign_refused m scale (Fault bad) h = inl (h scale)
foreign_refused m scale NoMemory h = tt

pub unlawful_refused : (m : RowMap) (scale : Scale) (why : Why BadRows) → why ≡ Fault (record { tag = 0 })
    → opened_rows m scale ≡ m → (Lawful (opened m scale) × HasBootsLeft (opened m scale) → ⊥) → AreRefused m scale why
unlawful_refused m scale why e right d =
    subst (AreRefused m scale) (sym e) (inr (inl (refl, record { right = right; unlawful = d })))

pub unbuilt_refused : (m : RowMap) (scale : Scale) (why : Why BadRows) (tag : ℕ) → why ≡ Fault (record { tag = tag })
    → opened_rows m scale ≡ m → Lawful (opened m scale) × HasBootsLeft (opened m scale)
    → Some tag ≡ unbuilt_tag (opened m scale) → AreRefused m scale why
unbuilt_refused m scale why tag e right may is =
    subst (AreRefused m scale) (sym e)
    (inr (inr (record { right = right; lawful = may.0; left = may.1; unbuilt = sym is })))

-- and why they are not
pub none_refused : (m : RowMap) (scale : Scale) → opened_rows m scale ≡ m
    → Lawful (opened m scale) × HasBootsLeft (opened m scale) → None ≡ unbuilt_tag (opened m scale)
    → AreBootable m scale
none_refused m scale right may is = record {
  stored = record { lawful = may.0; simple = simple_from (opened m scale) may.0 refl (sym is); stored = sym right };
  left = may.1;
}

-- Rows of a world open to one that can be booted

module _ (m : RowMap) (w : World) (s : IsStored m w) (scale : Scale) (e : scale ≡ w.scale) where
  same_boots : boots (opened m scale) ≡ boots w
  same_boots = boots_opened m scale ∙ ap (λ (x : ℕ × List ℕ). x.0) (ap opened_boots s.stored ∙ boots_same w s.lawful)

  same_sessions : opened_sessions m ≡ w.sessions
  same_sessions = ap opened_sessions s.stored ∙ same_opened w s.lawful

  lawful : Lawful (opened m scale)
  lawful = subst (λ (x : Scale). Lawful (opened m x)) (sym e)
      (subst (λ (rs : RowMap). Lawful (opened rs w.scale)) (sym s.stored) (again.opened_lawful w s.lawful))

  right : opened_rows m scale ≡ m
  right = ap (λ (x : Scale). opened_rows m x) e ∙ ap (λ (rs : RowMap). opened_rows rs w.scale) s.stored
      ∙ again.opened_rows w s.lawful ∙ sym s.stored

  simple : IsSimple (opened m scale)
  simple = record {
    plain = record {
      ascend = lawful.ids.ascend;
      sessions = subst (λ (ss : List Record). (r : Record) → In r ss → IsPlainSession r) (sym same_sessions)
          s.simple.plain.sessions;
      contents = ap opened_contents s.stored ∙ contents_again w s.lawful ∙ s.simple.plain.contents;
      watches = ap opened_watches s.stored ∙ watches_again w s.lawful ∙ s.simple.plain.watches;
      observers = refl;
    };
    childless = subst (λ (ss : List Record). (r : Record) → In r ss → r.children ≡ []) (sym same_sessions)
        s.simple.childless;
  }

  module _ (left : HasBootsLeft w) where
    still_left : HasBootsLeft (opened m scale)
    still_left = subst (λ (n : ℕ). n < 4000000000) (sym same_boots) left

    pub stored_bootable : AreBootable m scale
    stored_bootable = record { stored = record { lawful = lawful; simple = simple; stored = sym right }; left = still_left }

    -- and no fault is found in them
    pub not_refused : (why : Why BadRows) → AreRefused m scale why → why ≡ NoMemory
    not_refused (Fault bad) (inl d) =
        let (rest, differ) = d.here in absurd (differ (ap (λ (rs : RowMap). fin.get rs (bad.tag ∷ rest)) (sym right)))
    not_refused (Fault bad) (inr (inl u)) = absurd (u.1.unlawful (lawful, still_left))
    not_refused (Fault bad) (inr (inr u)) =
        let none = no_tag (opened m scale) simple in absurd (cc (none, u.unbuilt))
    not_refused NoMemory r = refl

-- An order is one of the world that such rows open to
pub order_of : (m : RowMap) (order : BootOrder) → IsAnOrder order → AreBootable m order.scale
    → IsOrderOf (opened m order.scale) order
order_of m order o b =
    let left = b.left in
    record { scale = refl; is_order = o.is_order; print = o.print; time = o.time; number = omega (arith, left) }

-- what holds of the error of a `?`
pub if_error : {T E : Type 0} (r : Result T E) (e : E) (P : E → Type 0) → IsErrAnd r (λ f. f ≡ e) → P e → IfErr r P
if_error (Ok x) e P is p = absurd is
if_error (Err f) e P is p = subst P (sym is) p
