-- Commits, one after another, leave the other sessions and add new ones. Callers want `commit_follows` and
-- `all_follow`.
use Rattle.std.proofs.Common.{◌≢◌, ℕ, ◌<◌, Bool, true, false, cond, List, [], ◌∷◌, map, filter, sym, ap, ◌∙◌, refl, inl, inr, arith}
use Rattle.std.specs.List.{AllByRecursion}
use Rattle.std.proofs.lemmas.Bool.{false_from_ne_true}
use Rattle.apex_base.specs.declared.records.Record.{Record}
use Rattle.apex_base.specs.Commit.{rollback_session, after_commit, committed}
use Rattle.apex_base.specs.Members.{In}
use Rattle.apex_base.specs.Sessions.{has_id, Ascend}
use Rattle.apex_base.proofs.MemberLemmas.{in_map_back, each_in}
use Rattle.apex_base.proofs.SessionLemmas.{with_any}
use Rattle.world_facts.specs.Follows.{IsKeptAs, IsNew, Leads}
use Rattle.apex_world.specs.Lawful.{HaveIds}
use Rattle.apex_world.specs.Trigger.{commit_all}
use Rattle.world_laws.proofs.meaning.BootStays.{Waits, waits_same, waits_then, after_waits}
use Rattle.world_facts.proofs.facts.LeadsLemmas.{same_ids, leads_same, leads_new, leads_map, leads_then}
use Rattle.world_facts.proofs.facts.NewIds.{has_in, AreNew, apart_new}

kept : (r s : Record) → Waits r s → IsKeptAs r s
kept r s w = w.kept

-- one commit
pub commit_follows : (ss : List Record) (x : Record) (print : List ℕ) → Ascend ss → AreNew ss x
    → Leads Waits ss (committed ss x print)
commit_follows ss x print a fresh =
    let mid = map (after_commit x) ss in
    let others : Leads Waits ss mid = leads_map Waits (after_commit x) ss a (λ r. (after_waits x r).kept.id)
    (λ r h. after_waits x r) in
    let new : IsNew mid (rollback_session ss x print) = λ r id h i. let (s, j, e) =
    in_map_back (after_commit x) r ss h in
    ap (has_id id) (sym e) ∙ same_ids id s (after_commit x s) (after_waits x s).kept ∙ fresh s id j i in
    leads_then Waits Waits Waits kept kept waits_then ss mid (committed ss x print) others
    (leads_new Waits waits_same mid (rollback_session ss x print) others.ascend new)

-- what one commit leaves new
module _ (ids : List Record) (law : HaveIds ids) (ss : List Record) (x y : Record) (print : List ℕ) (h : In x ids)
    (i : In y ids) (d : x.id.0 ≢ y.id.0) (fresh : AreNew ss y) where
  still_new : AreNew (committed ss x print) y
  still_new r id at u =
      elim (with_any (rollback_session ss x print) (map (after_commit x) ss) r at) [
        | inl e ↦ false_from_ne_true (has_id id r) (λ f. let (j, v, g) =
            has_in id (rollback_session ss x print) (ap (has_id id) (sym e)
            ∙ f) in apart_new ids law x y h i d j id v u g)
        | inr j ↦ let (s, k, e) = in_map_back (after_commit x) r ss j in ap (has_id id) (sym e)
            ∙ same_ids id s (after_commit x s) (after_waits x s).kept ∙ fresh s id k u
      ]

-- any number of commits, each of another session
pub all_follow : (all : List Record) → HaveIds all → (xs ss : List Record) (print : List ℕ) → Ascend xs → ((x : Record)
    → In x xs → In x all) → Ascend ss → ((x : Record) → In x xs → AreNew ss x) → Leads Waits ss (commit_all print ss xs)
all_follow all law [] ss print b among a fresh = leads_same Waits waits_same ss a
all_follow all law (x ∷ xs) ss print b among a fresh =
    let first = commit_follows ss x print a (fresh x (inl refl)) in
    let differs : (y : Record) → In y xs → x.id.0 ≢ y.id.0 = λ y h e. let l = each_in
    (λ (s : Record). x.id.0 < s.id.0) xs b.0 y h in absurd (omega (arith, l, e)) in
    let rest = all_follow all law xs (committed ss x print) print b.1 (λ y h. among y (inr h)) first.ascend
    (λ y h. still_new all law ss x y print (among x (inl refl)) (among y (inr h)) (differs y h) (fresh y (inr h))) in
    leads_then Waits Waits Waits kept kept waits_then ss (committed ss x print) (commit_all print
    (committed ss x print) xs) first rest

-- what is filtered ascends

below_if : (p : Record → Bool) (b : Bool) (n : ℕ) (r : Record) (rs : List Record) → n < r.id.0
    → AllByRecursion (λ (s : Record). n < s.id.0) rs → AllByRecursion (λ (s : Record). n < s.id.0) (cond b (r ∷ rs) rs)
below_if p true n r rs l a = (l, a)
below_if p false n r rs l a = a

below_filter : (p : Record → Bool) (n : ℕ) (rs : List Record) → AllByRecursion (λ (s : Record). n < s.id.0) rs
    → AllByRecursion (λ (s : Record). n < s.id.0) (filter p rs)
below_filter p n [] a = tt
below_filter p n (r ∷ rs) a = below_if p (p r) n r (filter p rs) a.0 (below_filter p n rs a.1)

ascend_if : (b : Bool) (r : Record) (rs : List Record) → AllByRecursion (λ (s : Record). r.id.0 < s.id.0) rs → Ascend rs
    → Ascend (cond b (r ∷ rs) rs)
ascend_if true r rs l a = (l, a)
ascend_if false r rs l a = a

pub ascend_filter : (p : Record → Bool) (rs : List Record) → Ascend rs → Ascend (filter p rs)
ascend_filter p [] a = tt
ascend_filter p (r ∷ rs) a = ascend_if (p r) r (filter p rs) (below_filter p r.id.0 rs a.0) (ascend_filter p rs a.1)
