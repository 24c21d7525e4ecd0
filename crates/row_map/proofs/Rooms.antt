-- Room for a batch, and a batch that changes what has room.
use Rattle.std.proofs.Common.{◌≡◌, ◌<◌, ◌+◌, ◌||◌, inl, inr, ⊎_elim, ℕ, suc, List, [], ◌∷◌, ◌++◌, Bool, true, false, cond, Option, Some, None, length, get_or, drop, sym, ap, ◌∙◌, refl, subst, add-one}
use Rattle.std.specs.Prelude.{IsTrue, IsOk, OnOk, Result, Ok, Err}
use Rattle.std.specs.Option.{is_some}
use Rattle.std.specs.List.{AllByRecursion}
use Rattle.std.specs.List.Sorted.{IsStrictlySortedBy}
use Rattle.std.specs.Cmp.Lexicographic.{slice_cmp}
use Rattle.std.specs.Ordering.{nat_cmp}
use Rattle.std.specs.declared.cmp.Ordering.TheVariants.{Less}
use Rattle.std.proofs.Math.Seq.{drop-cons}
use Rattle.std.proofs.lemmas.Bool.{true≢false}
use Rattle.std.specs.FinMap as fin
use Rattle.row_codec.specs.declared.batch.Row.{Row}
use Rattle.row_codec.specs.Batch.{keys_of}
use Rattle.row_map.specs.Rows.{RowMap, changed, changed_at}
use Rattle.row_map.specs.Room.{same_key, among, in_batch, Back, Agrees, Covers, HasRoom, Grows, Adds}
use Rattle.row_map.proofs.Maps.{same_rows, at_insert, at_remove, key_is, itself, above, changed_other}

pub drop_here : {X : Type 0} (xs : List X) (i : ℕ) (x : X) → i < length xs → get_or xs i x ≡ x
    → drop i xs ≡ x ∷ drop (i + 1) xs
drop_here xs i x lt at_i = drop-cons xs i x lt ∙ ap (λ y. y ∷ drop (suc i) xs) at_i ∙ rw add-one refl

-- a row that is covered stays so where its key's value does
covers_if : (r : Row) (m n : RowMap) → (IsTrue (is_some (fin.get m r.key)) → IsTrue (is_some (fin.get n r.key)))
    → Covers r m → Covers r n
covers_if r m n f = ⊎_elim (λ e. inl e) (λ h. inr (f h))

-- a change leaves room for rows with greater keys
still_room : (key : List ℕ) (value : Option (List ℕ)) (rs : List Row) (m : RowMap)
    → AllByRecursion (λ q. slice_cmp nat_cmp key q ≡ Less) (keys_of rs) → HasRoom rs m
    → HasRoom rs (changed_at m key value)
still_room key value [] m up room = tt
still_room key value (r ∷ rs) m up room = (
  covers_if r m (changed_at m key value) (λ h. rw (changed_other m key value r.key (above key r.key up.0)) h) room.0,
  still_room key value rs m up.1 room.1,
)

-- what a loop over a batch keeps: the rows that are left ascend, and have room
pub record IsReady (rows : List Row) (m : RowMap) : Type 0 where
  pub ascend : IsStrictlySortedBy (slice_cmp nat_cmp) (keys_of rows)
  pub room : HasRoom rows m

pub ready_for_rest : (r : Row) (rs : List Row) (m : RowMap) → IsReady (r ∷ rs) m
    → IsReady rs (changed_at m r.key r.value)
unfolding IsStrictlySortedBy
ready_for_rest r rs m ready =
    record { ascend = ready.ascend.1; room = still_room r.key r.value rs m ready.ascend.0 ready.room.1 }

-- maps that agree but at a batch's keys are the same after the batch
by_test : (b : Bool) (x y z : Option (List ℕ)) → (b ≡ false → y ≡ z) → cond b x y ≡ cond b x z
by_test true x y z h = refl
by_test false x y z h = h refl

same_at : (key : List ℕ) (value : Option (List ℕ)) (m n : RowMap) (q : List ℕ)
    → (same_key q key ≡ false → fin.get m q ≡ fin.get n q) → fin.get (changed_at m key value) q
    ≡ fin.get (changed_at n key value) q
same_at key None m n q h = at_remove m key q ∙ by_test (same_key q key) None (fin.get m q) (fin.get n q) h
    ∙ sym (at_remove n key q)
same_at key (Some value) m n q h = at_insert m key value q
    ∙ by_test (same_key q key) (Some value) (fin.get m q) (fin.get n q) h ∙ sym (at_insert n key value q)

pub changed_agrees : (batch : List Row) (m n : RowMap) → Agrees batch m n → changed m batch ≡ changed n batch
changed_agrees [] m n h = same_rows m n (λ q. h q refl)
changed_agrees (r ∷ rs) m n h = changed_agrees rs (changed_at m r.key r.value) (changed_at n r.key r.value)
    (λ q out. same_at r.key r.value m n q (λ ne. h q (rw (ne, out) refl)))

-- taking back
cond_or : (a b : Bool) (x : Option (List ℕ)) → cond b None (cond a None x) ≡ cond (a || b) None x
cond_or true true x = refl
cond_or true false x = refl
cond_or false true x = refl
cond_or false false x = refl

pub removed_one : (keys rest : List (List ℕ)) (key : List ℕ) (table start : RowMap)
    → ((q : List ℕ) → cond (among q (key ∷ rest)) None (fin.get table q) ≡ cond (among q keys) None (fin.get start q))
    → (q : List ℕ) → cond (among q rest) None (fin.get (fin.remove table key) q)
    ≡ cond (among q keys) None (fin.get start q)
removed_one keys rest key table start h q =
    ap (λ (x : Option (List ℕ)). cond (among q rest) None x) (at_remove table key q)
    ∙ cond_or (same_key q key) (among q rest) (fin.get table q) ∙ h q

or_false : (b : Bool) → (b || false) ≡ b
or_false true = refl
or_false false = refl

or_assoc : (a b c : Bool) → (a || (b || c)) ≡ ((a || b) || c)
or_assoc true b c = refl
or_assoc false b c = refl

among_push : (q : List ℕ) (keys : List (List ℕ)) (key : List ℕ)
    → among q (keys ++ key ∷ []) ≡ (among q keys || same_key q key)
among_push q [] key = or_false (same_key q key)
among_push q (k ∷ keys) key = ap (λ (b : Bool). same_key q k || b) (among_push q keys key)
    ∙ or_assoc (same_key q k) (among q keys) (same_key q key)

noted_at : (a b : Bool) (x y : Option (List ℕ)) → (b ≡ true → x ≡ None) → (b ≡ false → y ≡ x)
    → cond a None x ≡ cond (a || b) None y
noted_at true b x y h f = refl
noted_at false true x y h f = h refl
noted_at false false x y h f = sym (f refl)

-- a key that wasn't there is noted, whatever has become of it
back_push : (old new : RowMap) (key : List ℕ) (added : List (List ℕ)) → fin.get old key ≡ None
    → ((q : List ℕ) → same_key q key ≡ false → fin.get new q ≡ fin.get old q) → (start : RowMap)
    → Back added start old → Back (added ++ key ∷ []) start new
back_push old new key added none others start back q =
    back q ∙ noted_at (among q added) (same_key q key) (fin.get old q) (fin.get new q)
    (λ e. ap (fin.get old) (key_is q key e) ∙ none) (others q)
    ∙ ap (λ (b : Bool). cond b None (fin.get new q)) (sym (among_push q added key))

some_at : (b : Bool) (value : List ℕ) (x : Option (List ℕ)) → IsTrue (is_some x)
    → IsTrue (is_some (cond b (Some value) x))
some_at true value x h = refl
some_at false value x h = h

pub adds_new : (r : Row) (value : List ℕ) (old : RowMap) (added : List (List ℕ)) (new : RowMap)
    (added' : List (List ℕ)) → fin.get old r.key ≡ None
    → new ≡ fin.insert old r.key value → added' ≡ added ++ r.key ∷ [] → Adds r old added new added'
adds_new r value old added new added' none is noted =
    let others : (q : List ℕ) → same_key q r.key ≡ false → fin.get new q ≡ fin.get old q =
    λ q ne. ap (λ (m : RowMap). fin.get m q) is ∙ at_insert old r.key value q ∙ rw ne refl in
    record {
      noted = λ start back. subst (λ (ks : List (List ℕ)). Back ks start new) (sym noted)
          (back_push old new r.key added none others start back);
      others = others;
      grows = λ q h. subst (λ (x : Option (List ℕ)). IsTrue (is_some x)) (sym (at_insert old r.key value q)
          ∙ ap (λ (m : RowMap). fin.get m q) (sym is)) (some_at (same_key q r.key) value (fin.get old q) h);
    }

-- the key was noted, and then there was no memory for the row
pub adds_none : (r : Row) (old : RowMap) (added : List (List ℕ)) (new : RowMap) (added' : List (List ℕ))
    → fin.get old r.key ≡ None → new ≡ old
    → added' ≡ added ++ r.key ∷ [] → Adds r old added new added'
adds_none r old added new added' none is noted = record {
  noted = λ start back. subst (λ (ks : List (List ℕ)). Back ks start new) (sym noted)
      (back_push old new r.key added none (λ q ne. ap (λ (m : RowMap). fin.get m q) is) start back);
  others = λ q ne. ap (λ (m : RowMap). fin.get m q) is;
  grows = λ q h. rw is h;
}

pub covers_new : (r : Row) (value : List ℕ) (old new : RowMap) → new ≡ fin.insert old r.key value → Covers r new
covers_new r value old new is =
    inr (ap (λ (m : RowMap). is_some (fin.get m r.key)) is ∙ ap is_some (at_insert old r.key value r.key)
    ∙ rw (itself r.key) refl)

-- one row of a batch is done
out_of : (a b : Bool) → (a || b) ≡ false → (a ≡ false) × (b ≡ false)
out_of true b e = absurd (true≢false e)
out_of false b e = (refl, e)

pub agrees_more : (batch rest : List Row) (r : Row) (start old new : RowMap) (added added' : List (List ℕ))
    → Adds r old added new added'
    → ((q : List ℕ) → in_batch q batch ≡ false → in_batch q (r ∷ rest) ≡ false) → Agrees batch start old
    → Agrees batch start new
agrees_more batch rest r start old new added added' a inside agrees q out =
    agrees q out ∙ sym (a.others q (out_of (same_key q r.key) (in_batch q rest) (inside q out)).0)

pub inside_more : (batch rest : List Row) (r : Row)
    → ((q : List ℕ) → in_batch q batch ≡ false → in_batch q (r ∷ rest) ≡ false)
    → (q : List ℕ) → in_batch q batch ≡ false → in_batch q rest ≡ false
inside_more batch rest r inside q out = (out_of (same_key q r.key) (in_batch q rest) (inside q out)).1

pub room_more : (batch rest : List Row) (r : Row) (old new : RowMap) (added added' : List (List ℕ))
    → Adds r old added new added' → Covers r new
    → ((m : RowMap) → Grows old m → HasRoom (r ∷ rest) m → HasRoom batch m) → (m : RowMap) → Grows new m
    → HasRoom rest m → HasRoom batch m
room_more batch rest r old new added added' a covers room m grows behind =
    room m (λ q h. grows q (a.grows q h)) (covers_if r new m (grows r.key) covers, behind)

-- what is taken back is as it was
pub back_is : (keys : List (List ℕ)) (start now back : RowMap) → Back keys start now → Back keys back now → back ≡ start
back_is keys start now back s b = same_rows back start (λ q. b q ∙ sym (s q))

given : {X Y P : Type 0} (r : Result X Y) → IsOk r → OnOk r P → P
given (Ok x) ok p = p
given (Err e) ok p = absurd (cc)

-- a batch that had room has changed the rows as it would have changed those without room
pub table_after : {X Y : Type 0} (rows seen : List Row) (start room new : RowMap) (r : Result X Y) → seen ≡ rows
    → Agrees seen start room → HasRoom seen room
    → (HasRoom rows room → IsOk r) → OnOk r (new ≡ changed room rows) → new ≡ changed start rows
table_after rows seen start room new r is agrees has ok changes =
    given r (ok (subst (λ (rs : List Row). HasRoom rs room) is has)) changes
    ∙ sym (changed_agrees rows start room (subst (λ (rs : List Row). Agrees rs start room) is agrees))
