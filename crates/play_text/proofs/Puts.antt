-- What a sink has gained by several puts. Callers want `put_none`, `put_more`, `put_front` and `put_exit`.
use Rattle.std.proofs.Common.{◌≡◌, ℕ, ◌+◌, ◌<◌, ◌≤◌, suc, List, [], ◌∷◌, ◌++◌, length, take, drop, get_or, flat_map}
use Rattle.std.proofs.Common.{Option, Some, None, sym, ap, subst, ◌∙◌, refl, append_assoc, add-one, arith}
use Rattle.std.specs.Prelude.{Result, Ok, Err}
use Rattle.std.specs.Result.{IsErrAnd}
use Rattle.std.proofs.Math.Seq.{drop-cons}
use Rattle.std.proofs.lemmas.List.{append-nil, take_more, take-append-drop, flat_map_more}
use Rattle.std.proofs.lemmas.Grind.{flat_map-append}
use Rattle.apex_base.specs.Causes.{Rose}
use Rattle.apex_base.specs.Outside.{PutFront, PutAll}
use Rattle.play_text.specs.declared.put.PutFailed.{PutFailed}
use Rattle.play_text.specs.declared.put.PutFailed.TheVariants.{NoMemory}
use Rattle.play_text.specs.Put.{HasSinkCause, HasPut}

-- nothing was put
pub PutAll-none : (old : Option (List ℕ)) → PutAll old old []
PutAll-none None = tt
PutAll-none (Some xs) = sym (append-nil xs)

pub PutFront-none : (old : Option (List ℕ)) (text : List ℕ) → PutFront old old text
PutFront-none None text = tt
PutFront-none (Some xs) text = ([], sym (append-nil xs), (text, refl))

-- one text after another
pub PutAll-more : (old mid new : Option (List ℕ)) (a b : List ℕ) → PutAll old mid a → PutAll mid new b
    → PutAll old new (a ++ b)
PutAll-more None mid new a b p q = tt
PutAll-more (Some xs) None new a b p q = absurd p
PutAll-more (Some xs) (Some ys) None a b p q = absurd q
PutAll-more (Some xs) (Some ys) (Some zs) a b p q = q ∙ ap (λ v. v ++ b) p ∙ append_assoc xs a b

-- a front after a text
pub PutFront-more : (old mid new : Option (List ℕ)) (a b : List ℕ) → PutAll old mid a → PutFront mid new b
    → PutFront old new (a ++ b)
PutFront-more None mid new a b p q = tt
PutFront-more (Some xs) None new a b p q = absurd p
PutFront-more (Some xs) (Some ys) None a b p q = absurd q
PutFront-more (Some xs) (Some ys) (Some zs) a b p q = (
  a ++ q.0,
  q.1 ∙ ap (λ v. v ++ q.0) p ∙ append_assoc xs a q.0,
  (q.2.0, ap (λ v. a ++ v) q.2.1 ∙ sym (append_assoc a q.0 q.2.0)),
)

-- a front of a text is one of the text with more after it
pub PutFront-front : (old new : Option (List ℕ)) (a b : List ℕ) → PutFront old new a → PutFront old new (a ++ b)
PutFront-front None new a b p = tt
PutFront-front (Some xs) None a b p = absurd p
PutFront-front (Some xs) (Some ys) a b p = (p.0, p.1, (p.2.0 ++ b, ap (λ v. v ++ b) p.2.1 ∙ append_assoc p.0 p.2.0 b))

-- the whole text is a front of the text with more after it
pub PutFront-all : (old new : Option (List ℕ)) (a b : List ℕ) → PutAll old new a → PutFront old new (a ++ b)
PutFront-all None new a b p = tt
PutFront-all (Some xs) None a b p = absurd p
PutFront-all (Some xs) (Some ys) a b p = (a, p, (b, refl))

pub PutAll-of : (old new : Option (List ℕ)) (a b : List ℕ) → b ≡ a → PutAll old new a → PutAll old new b
PutAll-of old new a b same p = subst (PutAll old new) (sym same) p

pub PutFront-of : (old new : Option (List ℕ)) (a b : List ℕ) → b ≡ a → PutFront old new a → PutFront old new b
PutFront-of old new a b same p = subst (PutFront old new) (sym same) p

-- a call that ran out of memory before it put anything
pub put_none : {T : Type 0} (held : Option (List ℕ)) (count : ℕ) (text : List ℕ)
    → HasPut {T = T} (Err NoMemory) held held count count text
put_none held count text =
    record { put = PutFront-none held text; faults = record { later = omega arith; cause = λ e. absurd (cc) } }

rose_later : (a b c : ℕ) → a ≤ b → Rose b c → Rose a c
rose_later a b c p q = omega (arith, p, q)

-- a call after one that went on
pub faults_more : {T U : Type 0} (r : Result T PutFailed) (s : Result U PutFailed) (a b c : ℕ) → HasSinkCause r a b
    → HasSinkCause s b c → HasSinkCause s a c
faults_more r s a b c p q =
    record { later = omega (arith, p.later, q.later); cause = λ e. rose_later a b c p.later (q.cause e) }

pub put_more : {T U : Type 0} (x : T) (s : Result U PutFailed) (h i j : Option (List ℕ)) (a b c : ℕ) (t u : List ℕ)
    → HasPut (Ok x) h i a b t → HasPut s i j b c u → HasPut s h j a c (t ++ u)
put_more x (Ok y) h i j a b c t u p q =
    record { put = PutAll-more h i j t u p.put q.put; faults = faults_more (Ok x) (Ok y) a b c p.faults q.faults }
put_more x (Err e) h i j a b c t u p q =
    record { put = PutFront-more h i j t u p.put q.put; faults = faults_more (Ok x) (Err e) a b c p.faults q.faults }

-- a call that failed, with more to come
pub put_front : {T : Type 0} (e : PutFailed) (h i : Option (List ℕ)) (a b : ℕ) (t u : List ℕ)
    → HasPut {T = T} (Err e) h i a b t → HasPut {T = T} (Err e) h i a b (t ++ u)
put_front e h i a b t u p = record { put = PutFront-front h i t u p.put; faults = p.faults }

-- the exit of a `?` answers the callee's error
pub put_exit : {T : Type 0} (r : Result T PutFailed) (e : PutFailed) (h i : Option (List ℕ)) (a b : ℕ) (t : List ℕ)
    → IsErrAnd r (λ y. y ≡ e) → HasPut {T = T} (Err e) h i a b t → HasPut r h i a b t
put_exit (Ok x) e h i a b t is p = absurd is
put_exit {T} (Err y) e h i a b t is p = subst (λ z. HasPut {T = T} (Err z) h i a b t) (sym is) p

pub faults_exit : {T : Type 0} (r : Result T PutFailed) (e : PutFailed) (a b : ℕ) → IsErrAnd r (λ y. y ≡ e)
    → HasSinkCause {T = T} (Err e) a b → HasSinkCause r a b
faults_exit (Ok x) e a b is p = absurd is
faults_exit {T} (Err y) e a b is p = subst (λ z. HasSinkCause {T = T} (Err z) a b) (sym is) p

-- an error is the same whatever value the call would have had
pub put_as : {T U : Type 0} (e : PutFailed) (h i : Option (List ℕ)) (a b : ℕ) (t : List ℕ)
    → HasPut {T = T} (Err e) h i a b t → HasPut {T = U} (Err e) h i a b t
put_as e h i a b t p =
    record { put = p.put; faults = record { later = p.faults.later; cause = λ is. p.faults.cause (cc) } }

pub put_of : {T : Type 0} (r : Result T PutFailed) (h i : Option (List ℕ)) (a b : ℕ) (t u : List ℕ) → u ≡ t
    → HasPut r h i a b t → HasPut r h i a b u
put_of r h i a b t u same p = subst (HasPut r h i a b) (sym same) p

-- the lines of one element more
pub flat_map_next : {X : Type 0} (f : X → List ℕ) (xs : List X) (i : ℕ) (x : X) → i < length xs → x ≡ get_or xs i x
    → flat_map f (take (i + 1) xs) ≡ flat_map f (take i xs) ++ f x
flat_map_next f xs i x lt at = ap (flat_map f) (take_more xs i x lt)
    ∙ sym (flat_map_more f [] (take i xs) (get_or xs i x)) ∙ ap (λ y. flat_map f (take i xs) ++ f y) (sym at)

-- the lines before an element, its own and those after it
pub flat_map_at : {X : Type 0} (f : X → List ℕ) (xs : List X) (i : ℕ) (x : X) → i < length xs → x ≡ get_or xs i x
    → flat_map f xs ≡ flat_map f (take i xs) ++ (f x ++ flat_map f (drop (i + 1) xs))
flat_map_at f xs i x lt at =
    let here : drop i xs ≡ x ∷ drop (i + 1) xs =
    drop-cons xs i x lt ∙ ap (λ y. y ∷ drop (suc i) xs) (sym at) ∙ rw add-one refl in
    ap (flat_map f) (sym (take-append-drop i xs)) ∙ flat_map-append f (take i xs) (drop i xs)
    ∙ ap (λ ys. flat_map f (take i xs) ++ flat_map f ys) here
