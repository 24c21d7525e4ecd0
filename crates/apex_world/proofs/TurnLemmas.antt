-- Turns in the order of a script. Callers want `in_order` and `fits`.
use Rattle.std.proofs.Common.{◌≡◌, ℕ, Bool, true, false, ◌&&◌, eqb, List, [], ◌∷◌, ◌++◌, length, map, flat_map, sym, ap}
use Rattle.std.proofs.Common.{◌∙◌, subst, refl, inl, inr, ◌⊎◌}
use Rattle.std.specs.Prelude.{IsTrue}
use Rattle.std.specs.List.{AllByRecursion, list_any}
use Rattle.std.proofs.lemmas.Bool.{false≢true}
use Rattle.std.proofs.lemmas.List.{append-nil, length-map}
use Rattle.std.proofs.lemmas.List.Elements.{filter-append}
use Rattle.apex_base.specs.Outside.{IsFront}
use Rattle.apex_world.specs.declared.script.Script.{Script}
use Rattle.apex_world.specs.declared.turns.Fate.TheVariants.{Answered}
use Rattle.apex_world.specs.declared.turns.TurnRow.{TurnRow}
use Rattle.apex_world.specs.Turns.{Position, position_of, positions, rounds, of_lane, IsWithinRound, AreInRounds}
use Rattle.apex_world.specs.Turns.{is_faulted, is_open, FateFits, FatesFit, Fits, IsInOrder}

-- Fronts

pub IsFront-none : {X : Type 0} (ys : List X) → IsFront [] ys
IsFront-none ys = (ys, refl)

pub IsFront-all : {X : Type 0} (xs : List X) → IsFront xs xs
IsFront-all xs = ([], sym (append-nil xs))

nil_front : {X : Type 0} (ts rest : List X) → [] ≡ ts ++ rest → ts ≡ []
nil_front [] rest e = refl
nil_front (t ∷ ts) rest e = absurd (cc)

-- a front of two lists ends in the first of them, or goes on into the second
abbrev Ends : {X : Type 0} → List X → List X → List X → Type 0
Ends {X} xs ys ts = IsFront ts xs ⊎ ((behind : List X) × (ts ≡ xs ++ behind) × IsFront behind ys)

ends_cons : {X : Type 0} (x t : X) (xs ys ts : List X) → x ≡ t → Ends xs ys ts → Ends (x ∷ xs) ys (t ∷ ts)
ends_cons x t xs ys ts e (inl f) = inl (f.0, ap (λ zs. x ∷ zs) f.1 ∙ ap (λ z. z ∷ (ts ++ f.0)) e)
ends_cons x t xs ys ts e (inr b) = inr (b.0, ap (λ z. z ∷ ts) (sym e) ∙ ap (λ zs. x ∷ zs) b.1, b.2)

front_ends : {X : Type 0} (xs ys ts rest : List X) → xs ++ ys ≡ ts ++ rest → Ends xs ys ts
front_ends [] ys ts rest e = inr (ts, refl, (rest, e))
front_ends (x ∷ xs) ys [] rest e = inl (x ∷ xs, refl)
front_ends (x ∷ xs) ys (t ∷ ts) rest e = ends_cons x t xs ys ts (cc) (front_ends xs ys ts rest (cc))

-- The order of turns

abbrev flat : List (List Position) → List Position
flat rs = flat_map (λ (r : List Position). r) rs

AreInRounds-none : (rs : List (List Position)) → AreInRounds rs []
AreInRounds-none [] = refl
AreInRounds-none (r ∷ rs) = ([], [], refl, (λ n. IsFront-none (of_lane n r)), inl refl, AreInRounds-none rs)

-- a front of a round's steps has a front of each lane's
within_front : (here round : List Position) → IsFront here round → IsWithinRound round here
within_front here round f =
    λ n. (of_lane n f.0, ap (of_lane n) f.1 ∙ filter-append (λ (p : Position). eqb p.lane n) here f.0)

rounds_step : (r : List Position) (rs : List (List Position)) (ts : List Position)
    → ((behind : List Position) → IsFront behind (flat rs) → AreInRounds rs behind) → Ends r (flat rs) ts
    → AreInRounds (r ∷ rs) ts
rounds_step r rs ts more (inl f) = (ts, [], sym (append-nil ts), within_front ts r f, inl refl, AreInRounds-none rs)
rounds_step r rs ts more (inr b) = (r, b.0, b.1, within_front r r (IsFront-all r), inr refl, more b.0 b.2)

-- a front of all steps is in the order of the rounds
in_rounds : (rs : List (List Position)) (ts : List Position) → IsFront ts (flat rs) → AreInRounds rs ts
in_rounds [] ts f = nil_front ts f.0 f.1
in_rounds (r ∷ rs) ts f = rounds_step r rs ts (in_rounds rs) (front_ends r (flat rs) ts f.0 f.1)

-- Fates

abbrev IsAnswered : TurnRow → Type 0
IsAnswered row = row.fate ≡ Answered

all_parts : (before : List TurnRow) (row : TurnRow) (behind : List TurnRow)
    → AllByRecursion IsAnswered (before ++ row ∷ behind) → AllByRecursion IsAnswered before × IsAnswered row
all_parts [] row behind a = (tt, a.0)
all_parts (r ∷ before) row behind a = let more = all_parts before row behind a.1 in ((a.0, more.0), more.1)

and_false : (b : Bool) → (b && false) ≡ false
and_false true = refl
and_false false = refl

none_faulted : (n : ℕ) (rows : List TurnRow) → AllByRecursion IsAnswered rows
    → list_any (λ (r : TurnRow). eqb r.boot n && is_faulted r.fate) rows ≡ false
none_faulted n [] a = refl
none_faulted n (r ∷ rows) a = rw (a.0, and_false (eqb r.boot n)) (none_faulted n rows a.1)

none_open : (rows : List TurnRow) → AllByRecursion IsAnswered rows
    → list_any (λ (r : TurnRow). is_open r.fate) rows ≡ false
none_open [] a = refl
none_open (r ∷ rows) a = rw a.0 (none_open rows a.1)

not_true : {P : Type 0} (b : Bool) → b ≡ false → IsTrue b → P
not_true true e t = absurd (false≢true (sym e))
not_true false e t = absurd (false≢true t)

answered_fits : (before : List TurnRow) (row : TurnRow) → AllByRecursion IsAnswered before → IsAnswered row
    → FateFits before row
answered_fits before row a is = record {
  closed = (λ e. absurd (cc (is, e)), λ t. not_true _ (none_faulted row.boot before a) t);
  open_boot = λ t _. not_true _ (none_open before a) t;
  open_call = λ t _. not_true _ (none_open before a) t;
  entered = λ _ e. absurd (cc (is, e));
}

fates_fit : (rows : List TurnRow) → AllByRecursion IsAnswered rows → FatesFit rows
fates_fit rows a before row behind e =
    let parts = all_parts before row behind (subst (AllByRecursion IsAnswered) e a) in
    answered_fits before row parts.0 parts.1

-- Turns of a script

-- turns that are all answered, and the first of the script's steps, are in its order
pub in_order : (script : Script) (rows : List TurnRow) → AllByRecursion IsAnswered rows
    → IsFront (map position_of rows) (positions script) → IsInOrder script rows
in_order script rows a f =
    record {
      begins = record { order = in_rounds (rounds script) (map position_of rows) f; fates = fates_fit rows a };
      in_blocks = f;
    }

-- and fit it where they are all of them
pub fits : (script : Script) (rows : List TurnRow) → AllByRecursion IsAnswered rows
    → map position_of rows ≡ positions script → Fits script rows
fits script rows a e = record {
  begins =
      (in_order script rows a
      (subst (λ ps. IsFront ps (positions script)) (sym e) (IsFront-all (positions script)))).begins;
  whole = sym (length-map rows position_of) ∙ ap length e;
}
