-- The plan of a script: its turns are the script's, in its order, and each step is what the script says there.
-- Callers want `plan_played` and `plan_stopped`.
use Rattle.std.proofs.Common.{◌≡◌, ℕ, ◌+◌, ◌-◌, Bool, true, false, ◌&&◌, cond, eqb, List, [], ◌∷◌, ◌++◌, length, map}
use Rattle.std.proofs.Common.{flat_map, Some, slice_get, sym, ap, ◌∙◌, subst, refl, arith, append_assoc}
use Rattle.std.specs.List.{All, AllByRecursion}
use Rattle.std.specs.Option.{option_and_then}
use Rattle.std.proofs.lemmas.Bool.Decides.{nat_tests}
use Rattle.std.proofs.lemmas.List.{map-append, length-append}
use Rattle.std.proofs.lemmas.List.Elements.{All-from_recursion}
use Rattle.std.proofs.lemmas.Grind.{flat_map-append}
use Rattle.apex_world.specs.declared.calls.Call.{Call}
use Rattle.apex_world.specs.declared.script.Lane.{Lane}
use Rattle.apex_world.specs.declared.script.Segment.{Segment}
use Rattle.apex_world.specs.declared.script.ScriptBoot.{ScriptBoot}
use Rattle.apex_world.specs.declared.script.Script.{Script}
use Rattle.apex_world.specs.declared.turns.Fate.TheVariants.{Answered}
use Rattle.apex_world.specs.declared.turns.TurnRow.{TurnRow}
use Rattle.apex_world.specs.World.{World, empty_world}
use Rattle.apex_world.specs.Fold.{nth, call_in, event_in, event_at, turn, turned_by, turned_at, Turned}
use Rattle.apex_world.specs.Text.{turn_lines, lines_from}
use Rattle.apex_world.specs.Turns.{Position, position_of, lane_calls, call_positions, block_positions, segment_rounds}
use Rattle.apex_world.specs.Turns.{boot_rounds, rounds_from, positions, IsInOrder, Fits}
use Rattle.apex_world.proofs.TurnLemmas.{in_order, fits}
use Rattle.device_play.specs.Run.{Planned, rows_of, planned_call, call_plan, block_plan, segment_plan, boot_plan}
use Rattle.device_play.specs.Run.{boots_plan, plan_lines}
use Rattle.device_play.proofs.Places.{lanes_of}

-- Positions

abbrev places : List Planned → List Position
places plan = map (λ (p : Planned). position_of p.row) plan

places-append : (a b : List Planned) → places (a ++ b) ≡ places a ++ places b
places-append a b = map-append (λ (p : Planned). position_of p.row) a b

places-rows : (plan : List Planned) → map position_of (rows_of plan) ≡ places plan
places-rows [] = refl
places-rows (p ∷ ps) = ap (λ xs. position_of p.row ∷ xs) (places-rows ps)

places-calls : (b n k : ℕ) (cs : List Call) → places (call_plan b n k cs) ≡ call_positions b n k cs
places-calls b n k [] = refl
places-calls b n k (c ∷ cs) = ap (λ ps. record { boot = b; lane = n; step = k + 1 } ∷ ps) (places-calls b n (k + 1) cs)

places-blocks : (b : ℕ) (e ls : List Lane) → places (block_plan b e ls) ≡ block_positions b e ls
places-blocks b e [] = refl
places-blocks b e (l ∷ ls) =
    let k = length (lane_calls l.number e) in
    places-append (call_plan b l.number k l.calls) (block_plan b (e ++ l ∷ []) ls)
    ∙ ap (λ ps. ps ++ places (block_plan b (e ++ l ∷ []) ls)) (places-calls b l.number k l.calls)
    ∙ ap (λ ps. call_positions b l.number k l.calls ++ ps) (places-blocks b (e ++ l ∷ []) ls)

abbrev flat : List (List Position) → List Position
flat rs = flat_map (λ (r : List Position). r) rs

places-segments : (b : ℕ) (e : List Lane) (ss : List Segment)
    → places (segment_plan b e ss) ≡ flat (segment_rounds b e ss)
places-segments b e [] = refl
places-segments b e (s ∷ ss) =
    places-append (block_plan b e s.lanes) (segment_plan b (e ++ s.lanes) ss)
    ∙ ap (λ ps. ps ++ places (segment_plan b (e ++ s.lanes) ss)) (places-blocks b e s.lanes)
    ∙ ap (λ ps. block_positions b e s.lanes ++ ps) (places-segments b (e ++ s.lanes) ss)

places-boot : (b : ℕ) (boot : ScriptBoot) → places (boot_plan b boot) ≡ flat (boot_rounds b boot)
places-boot b boot = ap (λ ps. record { boot = b; lane = 0; step = 0 } ∷ ps) (places-segments b [] boot.segments)

places-boots : (k : ℕ) (bs : List ScriptBoot) → places (boots_plan k bs) ≡ flat (rounds_from k bs)
places-boots k [] = refl
places-boots k (b ∷ bs) =
    places-append (boot_plan (k + 1) b) (boots_plan (k + 1) bs)
    ∙ ap (λ ps. ps ++ places (boots_plan (k + 1) bs)) (places-boot (k + 1) b)
    ∙ ap (λ ps. flat (boot_rounds (k + 1) b) ++ ps) (places-boots (k + 1) bs)
    ∙ sym (flat_map-append (λ (r : List Position). r) (boot_rounds (k + 1) b) (rounds_from (k + 1) bs))

-- Events

AllByRecursion-append : {X : Type 0} (P : X → Type 0) (xs ys : List X) → AllByRecursion P xs → AllByRecursion P ys
    → AllByRecursion P (xs ++ ys)
AllByRecursion-append P [] ys a b = b
AllByRecursion-append P (x ∷ xs) ys a b = (a.0, AllByRecursion-append P xs ys a.1 b)

AllByRecursion-front : {X : Type 0} (P : X → Type 0) (xs ys : List X) → AllByRecursion P (xs ++ ys)
    → AllByRecursion P xs
AllByRecursion-front P [] ys a = tt
AllByRecursion-front P (x ∷ xs) ys a = (a.0, AllByRecursion-front P xs ys a.1)

AllByRecursion-weaker : {X : Type 0} (P Q : X → Type 0) → ((x : X) → P x → Q x) → (xs : List X) → AllByRecursion P xs
    → AllByRecursion Q xs
AllByRecursion-weaker P Q f [] a = tt
AllByRecursion-weaker P Q f (x ∷ xs) a = (f x a.0, AllByRecursion-weaker P Q f xs a.1)

seam : {X : Type 0} (xs ys : List X) (x : X) → slice_get (xs ++ x ∷ ys) (length xs) ≡ Some x
seam [] ys x = refl
seam (y ∷ xs) ys x = seam xs ys x

nth-seam : {X : Type 0} (xs ys : List X) (x : X) (k : ℕ) → k ≡ length xs + 1 → nth (xs ++ x ∷ ys) k ≡ Some x
nth-seam xs ys x k e =
    let no : eqb k 0 ≡ false = grind (arith, nat_tests) in
    let same : k - 1 ≡ length xs = omega arith in
    rw (no, same) (seam xs ys x)

-- a planned step of boot b is answered, and is what the boot says there
record IsStepOf (b : ℕ) (boot : ScriptBoot) (p : Planned) : Type 0 where
  number : p.row.boot ≡ b
  fate : p.row.fate ≡ Answered
  event : event_in boot p.row ≡ Some p.event

and_false : (b : Bool) → (b && false) ≡ false
and_false true = refl
and_false false = refl

call_step : (b n k : ℕ) (boot : ScriptBoot) (xs ys : List Call) (c : Call)
    → lane_calls n (lanes_of boot.segments) ≡ xs ++ c ∷ ys → k ≡ length xs
    → IsStepOf b boot (planned_call b n (k + 1) c)
call_step b n k boot xs ys c whole len =
    let no : eqb (k + 1) 0 ≡ false = grind (arith, nat_tests) in
    let is : (eqb n 0 && eqb (k + 1) 0) ≡ false = ap (λ t. eqb n 0 && t) no ∙ and_false (eqb n 0) in
    let found : call_in boot n (k + 1) ≡ Some c =
    ap (λ cs. nth cs (k + 1)) whole ∙ nth-seam xs ys c (k + 1) (omega (arith, len)) in
    record { number = refl; fate = refl; event = rw (is, found) refl }

call_steps : (b n k : ℕ) (boot : ScriptBoot) (xs cs ys : List Call)
    → lane_calls n (lanes_of boot.segments) ≡ xs ++ (cs ++ ys) → k ≡ length xs
    → AllByRecursion (IsStepOf b boot) (call_plan b n k cs)
call_steps b n k boot xs [] ys whole len = tt
call_steps b n k boot xs (c ∷ cs) ys whole len = (
  call_step b n k boot xs (cs ++ ys) c whole len,
  call_steps b n (k + 1) boot (xs ++ c ∷ []) cs ys (whole ∙ sym (append_assoc xs (c ∷ []) (cs ++ ys)))
      (omega (arith, len, length-append xs (c ∷ []))),
)

lane_calls-own : (l : Lane) (ls : List Lane) → lane_calls l.number (l ∷ ls) ≡ l.calls ++ lane_calls l.number ls
lane_calls-own l ls = let yes : eqb l.number l.number ≡ true = grind (arith, nat_tests) in rw yes refl

block_steps : (b : ℕ) (boot : ScriptBoot) (e ls later : List Lane) → lanes_of boot.segments ≡ e ++ (ls ++ later)
    → AllByRecursion (IsStepOf b boot) (block_plan b e ls)
block_steps b boot e [] later whole = tt
block_steps b boot e (l ∷ ls) later whole =
    let n = l.number in
    let calls : lane_calls n (lanes_of boot.segments) ≡ lane_calls n e ++ (l.calls ++ lane_calls n (ls ++ later)) =
    ap (lane_calls n) whole ∙ flat_map-append (λ (t : Lane). cond (eqb t.number n) t.calls []) e (l ∷ (ls ++ later))
    ∙ ap (λ cs. lane_calls n e ++ cs) (lane_calls-own l (ls ++ later)) in
    AllByRecursion-append (IsStepOf b boot) (call_plan b n (length (lane_calls n e)) l.calls)
    (block_plan b (e ++ l ∷ []) ls)
    (call_steps b n (length (lane_calls n e)) boot (lane_calls n e) l.calls (lane_calls n (ls ++ later)) calls refl)
    (block_steps b boot (e ++ l ∷ []) ls later (whole ∙ sym (append_assoc e (l ∷ []) (ls ++ later))))

segment_steps : (b : ℕ) (boot : ScriptBoot) (e : List Lane) (ss : List Segment)
    → lanes_of boot.segments ≡ e ++ lanes_of ss → AllByRecursion (IsStepOf b boot) (segment_plan b e ss)
segment_steps b boot e [] whole = tt
segment_steps b boot e (s ∷ ss) whole =
    AllByRecursion-append (IsStepOf b boot) (block_plan b e s.lanes) (segment_plan b (e ++ s.lanes) ss)
    (block_steps b boot e s.lanes (lanes_of ss) whole)
    (segment_steps b boot (e ++ s.lanes) ss (whole ∙ sym (append_assoc e s.lanes (lanes_of ss))))

boot_steps : (b : ℕ) (boot : ScriptBoot) → AllByRecursion (IsStepOf b boot) (boot_plan b boot)
boot_steps b boot = (record { number = refl; fate = refl; event = refl }, segment_steps b boot [] boot.segments refl)

-- a planned step is answered, and is what the script says there
pub record IsStepIn (script : Script) (p : Planned) : Type 0 where
  pub fate : p.row.fate ≡ Answered
  pub event : event_at script p.row ≡ Some p.event

step_in : (script : Script) (b : ℕ) (boot : ScriptBoot) → nth script.boots b ≡ Some boot → (p : Planned)
    → IsStepOf b boot p → IsStepIn script p
step_in script b boot found p s =
    record {
      fate = s.fate;
      event = ap (λ k. option_and_then (λ (sb : ScriptBoot). event_in sb p.row) (nth script.boots k)) s.number
          ∙ ap (option_and_then (λ (sb : ScriptBoot). event_in sb p.row)) found ∙ s.event;
    }

steps_in : (script : Script) (k : ℕ) (earlier bs : List ScriptBoot) → script.boots ≡ earlier ++ bs → k ≡ length earlier
    → AllByRecursion (IsStepIn script) (boots_plan k bs)
steps_in script k earlier [] whole len = tt
steps_in script k earlier (b ∷ bs) whole len =
    let found : nth script.boots (k + 1) ≡ Some b =
    ap (λ xs. nth xs (k + 1)) whole ∙ nth-seam earlier bs b (k + 1) (omega (arith, len)) in
    AllByRecursion-append (IsStepIn script) (boot_plan (k + 1) b) (boots_plan (k + 1) bs)
    (AllByRecursion-weaker (IsStepOf (k + 1) b) (IsStepIn script) (step_in script (k + 1) b found) (boot_plan (k + 1) b)
    (boot_steps (k + 1) b))
    (steps_in script (k + 1) (earlier ++ b ∷ []) bs (whole ∙ sym (append_assoc earlier (b ∷ []) bs))
    (omega (arith, len, length-append earlier (b ∷ []))))

plan_steps : (script : Script) → AllByRecursion (IsStepIn script) (boots_plan 0 script.boots)
plan_steps script = steps_in script 0 [] script.boots refl refl

-- Text

turn-step : (script : Script) (w : World) (p : Planned) → IsStepIn script p → turn script w p.row ≡ turned_by w p.event
unfolding turn
turn-step script w p s = ap (λ f. turned_at w f (event_at script p.row)) s.fate ∙ ap (turned_at w Answered) s.event

lines_from-plan : (script : Script) (w : World) (plan : List Planned) → AllByRecursion (IsStepIn script) plan
    → lines_from script w (rows_of plan) ≡ plan_lines w plan
lines_from-plan script w [] a = refl
lines_from-plan script w (p ∷ ps) a =
    ap (λ (t : Turned). turn_lines p.row t.shown ++ lines_from script t.world (rows_of ps)) (turn-step script w p a.0)
    ∙ ap (λ text. turn_lines p.row (turned_by w p.event).shown ++ text)
    (lines_from-plan script (turned_by w p.event).world ps a.1)

answered_rows : (script : Script) (plan : List Planned) → AllByRecursion (IsStepIn script) plan
    → AllByRecursion (λ (row : TurnRow). row.fate ≡ Answered) (rows_of plan)
answered_rows script [] a = tt
answered_rows script (p ∷ ps) a = (a.0.fate, answered_rows script ps a.1)

-- What a run of the plan has

plan_places : (script : Script) → map position_of (rows_of (boots_plan 0 script.boots)) ≡ positions script
plan_places script = places-rows (boots_plan 0 script.boots) ∙ places-boots 0 script.boots

-- a front of the plan
pub record PlanFront (script : Script) (front : List Planned) : Type 0 where
  pub steps : AllByRecursion (IsStepIn script) front
  pub order : IsInOrder script (rows_of front)
  pub answered : All (λ (row : TurnRow). row.fate ≡ Answered) (rows_of front)
  pub text : lines_from script (empty_world script.scale) (rows_of front) ≡ plan_lines (empty_world script.scale) front

pub plan_front : (script : Script) (front rest : List Planned) → boots_plan 0 script.boots ≡ front ++ rest
    → PlanFront script front
plan_front script front rest split =
    let all : AllByRecursion (IsStepIn script) (front ++ rest) =
    subst (AllByRecursion (IsStepIn script)) split (plan_steps script) in
    let steps = AllByRecursion-front (IsStepIn script) front rest all in
    let answered = answered_rows script front steps in
    let whole : positions script ≡ map position_of (rows_of front) ++ places rest =
    sym (plan_places script) ∙ places-rows (boots_plan 0 script.boots) ∙ ap places split ∙ places-append front rest
    ∙ ap (λ ps. ps ++ places rest) (sym (places-rows front)) in
    record {
      steps = steps;
      order = in_order script (rows_of front) answered (places rest, whole);
      answered = All-from_recursion (λ (row : TurnRow). row.fate ≡ Answered) (rows_of front) answered;
      text = lines_from-plan script (empty_world script.scale) front steps;
    }

-- the turns of the whole plan are all of the script's
pub plan_fits : (script : Script) → Fits script (rows_of (boots_plan 0 script.boots))
plan_fits script =
    fits script (rows_of (boots_plan 0 script.boots))
    (answered_rows script (boots_plan 0 script.boots) (plan_steps script)) (plan_places script)
