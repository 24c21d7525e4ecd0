-- Plans of lists, by the place of an element: what it adds to the plan of those before it (`_next`), and where its
-- steps stand in the whole plan (`_at`).
use Rattle.std.proofs.Common.{◌≡◌, ℕ, suc, ◌+◌, ◌<◌, List, [], ◌∷◌, ◌++◌, length, get_or, take, drop, flat_map}
use Rattle.std.proofs.Common.{sym, ap, ◌∙◌, refl, append_assoc, add-one, arith}
use Rattle.std.proofs.Math.Seq.{drop-cons}
use Rattle.std.proofs.lemmas.List.{append-nil, take_more, take-append-drop, length-take-le}
use Rattle.apex_world.specs.declared.calls.Call.{Call}
use Rattle.apex_world.specs.declared.script.Lane.{Lane}
use Rattle.apex_world.specs.declared.script.Segment.{Segment}
use Rattle.apex_world.specs.declared.script.ScriptBoot.{ScriptBoot}
use Rattle.apex_world.specs.Turns.{lane_calls}
use Rattle.device_play.specs.Run.{planned_call}
use Rattle.device_play.specs.Run.{call_plan, block_plan, segment_plan, boot_plan, boots_plan}

pub next_of : {X : Type 0} (xs : List X) (i : ℕ) (x : X) → i < length xs → x ≡ get_or xs i x
    → take (i + 1) xs ≡ take i xs ++ x ∷ []
next_of xs i x lt here = take_more xs i x lt ∙ ap (λ y. take i xs ++ y ∷ []) (sym here)

-- a list is its front, an element and what stands after it
pub whole_of : {X : Type 0} (xs : List X) (i : ℕ) (x : X) → i < length xs → x ≡ get_or xs i x
    → xs ≡ take i xs ++ x ∷ drop (i + 1) xs
whole_of xs i x lt here =
    sym (take-append-drop i xs) ∙ ap (λ ys. take i xs ++ ys)
    (drop-cons xs i x lt ∙ ap (λ y. y ∷ drop (suc i) xs) (sym here) ∙ rw add-one refl)

front_len : {X : Type 0} (xs : List X) (i : ℕ) → i < length xs → length (take i xs) ≡ i
front_len xs i lt = length-take-le i xs (omega arith)

call_plan-append : (b n k : ℕ) (xs ys : List Call)
    → call_plan b n k (xs ++ ys) ≡ call_plan b n k xs ++ call_plan b n (k + length xs) ys
call_plan-append b n k [] ys = ap (λ j. call_plan b n j ys) (omega arith)
call_plan-append b n k (x ∷ xs) ys =
    ap (λ ps. planned_call b n (k + 1) x ∷ ps) (call_plan-append b n (k + 1) xs ys
    ∙ ap (λ j. call_plan b n (k + 1) xs ++ call_plan b n j ys) (omega arith))

pub call_plan_next : (b n k i step : ℕ) (xs : List Call) (x : Call) → i < length xs → x ≡ get_or xs i x
    → step ≡ k + i + 1 → call_plan b n k (take (i + 1) xs) ≡ call_plan b n k (take i xs) ++ planned_call b n step x ∷ []
call_plan_next b n k i step xs x lt here e =
    ap (call_plan b n k) (next_of xs i x lt here) ∙ call_plan-append b n k (take i xs) (x ∷ [])
    ∙ ap (λ j. call_plan b n k (take i xs) ++ planned_call b n j x ∷ []) (omega (arith, e, front_len xs i lt))

pub call_plan_at : (b n k i step : ℕ) (xs : List Call) (x : Call) → i < length xs → x ≡ get_or xs i x → step ≡ k + i + 1
    → call_plan b n k xs ≡ call_plan b n k (take i xs)
    ++ ((planned_call b n step x ∷ []) ++ call_plan b n step (drop (i + 1) xs))
call_plan_at b n k i step xs x lt here e =
    ap (call_plan b n k) (whole_of xs i x lt here) ∙ call_plan-append b n k (take i xs) (x ∷ drop (i + 1) xs)
    ∙ ap (λ j. call_plan b n k (take i xs) ++ planned_call b n j x ∷ call_plan b n j (drop (i + 1) xs))
    (omega (arith, e, front_len xs i lt))

block_plan-append : (b : ℕ) (e xs ys : List Lane)
    → block_plan b e (xs ++ ys) ≡ block_plan b e xs ++ block_plan b (e ++ xs) ys
block_plan-append b e [] ys = ap (λ z. block_plan b z ys) (sym (append-nil e))
block_plan-append b e (x ∷ xs) ys =
    let here = call_plan b x.number (length (lane_calls x.number e)) x.calls in
    ap (λ ps. here ++ ps) (block_plan-append b (e ++ x ∷ []) xs ys
    ∙ ap (λ z. block_plan b (e ++ x ∷ []) xs ++ block_plan b z ys) (append_assoc e (x ∷ []) xs))
    ∙ sym (append_assoc here (block_plan b (e ++ x ∷ []) xs) (block_plan b (e ++ x ∷ xs) ys))

pub block_plan_next : (b i : ℕ) (e xs : List Lane) (x : Lane) → i < length xs → x ≡ get_or xs i x
    → block_plan b e (take (i + 1) xs) ≡ block_plan b e (take i xs)
    ++ call_plan b x.number (length (lane_calls x.number (e ++ take i xs))) x.calls
block_plan_next b i e xs x lt here =
    ap (block_plan b e) (next_of xs i x lt here) ∙ block_plan-append b e (take i xs) (x ∷ [])
    ∙ ap (λ ps. block_plan b e (take i xs) ++ ps) (append-nil _)

pub block_plan_at : (b i : ℕ) (e xs : List Lane) (x : Lane) → i < length xs → x ≡ get_or xs i x
    → block_plan b e xs ≡ block_plan b e (take i xs)
    ++ (call_plan b x.number (length (lane_calls x.number (e ++ take i xs))) x.calls ++ block_plan b
    ((e ++ take i xs) ++ x ∷ []) (drop (i + 1) xs))
block_plan_at b i e xs x lt here =
    ap (block_plan b e) (whole_of xs i x lt here) ∙ block_plan-append b e (take i xs) (x ∷ drop (i + 1) xs)

-- the lane blocks of segments
abbrev pub lanes_of : List Segment → List Lane
lanes_of segments = flat_map (λ (s : Segment). s.lanes) segments

segment_plan-append : (b : ℕ) (e : List Lane) (xs ys : List Segment)
    → segment_plan b e (xs ++ ys) ≡ segment_plan b e xs ++ segment_plan b (e ++ lanes_of xs) ys
segment_plan-append b e [] ys = ap (λ z. segment_plan b z ys) (sym (append-nil e))
segment_plan-append b e (x ∷ xs) ys =
    ap (λ ps. block_plan b e x.lanes ++ ps) (segment_plan-append b (e ++ x.lanes) xs ys
    ∙ ap (λ z. segment_plan b (e ++ x.lanes) xs ++ segment_plan b z ys) (append_assoc e x.lanes (lanes_of xs)))
    ∙ sym (append_assoc (block_plan b e x.lanes) (segment_plan b (e ++ x.lanes) xs)
    (segment_plan b (e ++ (x.lanes ++ lanes_of xs)) ys))

pub segment_plan_next : (b i : ℕ) (xs : List Segment) (x : Segment) → i < length xs → x ≡ get_or xs i x
    → segment_plan b [] (take (i + 1) xs) ≡ segment_plan b [] (take i xs) ++ block_plan b (lanes_of (take i xs)) x.lanes
segment_plan_next b i xs x lt here =
    ap (segment_plan b []) (next_of xs i x lt here) ∙ segment_plan-append b [] (take i xs) (x ∷ [])
    ∙ ap (λ ps. segment_plan b [] (take i xs) ++ ps) (append-nil _)

pub segment_plan_at : (b i : ℕ) (xs : List Segment) (x : Segment) → i < length xs → x ≡ get_or xs i x
    → segment_plan b [] xs ≡ segment_plan b [] (take i xs)
    ++ (block_plan b (lanes_of (take i xs)) x.lanes ++ segment_plan b (lanes_of (take i xs) ++ x.lanes)
    (drop (i + 1) xs))
segment_plan_at b i xs x lt here =
    ap (segment_plan b []) (whole_of xs i x lt here) ∙ segment_plan-append b [] (take i xs) (x ∷ drop (i + 1) xs)

boots_plan-append : (k : ℕ) (xs ys : List ScriptBoot)
    → boots_plan k (xs ++ ys) ≡ boots_plan k xs ++ boots_plan (k + length xs) ys
boots_plan-append k [] ys = ap (λ j. boots_plan j ys) (omega arith)
boots_plan-append k (x ∷ xs) ys =
    ap (λ ps. boot_plan (k + 1) x ++ ps) (boots_plan-append (k + 1) xs ys
    ∙ ap (λ j. boots_plan (k + 1) xs ++ boots_plan j ys) (omega arith))
    ∙ sym (append_assoc (boot_plan (k + 1) x) (boots_plan (k + 1) xs) (boots_plan (k + length (x ∷ xs)) ys))

pub boots_plan_next : (i number : ℕ) (xs : List ScriptBoot) (x : ScriptBoot) → i < length xs → x ≡ get_or xs i x
    → number ≡ i + 1 → boots_plan 0 (take (i + 1) xs) ≡ boots_plan 0 (take i xs) ++ boot_plan number x
boots_plan_next i number xs x lt here e =
    ap (boots_plan 0) (next_of xs i x lt here) ∙ boots_plan-append 0 (take i xs) (x ∷ [])
    ∙ ap (λ ps. boots_plan 0 (take i xs) ++ ps) (append-nil _) ∙ ap (λ j. boots_plan 0 (take i xs) ++ boot_plan j x)
    (omega (arith, e, front_len xs i lt))

pub boots_plan_at : (i number : ℕ) (xs : List ScriptBoot) (x : ScriptBoot) → i < length xs → x ≡ get_or xs i x
    → number ≡ i + 1
    → boots_plan 0 xs ≡ boots_plan 0 (take i xs) ++ (boot_plan number x ++ boots_plan number (drop (i + 1) xs))
boots_plan_at i number xs x lt here e =
    ap (boots_plan 0) (whole_of xs i x lt here) ∙ boots_plan-append 0 (take i xs) (x ∷ drop (i + 1) xs)
    ∙ ap (λ j. boots_plan 0 (take i xs) ++ (boot_plan j x ++ boots_plan j (drop (i + 1) xs)))
    (omega (arith, e, front_len xs i lt))
