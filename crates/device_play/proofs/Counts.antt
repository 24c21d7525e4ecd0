-- How many calls each lane has had. Callers want `counts_more` and `counts_few`.
use Rattle.std.proofs.Common.{◌≡◌, ℕ, ◌+◌, ◌^◌, ◌<◌, ◌≤◌, ◌≢◌, true, false, cond, eqb, List, [], ◌∷◌, ◌++◌, length}
use Rattle.std.proofs.Common.{get_or, set, take, drop, sym, ap, subst, ◌∙◌, refl, arith, inl, inr, ◌⊎◌}
use Rattle.std.proofs.Common.{get_or-set_other, get_or-set_same, length-set, append_assoc, eq-eqb}
use Rattle.std.proofs.lemmas.Bool.Decides.{nat_tests}
use Rattle.std.proofs.lemmas.Bool.{cases_eq}
use Rattle.std.proofs.lemmas.List.{length-append, append-nil}
use Rattle.std.proofs.lemmas.Grind.{flat_map-append}
use Rattle.apex_world.specs.declared.script.Lane.{Lane}
use Rattle.apex_world.specs.declared.script.Segment.{Segment}
use Rattle.apex_world.specs.declared.script.ScriptBoot.{ScriptBoot}
use Rattle.apex_world.specs.declared.calls.Call.{Call}
use Rattle.apex_world.specs.Playable.{IsBuilt, IsPlayableBoot, IsPlayableSegment, IsPlayableLane}
use Rattle.apex_world.specs.Segments.{plain_segment}
use Rattle.apex_world.specs.Turns.{lane_calls}
use Rattle.device_play.specs.Stages.{HasCounts}
use Rattle.device_play.proofs.Places.{whole_of, lanes_of, next_of}

lane_calls-append : (n : ℕ) (a b : List Lane) → lane_calls n (a ++ b) ≡ lane_calls n a ++ lane_calls n b
lane_calls-append n a b = flat_map-append (λ (l : Lane). cond (eqb l.number n) l.calls []) a b

-- one block more of a lane
lane_calls-own : (n : ℕ) (l : Lane) → l.number ≡ n → lane_calls n (l ∷ []) ≡ l.calls
lane_calls-own n l e = let yes : eqb l.number n ≡ true = eq-eqb _ _ e in rw yes (append-nil l.calls)

lane_calls-other : (n : ℕ) (l : Lane) → n ≢ l.number → lane_calls n (l ∷ []) ≡ []
lane_calls-other n l e = let no : eqb l.number n ≡ false = grind (arith, nat_tests) in rw no refl

lane_calls-push : (n : ℕ) (blocks : List Lane) (l : Lane)
    → length (lane_calls n (blocks ++ l ∷ [])) ≡ length (lane_calls n blocks) + length (lane_calls n (l ∷ []))
lane_calls-push n blocks l =
    ap length (lane_calls-append n blocks (l ∷ [])) ∙ length-append (lane_calls n blocks) (lane_calls n (l ∷ []))

-- the calls of a block's own lane, with those of the block
pub own_calls : (blocks : List Lane) (l : Lane)
    → length (lane_calls l.number (blocks ++ l ∷ [])) ≡ length (lane_calls l.number blocks) + length l.calls
own_calls blocks l = lane_calls-push l.number blocks l ∙ ap (λ cs. length (lane_calls l.number blocks) + length cs)
    (lane_calls-own l.number l refl)

counts_own : (counts : List ℕ) (blocks : List Lane) (l : Lane) (k n : ℕ) → HasCounts counts blocks → l.number ≤ 8
    → k ≡ length (lane_calls l.number blocks) + length l.calls → n ≡ l.number
    → get_or (set counts l.number k) n 0 ≡ length (lane_calls n (blocks ++ l ∷ []))
counts_own counts blocks l k n has low is same =
    let lt : l.number < length counts = omega (arith, has.lanes) in
    ap (λ m. get_or (set counts l.number k) m 0) same ∙ get_or-set_same counts l.number k 0 lt ∙ is
    ∙ sym (own_calls blocks l) ∙ ap (λ m. length (lane_calls m (blocks ++ l ∷ []))) (sym same)

counts_other : (counts : List ℕ) (blocks : List Lane) (l : Lane) (k n : ℕ) → HasCounts counts blocks → n ≤ 8
    → n ≢ l.number → get_or (set counts l.number k) n 0 ≡ length (lane_calls n (blocks ++ l ∷ []))
counts_other counts blocks l k n has within other =
    let none : length (lane_calls n (l ∷ [])) ≡ 0 = ap length (lane_calls-other n l other) in
    let kept : get_or (set counts l.number k) n 0 ≡ get_or counts n 0 = rw get_or-set_other refl in
    kept ∙ has.each n within ∙ omega (arith, lane_calls-push n blocks l, none)

counts_at : (counts : List ℕ) (blocks : List Lane) (l : Lane) (k n : ℕ) → HasCounts counts blocks → l.number ≤ 8
    → k ≡ length (lane_calls l.number blocks) + length l.calls → n ≤ 8 → ((n ≡ l.number) ⊎ (n ≢ l.number))
    → get_or (set counts l.number k) n 0 ≡ length (lane_calls n (blocks ++ l ∷ []))
counts_at counts blocks l k n has low is within (inl same) = counts_own counts blocks l k n has low is same
counts_at counts blocks l k n has low is within (inr other) = counts_other counts blocks l k n has within other

-- the counts after one more block
pub counts_more : (counts : List ℕ) (blocks : List Lane) (l : Lane) (k : ℕ) → HasCounts counts blocks → l.number ≤ 8
    → k ≡ get_or counts l.number 0 + length l.calls → HasCounts (set counts l.number k) (blocks ++ l ∷ [])
counts_more counts blocks l k has low is = record {
  lanes = length-set counts l.number k ∙ has.lanes;
  each = λ n within. counts_at counts blocks l k n has low (omega (arith, is, has.each l.number low)) within
      (cases_eq n l.number);
}

-- a lane's calls in a front are no more than in all
pub calls_of_front : (n : ℕ) (front rest : List Lane)
    → length (lane_calls n front) ≤ length (lane_calls n (front ++ rest))
calls_of_front n front rest =
    omega (arith, ap length (lane_calls-append n front rest), length-append (lane_calls n front) (lane_calls n rest))

-- the blocks of a boot: those before a block of one of its segments, the block, and those after it
lanes_of-split : (segments : List Segment) (at j : ℕ) (s : Segment) (l : Lane) → at < length segments
    → s ≡ get_or segments at s → j < length s.lanes → l ≡ get_or s.lanes j l
    → lanes_of segments ≡ ((lanes_of (take at segments) ++ take j s.lanes) ++ l ∷ [])
    ++ (drop (j + 1) s.lanes ++ lanes_of (drop (at + 1) segments))
lanes_of-split segments at j s l lt here low same =
    let before = lanes_of (take at segments) in
    let later = lanes_of (drop (at + 1) segments) in
    let front = take j s.lanes in
    let rest = drop (j + 1) s.lanes in
    ap lanes_of (whole_of segments at s lt here) ∙ flat_map-append (λ (t : Segment). t.lanes) (take at segments)
    (s ∷ drop (at + 1) segments)
    ∙ ap (λ ls. before ++ (ls ++ later)) (whole_of s.lanes j l low same)
    ∙ simp append_assoc

-- a block's calls fit after those that its lane had
pub counts_few : (bound : ℕ) (segments : List Segment) (at j : ℕ) (s : Segment) (l : Lane)
    → ((n : ℕ) → length (lane_calls n (lanes_of segments)) < bound) → at < length segments → s ≡ get_or segments at s
    → j < length s.lanes → l ≡ get_or s.lanes j l
    → length (lane_calls l.number (lanes_of (take at segments) ++ take j s.lanes)) + length l.calls < bound
counts_few bound segments at j s l few lt here low same =
    let front = lanes_of (take at segments) ++ take j s.lanes in
    let rest = drop (j + 1) s.lanes ++ lanes_of (drop (at + 1) segments) in
    let n = l.number in
    let whole : length (lane_calls n (lanes_of segments)) ≡ length (lane_calls n ((front ++ l ∷ []) ++ rest)) =
    ap (λ ls. length (lane_calls n ls)) (lanes_of-split segments at j s l lt here low same) in
    omega (arith, few n, whole, calls_of_front n (front ++ l ∷ []) rest, own_calls front l)

-- a lane block of a boot that can be played can be played
pub lane_playable : (bound : ℕ) (boot : ScriptBoot) (at j : ℕ) (s : Segment) (l : Lane) → IsPlayableBoot bound boot
    → at < length boot.segments → s ≡ get_or boot.segments at s → j < length s.lanes → l ≡ get_or s.lanes j l
    → IsPlayableLane l
lane_playable bound boot at j s l playable lt here low same =
    let segment : IsPlayableSegment s = subst IsPlayableSegment (sym here) (playable.segments at s lt) in
    subst IsPlayableLane (sym same) (segment.lanes j l low)

-- so can a call outside lane blocks, which is a segment of its own
pub call_playable : (boot : ScriptBoot) (at : ℕ) (call : Call) → IsPlayableBoot (2 ^ 32) boot
    → at < length boot.segments → plain_segment call ≡ get_or boot.segments at (plain_segment call) → IsBuilt call
call_playable boot at call playable lt here =
    let lane = lane_playable (2 ^ 32) boot at 0 (plain_segment call) (record { number = 0; calls = call ∷ [] }) playable
    lt here (omega arith) refl in
    lane.calls 0 call (omega arith)

-- and its lane has a step left
pub call_counted : (boot : ScriptBoot) (at : ℕ) (call : Call) → IsPlayableBoot (2 ^ 32) boot → at < length boot.segments
    → plain_segment call ≡ get_or boot.segments at (plain_segment call)
    → length (lane_calls 0 (lanes_of (take at boot.segments))) + 1 < 2 ^ 32
call_counted boot at call playable lt here =
    let few = counts_few (2 ^ 32) boot.segments at 0 (plain_segment call) (record { number = 0; calls = call ∷ [] })
    playable.steps lt here (omega arith) refl in
    subst (λ ls. length (lane_calls 0 ls) + 1 < 2 ^ 32) (append-nil (lanes_of (take at boot.segments))) few

-- the counts with that step
pub call_counts : (counts : List ℕ) (blocks : List Lane) (call : Call) → HasCounts counts blocks
    → HasCounts (set counts 0 (get_or counts 0 0 + 1)) (blocks ++ (plain_segment call).lanes)
call_counts counts blocks call has =
    counts_more counts blocks (record { number = 0; calls = call ∷ [] }) (get_or counts 0 0 + 1) has (omega arith) refl

-- the blocks of a boot with those of the segment at a place
pub blocks_next : (boot : ScriptBoot) (at : ℕ) (s : Segment) → at < length boot.segments → s ≡ get_or boot.segments at s
    → lanes_of (take (at + 1) boot.segments) ≡ lanes_of (take at boot.segments) ++ s.lanes
blocks_next boot at s lt here =
    ap lanes_of (next_of boot.segments at s lt here) ∙ flat_map-append (λ (t : Segment). t.lanes)
    (take at boot.segments) (s ∷ []) ∙ ap (λ ls. lanes_of (take at boot.segments) ++ ls) (append-nil s.lanes)
