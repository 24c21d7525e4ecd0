-- Runs one after another. Callers want `ran_one`, `ran_more`, `ran_err`, `Went-next`, `Stopped-at` and `can_play-at`.
use Rattle.std.proofs.Common.{◌≡◌, ℕ, List, [], ◌∷◌, ◌++◌, Result, Ok, Err, sym, ap, ◌∙◌, subst, refl, append_assoc}
use Rattle.std.specs.Result.{IsErr}
use Rattle.std.proofs.lemmas.List.{append-nil}
use Rattle.std.proofs.lemmas.List.Sums.{fold-append}
use Rattle.apex_world.specs.declared.script.Lane.{Lane}
use Rattle.apex_world.specs.declared.script.Segment.{Segment}
use Rattle.apex_world.specs.World.{World}
use Rattle.apex_world.specs.Fold.{Event, turned_by}
use Rattle.apex_world.specs.Text.{turn_lines}
use Rattle.apex_base.specs.Outside.{PutFront, Puts}
use Rattle.play_text.specs.declared.put.PutFailed.{PutFailed}
use Rattle.device_play.specs.declared.device.Device.{Device}
use Rattle.device_play.specs.Device.{IsDeviceOf}
use Rattle.device_play.specs.Events.{CanHappen}
use Rattle.device_play.specs.Run.{Planned, Stage, CanFollow, CanPlay, WentFrom, StoppedFrom, Went, Stopped, Ran}
use Rattle.device_play.specs.Run.{rows_of, plan_world, plan_lines, block_plan}
use Rattle.play_text.proofs.Puts.{PutAll-none, PutFront-none, PutAll-more, PutFront-more, PutAll-of, PutFront-of}

-- Plans

pub plan_world-append : (w : World) (a b : List Planned) → plan_world w (a ++ b) ≡ plan_world (plan_world w a) b
plan_world-append w a b = fold-append (λ w (p : Planned). (turned_by w p.event).world) w a b

pub plan_lines-append : (w : World) (a b : List Planned)
    → plan_lines w (a ++ b) ≡ plan_lines w a ++ plan_lines (plan_world w a) b
plan_lines-append w [] b = refl
plan_lines-append w (p ∷ a) b =
    ap (λ t. turn_lines p.row (turned_by w p.event).shown ++ t) (plan_lines-append (turned_by w p.event).world a b)
    ∙ sym (append_assoc (turn_lines p.row (turned_by w p.event).shown) (plan_lines (turned_by w p.event).world a)
    (plan_lines (plan_world (turned_by w p.event).world a) b))

rows_of-append : (a b : List Planned) → rows_of (a ++ b) ≡ rows_of a ++ rows_of b
rows_of-append [] b = refl
rows_of-append (p ∷ a) b = ap (λ rows. p.row ∷ rows) (rows_of-append a b)

-- where steps can happen, the first of them can, and the rest after them
pub can_follow-parts : (w : World) (a b : List Planned) → CanFollow w (a ++ b)
    → CanFollow w a × CanFollow (plan_world w a) b
can_follow-parts w [] b can = (tt, can)
can_follow-parts w (p ∷ a) b can =
    let (front, rest) = can_follow-parts (turned_by w p.event).world a b can.1 in
    ((can.0, front), rest)

-- and the other way round
pub can_follow-append : (w : World) (a b : List Planned) → CanFollow w a → CanFollow (plan_world w a) b
    → CanFollow w (a ++ b)
can_follow-append w [] b front rest = rest
can_follow-append w (p ∷ a) b front rest =
    (front.0, can_follow-append (turned_by w p.event).world a b front.1 rest)

-- Runs

pub Went-none : (s : Stage) → Went [] s s
Went-none s = λ w is can. record { turns = sym (append-nil s.turns); leads = is; put = PutAll-none s.held }

went_from-more : (w : World) (a b : List Planned) (s t u : Stage) → WentFrom w a s t → WentFrom (plan_world w a) b t u
    → WentFrom w (a ++ b) s u
went_from-more w a b s t u p q = record {
  turns = q.turns ∙ ap (λ x. x ++ rows_of b) p.turns ∙ append_assoc s.turns (rows_of a) (rows_of b)
      ∙ ap (λ x. s.turns ++ x) (sym (rows_of-append a b));
  leads = subst (IsDeviceOf u.device) (sym (plan_world-append w a b)) q.leads;
  put = PutAll-of s.held u.held _ _ (plan_lines-append w a b) (PutAll-more s.held t.held u.held _ _ p.put q.put);
}

pub Went-more : (a b : List Planned) (s t u : Stage) → Went a s t → Went b t u → Went (a ++ b) s u
Went-more a b s t u p q = λ w is can.
    let (front, rest) = can_follow-parts w a b can in
    let went = p w is front in
    went_from-more w a b s t u went (q (plan_world w a) went.leads rest)

stopped_from-more : (w : World) (a b : List Planned) (s t u : Stage) → WentFrom w a s t
    → StoppedFrom (plan_world w a) b t u → StoppedFrom w (a ++ b) s u
stopped_from-more w a b s t u p q = record {
  front = a ++ q.front;
  rest = q.rest;
  split = ap (λ x. a ++ x) q.split ∙ sym (append_assoc a q.front q.rest);
  turns = q.turns ∙ ap (λ x. x ++ rows_of q.front) p.turns ∙ append_assoc s.turns (rows_of a) (rows_of q.front)
      ∙ ap (λ x. s.turns ++ x) (sym (rows_of-append a q.front));
  put = PutFront-of s.held u.held _ _ (plan_lines-append w a q.front)
      (PutFront-more s.held t.held u.held _ _ p.put q.put);
}

pub Stopped-more : (a b : List Planned) (s t u : Stage) → Went a s t → Stopped b t u → Stopped (a ++ b) s u
Stopped-more a b s t u p q = λ w is can.
    let (front, rest) = can_follow-parts w a b can in
    let went = p w is front in
    stopped_from-more w a b s t u went (q (plan_world w a) went.leads rest)

-- a run that stops, with more to come
pub Stopped-front : (a b : List Planned) (s t : Stage) → Stopped a s t → Stopped (a ++ b) s t
Stopped-front a b s t p = λ w is can.
    let q = p w is (can_follow-parts w a b can).0 in
    record {
      front = q.front;
      rest = q.rest ++ b;
      split = ap (λ x. x ++ b) q.split ∙ append_assoc q.front q.rest b;
      turns = q.turns;
      put = q.put;
    }

-- a run that stops before its first turn is entered
pub Stopped-none : (plan : List Planned) (s t : Stage) → t.turns ≡ s.turns → t.held ≡ s.held → Stopped plan s t
Stopped-none plan s t same held = λ w is can. record {
  front = [];
  rest = plan;
  split = refl;
  turns = same ∙ sym (append-nil s.turns);
  put = subst (λ h. PutFront s.held h []) (sym held) (PutFront-none s.held []);
}

-- what becomes of the device at one step
abbrev pub LeadsBy : Event → Device → Device → Type 0
LeadsBy event d d' = (w : World) → IsDeviceOf d w → CanHappen w event → IsDeviceOf d' (turned_by w event).world

-- and what is put, in a call with this result
abbrev pub PutsBy : {T : Type 0} → Planned → Stage → Stage → Result T PutFailed → Type 0
PutsBy p s t r = (w : World) → IsDeviceOf s.device w → CanHappen w p.event
    → Puts s.held t.held r (turn_lines p.row (turned_by w p.event).shown)

-- a step whose turn is entered, and whose lines are put as far as the call went
pub ran_one : {T : Type 0} (r : Result T PutFailed) (p : Planned) (s t : Stage) → t.turns ≡ s.turns ++ p.row ∷ []
    → LeadsBy p.event s.device t.device → PutsBy p s t r → Ran r (p ∷ []) s t
ran_one (Ok x) p s t turns leads put = λ w is can.
    record { turns = turns; leads = leads w is can.0; put = PutAll-of s.held t.held _ _ (append-nil _) (put w is can.0) }
ran_one (Err e) p s t turns leads put = λ w is can. record {
  front = p ∷ [];
  rest = [];
  split = refl;
  turns = turns;
  put = PutFront-of s.held t.held _ _ (append-nil _) (put w is can.0);
}

-- a call that fails leaves a run that stopped
pub ran_err : {T : Type 0} (r : Result T PutFailed) (plan : List Planned) (s t : Stage) → IsErr r → Stopped plan s t
    → Ran r plan s t
ran_err (Ok x) plan s t is p = absurd (cc)
ran_err (Err e) plan s t is p = p

pub ran_more : {T : Type 0} (r : Result T PutFailed) (a b : List Planned) (s t u : Stage) → Went a s t → Ran r b t u
    → Ran r (a ++ b) s u
ran_more (Ok x) a b s t u p q = Went-more a b s t u p q
ran_more (Err e) a b s t u p q = Stopped-more a b s t u p q

pub Went-of : (a b : List Planned) (s t : Stage) → b ≡ a → Went a s t → Went b s t
Went-of a b s t same p = subst (λ plan. Went plan s t) (sym same) p

pub Stopped-of : (a b : List Planned) (s t : Stage) → b ≡ a → Stopped a s t → Stopped b s t
Stopped-of a b s t same p = subst (λ plan. Stopped plan s t) (sym same) p

-- a run that stops in one of several parts
pub Stopped-at : (whole a here rest : List Planned) (s t u : Stage) → whole ≡ a ++ (here ++ rest) → Went a s t
    → Stopped here t u → Stopped whole s u
Stopped-at whole a here rest s t u same p q =
    Stopped-of _ _ s u same (Stopped-more a (here ++ rest) s t u p (Stopped-front here rest t u q))

-- the first steps can be played where all can
pub can_play-front : (a b : List Planned) (d : Device) → CanPlay (a ++ b) d → CanPlay a d
can_play-front a b d can = let (w, both) = can in (w, (both.0, (can_follow-parts w a b both.1).0))

-- a part can be played where the whole could, and the earlier parts were
pub can_play-at : (whole a here rest : List Planned) (s t : Stage) → whole ≡ a ++ (here ++ rest) → Went a s t
    → CanPlay whole s.device → CanPlay here t.device
can_play-at whole a here rest s t same p can =
    let (w, both) = can in
    let (front, later) = can_follow-parts w a (here ++ rest) (subst (CanFollow w) same both.1) in
    (plan_world w a, ((p w both.0 front).leads, (can_follow-parts (plan_world w a) here rest later).0))

-- a run that goes on by one of several parts
pub Went-next : (whole a here : List Planned) (s t u : Stage) → whole ≡ a ++ here → Went a s t → Went here t u
    → Went whole s u
Went-next whole a here s t u same p q = Went-of _ _ s u same (Went-more a here s t u p q)

-- a run of a segment is one of the same segment
pub ran_as : {T : Type 0} (r : Result T PutFailed) (b : ℕ) (e : List Lane) (x y : Segment) (s t : Stage) → x ≡ y
    → Ran r (block_plan b e x.lanes) s t → Ran r (block_plan b e y.lanes) s t
ran_as r b e x y s t same p = subst (λ z. Ran r (block_plan b e z.lanes) s t) same p
