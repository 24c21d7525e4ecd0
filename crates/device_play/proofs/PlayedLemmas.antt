-- What a run of a whole script leaves, from what a run of its plan does.
use Rattle.std.proofs.Common.{◌≡◌, ℕ, List, [], ◌++◌, Option, Result, Ok, Err, sym, ap, ◌∙◌, subst}
use Rattle.std.specs.List.{All}
use Rattle.std.specs.Result.{IsErr}
use Rattle.std.proofs.lemmas.List.{append-nil}
use Rattle.apex_base.specs.Outside.{PutAll, PutFront, Puts}
use Rattle.apex_world.specs.declared.script.Script.{Script}
use Rattle.apex_world.specs.declared.turns.Fate.TheVariants.{Answered}
use Rattle.apex_world.specs.declared.turns.TurnRow.{TurnRow}
use Rattle.apex_world.specs.World.{empty_world}
use Rattle.apex_world.specs.Text.{lines_from, end_line, out}
use Rattle.apex_world.specs.Turns.{IsInOrder, Fits, positions}
use Rattle.apex_world.proofs.TurnLemmas.{IsFront-none, in_order}
use Rattle.play_text.specs.declared.put.PutFailed.{PutFailed}
use Rattle.device_play.specs.Played.{PlayedFront, HasPlayed}
use Rattle.device_play.specs.Device.{IsDeviceOf}
use Rattle.device_play.specs.Run.{Planned, Stage, CanFollow, Went, StoppedFrom, Stopped, rows_of, plan_lines, boots_plan}
use Rattle.device_play.proofs.Plans.{PlanFront, plan_front, plan_fits}
use Rattle.play_text.proofs.Puts.{PutAll-more, PutFront-more, PutFront-front, PutFront-all, PutAll-of, PutFront-of}

-- before a run
pub record IsFresh (script : Script) (s : Stage) : Type 0 where
  pub device : IsDeviceOf s.device (empty_world script.scale)
  pub can : CanFollow (empty_world script.scale) (boots_plan 0 script.boots)
  pub turns : s.turns ≡ []

rows_are : (script : Script) (s t : Stage) (plan : List Planned) → IsFresh script s → t.turns ≡ s.turns ++ rows_of plan
    → t.turns ≡ rows_of plan
rows_are script s t plan fresh turns = turns ∙ ap (λ rows. rows ++ rows_of plan) fresh.turns

lines_are : (script : Script) (t : Stage) (plan : List Planned) → t.turns ≡ rows_of plan → PlanFront script plan
    → lines_from script (empty_world script.scale) t.turns ≡ plan_lines (empty_world script.scale) plan
lines_are script t plan rows front = ap (lines_from script (empty_world script.scale)) rows ∙ front.text

abbrev AllAnswered : List TurnRow → Type 0
AllAnswered rows = All (λ (row : TurnRow). row.fate ≡ Answered) rows

stopped_front : (script : Script) (s t : Stage) → IsFresh script s
    → StoppedFrom (empty_world script.scale) (boots_plan 0 script.boots) s t → PlayedFront script s.held t.held t.turns
stopped_front script s t fresh p =
    let rows : t.turns ≡ rows_of p.front = rows_are script s t p.front fresh p.turns in
    let front : PlanFront script p.front = plan_front script p.front p.rest p.split in
    record {
      order = subst (IsInOrder script) (sym rows) front.order;
      answered = subst AllAnswered (sym rows) front.answered;
      put = PutFront-front s.held t.held (lines_from script (empty_world script.scale) t.turns) (end_line t.turns)
          (PutFront-of s.held t.held _ _ (lines_are script t p.front rows front) p.put);
    }

-- a run that stopped
pub played_err : {T : Type 0} (r : Result T PutFailed) (script : Script) (s t : Stage) → IsErr r → IsFresh script s
    → Stopped (boots_plan 0 script.boots) s t → HasPlayed r script s.held t.held t.turns
played_err (Ok x) script s t is fresh p = absurd (cc)
played_err (Err e) script s t is fresh p =
    stopped_front script s t fresh (p (empty_world script.scale) fresh.device fresh.can)

-- a run that went to its end, and then put the last line as far as it could
pub played_end : {T : Type 0} (r : Result T PutFailed) (script : Script) (s t : Stage) (held : Option (List ℕ))
    → IsFresh script s → Went (boots_plan 0 script.boots) s t → Puts t.held held r (end_line t.turns)
    → HasPlayed r script s.held held t.turns
played_end (Ok x) script s t held fresh went q =
    let plan = boots_plan 0 script.boots in
    let p = went (empty_world script.scale) fresh.device fresh.can in
    let rows : t.turns ≡ rows_of plan = rows_are script s t plan fresh p.turns in
    let front : PlanFront script plan = plan_front script plan [] (sym (append-nil plan)) in
    record {
      order = subst (IsInOrder script) (sym rows) front.order;
      answered = subst AllAnswered (sym rows) front.answered;
      fits = subst (Fits script) (sym rows) (plan_fits script);
      put = PutAll-more s.held t.held held (lines_from script (empty_world script.scale) t.turns) (end_line t.turns)
          (PutAll-of s.held t.held _ _ (lines_are script t plan rows front) p.put) q;
    }
played_end (Err e) script s t held fresh went q =
    let plan = boots_plan 0 script.boots in
    let p = went (empty_world script.scale) fresh.device fresh.can in
    let rows : t.turns ≡ rows_of plan = rows_are script s t plan fresh p.turns in
    let front : PlanFront script plan = plan_front script plan [] (sym (append-nil plan)) in
    record {
      order = subst (IsInOrder script) (sym rows) front.order;
      answered = subst AllAnswered (sym rows) front.answered;
      put = PutFront-more s.held t.held held (lines_from script (empty_world script.scale) t.turns) (end_line t.turns)
          (PutAll-of s.held t.held _ _ (lines_are script t plan rows front) p.put) q;
    }

-- no turns are in order
pub none_in_order : (script : Script) (rows : List TurnRow) → rows ≡ [] → IsInOrder script rows
none_in_order script rows none =
    subst (IsInOrder script) (sym none) (in_order script [] tt (IsFront-none (positions script)))

-- the whole text is a front of itself
PutFront-whole : (held held' : Option (List ℕ)) (text : List ℕ) → PutAll held held' text → PutFront held held' text
PutFront-whole held held' text p =
    PutFront-of held held' _ _ (sym (append-nil text)) (PutFront-all held held' text [] p)

-- a run has put a front of its text, however it ended
pub played_put : {T : Type 0} (r : Result T PutFailed) (script : Script) (held held' : Option (List ℕ))
    (rows : List TurnRow) → HasPlayed r script held held' rows → PutFront held held' (out script rows)
played_put (Ok x) script held held' rows p = PutFront-whole held held' (out script rows) p.put
played_put (Err e) script held held' rows p = p.put
