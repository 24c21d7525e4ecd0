-- Calls that move one session of a simple world. Callers want `Moving` and the lemmas on it, `refused_is`, `is_found`,
-- `record_is`, `no_record`, `read_is`, `moved_from`, `has_room_moved`, `one_target` and `one_part`.
use Rattle.std.proofs.Common.{◌≡◌, ◌≤◌, ℕ, Bool, true, false, eqb, eqb-true, List, [], ◌∷◌, map, length, slice_set}
use Rattle.std.proofs.Common.{get_or, Option, Some, None, sym, ap, subst, ◌∙◌, refl, inl, inr, arith, ◌||◌}
use Rattle.std.proofs.lemmas.Bool.{false≢true}
use Rattle.std.proofs.lemmas.Option.{slice_get_read}
use Rattle.apex_base.specs.declared.moves.Move.{Move}
use Rattle.apex_base.specs.declared.numbers.SessionId.{SessionId}
use Rattle.apex_base.specs.declared.records.Part.{Part}
use Rattle.apex_base.specs.declared.records.Record.{Record}
use Rattle.apex_base.specs.declared.records.RollbackState.{RollbackState}
use Rattle.apex_base.specs.declared.records.State.{State}
use Rattle.apex_base.specs.declared.records.Target.{Target}
use Rattle.apex_base.specs.declared.refusal.Refusal.{Refusal}
use Rattle.apex_base.specs.Held.{is_module, is_target}
use Rattle.apex_base.specs.Keys.{RecordOf, RowMap, key_text}
use Rattle.apex_base.specs.Members.{In}
use Rattle.apex_base.specs.Moves.{rollback_after}
use Rattle.apex_base.specs.Sessions.{session_of, with_session}
use Rattle.apex_base.specs.Spelling.{IsRecord}
use Rattle.apex_base.proofs.SessionLemmas.{of_found}
use Rattle.row_codec.specs.declared.batch.Row.{Row}
use Rattle.row_map.specs.Rows.{changed}
use Rattle.row_map.specs.Room.{in_batch}
use Rattle.row_map.proofs.Maps.{itself}
use Rattle.session_record.specs.Room.{HasRoom}
use Rattle.apex_world.specs.declared.calls.Call.{Call}
use Rattle.apex_world.specs.declared.calls.Reply.TheVariants as reply
use Rattle.apex_world.specs.Advance.{move_to, move_found, move_session}
use Rattle.world_laws.specs.Invariance.{IsCall}
use Rattle.apex_world.specs.Lawful.{Lawful}
use Rattle.apex_world.specs.Limits.{units}
use Rattle.apex_world.specs.Rows.{rows}
use Rattle.apex_world.specs.Running.{Running}
use Rattle.apex_world.specs.Step.{step}
use Rattle.apex_world.specs.Stepped.{Stepped, refused, done}
use Rattle.apex_world.specs.World.{World}
use Rattle.world_laws.proofs.runs.CallsRun.{calls_run}
use Rattle.world_facts.proofs.facts.WorldRows.{same_id}
use Rattle.call_judge.specs.declared.judged.Judged.{Judged}
use Rattle.call_judge.specs.declared.judged.Patch.TheVariants.{Nothing}
use Rattle.call_judge.specs.declared.tables.Tables.{Tables}
use Rattle.call_judge.specs.Ending.{record_change}
use Rattle.call_judge.specs.Stands.{StandsFor}
use Rattle.stored_world.specs.Stored.{IsSimple}
use Rattle.call_judge.specs.Judged.{IsJudged, RunsOn, patched, clock_after, units_after, unfinished_after}
use Rattle.call_judge.specs.Unfinished.{unfinished_with, left_to}
use Rattle.call_judge.specs.Moving.{Moves}
use Rattle.call_judge.specs.Taken.{first_of}
use Rattle.call_judge.proofs.Judgements.{found_in, is_record, quiet_is}
use Rattle.stored_world.proofs.Room.{room_in}
use Rattle.call_judge.proofs.Simple.{move_simple, move_units}
use Rattle.call_judge.proofs.UnfinishedSessions.{left_moved}

-- The row of a record

no_record_if : (r : Record) (j : SessionId) (c : Bool) (rest : List Row) → eqb j.0 r.id.0 ≡ c
    → in_batch (key_text (RecordOf j)) (record_change r ∷ rest) ≡ false → c ≡ false
no_record_if r j false rest e none = refl
no_record_if r j true rest e none =
    let one : j ≡ r.id = same_id j r.id (eqb-true _ _ e) in
    let here : in_batch (key_text (RecordOf j)) (record_change r ∷ rest) ≡ true =
    ap (λ (i : SessionId). in_batch (key_text (RecordOf i)) (record_change r ∷ rest)) one
    ∙ ap (λ (c : Bool). c || in_batch (key_text (RecordOf r.id)) rest) (itself (key_text (RecordOf r.id))) in
    absurd (false≢true (sym none ∙ here))

-- a record whose row isn't in the batch has another id
pub no_record : (r : Record) (j : SessionId) (rest : List Row)
    → in_batch (key_text (RecordOf j)) (record_change r ∷ rest) ≡ false → eqb j.0 r.id.0 ≡ false
no_record r j rest none = no_record_if r j (eqb j.0 r.id.0) rest refl none

-- The session that moves

same_some : {X : Type 0} (x y : X) → Some x ≡ Some y → x ≡ y
same_some x y e = cc

-- what is read at its place is the session
pub read_is : (xs : List Record) (id : SessionId) (by : Move) (place : ℕ) (next : State) (m : Moves xs id by place next)
    (r : Record) → r ≡ get_or xs place r → r ≡ m.session
read_is xs id by place next m r e =
    same_some r m.session (sym (slice_get_read xs (length xs) place r refl m.low e) ∙ m.here)

-- also in another state
pub moved_from : (r s session : Record) (b : State) → r ≡ s → session ≡ record r { state = b; rollback = r.rollback }
    → session ≡ record s { state = b; rollback = s.rollback }
moved_from r s session b e same = same ∙ ap (λ (x : Record). record x { state = b; rollback = x.rollback }) e

-- One part

pub or_false : (b : Bool) → (b || false) ≡ b
or_false true = refl
or_false false = refl

-- where there is one part at most, the targets are that of the first
pub one_target : (target : Part → Target) (ps : List Part) → length ps ≤ 1 → (session : SessionId) (part : ℕ)
    → is_target (map target ps) session part ≡ is_module session part (first_of target ps)
one_target target [] low session part = refl
one_target target (p ∷ []) low session part = or_false (is_module session part (target p))
one_target target (p ∷ q ∷ ps) low session part = absurd (omega (arith, low))

few_if : {X Y : Type 0} (xs : List X) (ys : List Y) → xs ≡ [] → length xs ≡ length ys → length ys ≤ 1
few_if xs ys e same = omega (arith, ap (λ zs. length zs) e, same)

-- a session without children has one part at most
pub one_part : (w : World) → Lawful w → IsSimple w → (r : Record) → In r w.sessions → length r.parts ≤ 1
one_part w law simple r i = elim (law.parts r i).count [
  | inl both ↦ omega (arith, both.1)
  | inr same ↦ few_if r.children r.parts (simple.childless r i) same
]

-- A call that is refused

pub refused_is : (kept : RowMap) (tables : Tables) (w : World) (s : StandsFor kept tables w) (call : Call) (clock : ℕ)
    (id : SessionId) (by : Move) → step w call ≡ move_session w clock id by → (judged : Judged) (why : Refusal)
    → ((v : World) (clock : ℕ) → tables.sessions.items ≡ v.sessions → move_session v clock id by ≡ refused v why)
    → judged.reply ≡ reply.Refused why → judged.rows.items ≡ [] → judged.patch ≡ Nothing → IsJudged judged kept w call
refused_is kept tables w s call clock id by called judged why refuses says none nothing =
    quiet_is kept tables w s judged call (refused w why) (called ∙ refuses w clock s.sessions) refl says none nothing

-- A call that moves a session

module _ (kept : RowMap) (tables : Tables) (w : World) (s : StandsFor kept tables w) (id : SessionId) (by : Move)
    (place : ℕ) (next : State) (m : Moves tables.sessions.items id by place next) where
  pub is_found : session_of w.sessions id ≡ Some m.session
  is_found = found_in kept tables w s id (Some m.session) m.found

  pub is_among : In m.session w.sessions
  is_among = (of_found w.sessions id m.session is_found).0

  pub record_is : IsRecord m.session
  record_is = is_record kept tables w s id m.session m.found

  -- its record has room in another state too
  pub has_room_moved : (session : Record)
      → session ≡ record m.session { state = next; rollback = m.session.rollback } → HasRoom session
  has_room_moved session same = room_in m.session session next m.session.rollback record_is same

-- the call, the session where it stands, and what it becomes
pub record Moving : Type 0 where
  pub kept : RowMap
  pub tables : Tables
  pub w : World
  pub stands : StandsFor kept tables w
  pub call : Call
  pub is_call : IsCall call
  pub clock : ℕ
  pub id : SessionId
  pub by : Move
  pub called : step w call ≡ move_session w clock id by
  pub stays : rollback_after by None ≡ None
  pub place : ℕ
  pub next : State
  pub moves : Moves tables.sessions.items id by place next
  pub session : Record
  pub same : session ≡ record moves.session { state = next; rollback = moves.session.rollback }

-- the world that the call leads to
abbrev pub left_by : Moving → World
left_by g = record g.w { sessions = with_session g.session g.w.sessions; clock = g.clock }

module _ (g : Moving) where
  its_place : session_of g.w.sessions g.id ≡ Some g.moves.session
  its_place = is_found g.kept g.tables g.w g.stands g.id g.by g.place g.next g.moves

  pub its_id : g.session.id ≡ g.moves.session.id
  its_id = ap (λ (r : Record). r.id) g.same

  own_rollback : rollback_after g.by g.moves.session.rollback ≡ g.moves.session.rollback
  own_rollback =
      let none = (g.stands.simple.plain.sessions g.moves.session
      (of_found g.w.sessions g.id g.moves.session its_place).0).rollback in
      ap (rollback_after g.by) none ∙ g.stays ∙ sym none

  pub session_is : record g.moves.session { state = g.next; rollback = rollback_after g.by g.moves.session.rollback }
      ≡ g.session
  session_is =
      ap (λ (o : Option RollbackState). record g.moves.session { state = g.next; rollback = o }) own_rollback
      ∙ sym g.same

  pub step_is : step g.w g.call ≡ done (left_by g)
  step_is =
      g.called ∙ ap (move_found g.w g.clock g.id g.by) its_place
      ∙ ap (move_to g.w g.clock g.moves.session g.by) g.moves.goes
      ∙ ap (λ (r : Record). done (record g.w { sessions = with_session r g.w.sessions; clock = g.clock })) session_is

  put_is : with_session g.session g.tables.sessions.items ≡ slice_set g.tables.sessions.items g.place g.session
  put_is = g.moves.put g.session
      (its_id ∙ same_id g.moves.session.id g.id (of_found g.w.sessions g.id g.moves.session its_place).1)

  pub runs_on : Running (left_by g)
  runs_on = subst (λ (y : Stepped). Running y.world) step_is (calls_run g.w g.stands.running g.call g.is_call)

  pub stays_simple : IsSimple (left_by g)
  stays_simple = subst (λ (y : Stepped). IsSimple y.world) (sym g.called ∙ step_is)
      (move_simple g.w g.stands.simple g.clock g.id g.by)

  -- what it judges
  pub moved_is : (judged : Judged) → judged.reply ≡ reply.Done
      → changed (rows g.w) judged.rows.items ≡ rows (left_by g)
      → patched judged.patch g.w.sessions ≡ slice_set g.w.sessions g.place g.session
      → clock_after judged.patch g.w.clock ≡ g.clock → units_after judged.patch (units g.w) ≡ units g.w
      → ((name : List ℕ) → unfinished_after judged.patch name (unfinished_with g.w.sessions name)
      ≡ left_to g.session name (unfinished_with g.w.sessions name))
      → IsJudged judged g.kept g.w g.call
  moved_is judged says leads puts rises counts leaves = record {
    reply = says ∙ sym (ap (λ (y : Stepped). y.reply) step_is);
    running = calls_run g.w g.stands.running g.call g.is_call;
    simple = subst (λ (y : Stepped). IsSimple y.world) (sym step_is) stays_simple;
    stored = ap (λ (k : RowMap). changed k judged.rows.items) g.stands.stored ∙ leads
        ∙ sym (ap (λ (y : Stepped). rows y.world) step_is);
    sessions = puts
        ∙ sym (subst (λ (ss : List Record). with_session g.session ss ≡ slice_set ss g.place g.session)
        g.stands.sessions put_is)
        ∙ sym (ap (λ (y : Stepped). y.world.sessions) step_is);
    clock = rises ∙ sym (ap (λ (y : Stepped). y.world.clock) step_is);
    units = counts ∙ sym (move_units g.w g.stands.simple g.clock g.id g.by)
        ∙ sym (ap (λ (y : Stepped). units y.world) g.called);
    unfinished = λ name. leaves name
        ∙ left_moved g.w (left_by g) g.stands.running.lawful runs_on.lawful g.id g.moves.session g.session g.next
        g.moves.session.rollback g.by its_place g.same g.moves.goes refl name
        ∙ sym (ap (λ (y : Stepped). unfinished_with y.world.sessions name) step_is);
    rest = subst (λ (y : Stepped). RunsOn g.w y.world) (sym step_is)
        (record { scale = refl; image = refl; active = refl });
  }
