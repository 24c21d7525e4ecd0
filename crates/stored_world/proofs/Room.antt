-- A record of a lawful world has room in its row. Callers want `has_room`, `room_in` and `numbered`.
use Rattle.std.proofs.Common.{◌≡◌, Option}
use Rattle.apex_base.specs.declared.records.Part.{Part}
use Rattle.apex_base.specs.declared.records.Record.{Record}
use Rattle.apex_base.specs.declared.records.RollbackState.{RollbackState}
use Rattle.apex_base.specs.declared.records.State.{State}
use Rattle.apex_base.specs.declared.records.Target.{Target}
use Rattle.apex_base.specs.declared.records.Target.TheVariants as targets
use Rattle.apex_base.specs.Spelling.{IsRecord, IsPart, IsTarget}
use Rattle.apex_base.proofs.MemberLemmas.{each_in, in_each}
use Rattle.session_record.specs.Room.{HasRoom, HasPartNumber}

-- a target has a part number
pub numbered : (t : Target) → IsTarget t → HasPartNumber t
numbered targets.Preinstalled i = tt
numbered (targets.Module session part version) i = i.1

pub has_room : (r : Record) → IsRecord r → HasRoom r
has_room r is = record {
  few = is.few;
  numbers = in_each (λ (p : Part). HasPartNumber p.target) r.parts
      (λ p i. numbered p.target (each_in IsPart r.parts is.parts p i).target);
  count = is.count;
}

-- also in another state
pub room_in : (r s : Record) (b : State) (rollback : Option RollbackState) → IsRecord r
    → s ≡ record r { state = b; rollback = rollback } → HasRoom s
room_in r s b rollback is e =
    let room = has_room r is in
    rw e (record { few = room.few; numbers = room.numbers; count = room.count })
