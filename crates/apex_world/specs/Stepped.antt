-- What a call leaves: a world and a reply. docs/calls.md.
use Rattle.std.specs.Prelude.{Result, Ok, Err}
use Rattle.apex_base.specs.declared.refusal.Refusal.{Refusal}
use Rattle.apex_world.specs.declared.calls.Reply.{Reply}
use Rattle.apex_world.specs.declared.calls.Reply.TheVariants as reply
use Rattle.apex_world.specs.World.{World}

-- a world after a call, and the reply
pub record Stepped : Type 0 where
  pub world : World
  pub reply : Reply

-- a refusal changes nothing
abbrev pub refused : World → Refusal → Stepped
refused w refusal = record { world = w; reply = reply.Refused refusal }

abbrev pub done : World → Stepped
done w = record { world = w; reply = reply.Done }

-- a world, or a refusal
abbrev pub replied : World → Result World Refusal → Stepped
replied w (Ok after) = done after
replied w (Err refusal) = refused w refusal

-- the answer of a call, or a refusal
abbrev pub answered : World → Result Stepped Refusal → Stepped
answered w (Ok stepped) = stepped
answered w (Err refusal) = refused w refusal
