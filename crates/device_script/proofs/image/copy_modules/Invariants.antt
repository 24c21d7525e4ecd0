use Rattle.std.proofs.Common.{◌≡◌, take}
use Rattle.device_script.proofs.image.copy_modules.Given as goal

-- the copies so far
abbrev pub invariant-loop-m : goal.invariant-loop-m
invariant-loop-m l = l.copy ≡ take l.m-index l.modules
