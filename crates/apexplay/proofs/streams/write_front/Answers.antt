use Rattle.std.proofs.Common.{◌≤◌, ℕ, ◌+◌, ◌-◌, ◌++◌, length, take, drop, sym, ap, subst, ◌∙◌, arith, length-take}
use lib.Seq.{take-add, take-take}
use Rattle.std.specs.Io.KnownBytes.{Appends}
use Rattle.std.proofs.KnownBytes.{Appends-trans, Appends-kept}
use Rattle.apexplay.proofs.streams.write_front.Goals as goal
use Rattle.apexplay.proofs.streams.write_front.Goals.{in-Ok, in-Err+else-ne}

pub loop-preserved : goal.loop-preserved
loop-preserved g c =
    let done = c.loop.written in
    let xs = c.args.bytes.now in
    let before = c.loop.invariant in
    let most = length-take (length xs - done) (drop done xs) in
    let Written : ℕ → Type 0 =
    λ n. Appends (g.W.Write.contents c.args.to.now) (g.W.Write.contents c.write.new.self) (take n xs) in
    elim c.match-write.branch [
      | in-Ok w ↦
          let n = w.in-Ok.n in
          let more : n ≤ length xs - done = omega (arith, w.in-Ok.ensures.bound, most) in
          let joined = ap (λ l. take done xs ++ l) (take-take n (length xs - done) (drop done xs) more)
          ∙ sym (take-add done n xs) in
          let all : Written (done + n) =
          subst (Appends _ _) joined (Appends-trans _ _ _ _ _ before.written w.in-Ok.ensures.bytes) in
          record { within = omega arith; written = subst Written (sym w.written-is) all }
      | in-Err+else-ne w ↦
          record {
            within = omega arith;
            written = subst Written (sym w.written-is) (Appends-kept _ _ _ _ before.written w.in-Err.ensures.bytes);
          }
    ]
