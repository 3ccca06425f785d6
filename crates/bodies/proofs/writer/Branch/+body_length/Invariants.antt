use Rattle.std.proofs.Common.{◌≡◌, ◌+◌, length}
use Rattle.bodies.proofs.PairCodes.{under}
use Rattle.bodies.proofs.writer.Branch.+body_length.Given as goal

abbrev pub decreases-body_length : goal.decreases-body_length
decreases-body_length l = l.self.cube.level

abbrev pub invariant-loop-child : goal.invariant-loop-child
invariant-loop-child l = l.length ≡ 2 + length (under l.self l.child)
