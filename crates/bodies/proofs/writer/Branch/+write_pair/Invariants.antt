use Rattle.std.proofs.Common.{◌≡◌, ◌∷◌, length}
use Rattle.bodies.specs.Writes.{at_front}
use Rattle.bodies.proofs.PairCodes.{under}
use Rattle.bodies.proofs.writer.Branch.+write_pair.Given as goal

abbrev pub decreases-write_pair : goal.decreases-write_pair
decreases-write_pair l = l.self.cube.level

abbrev pub invariant-loop-child : goal.invariant-loop-child
invariant-loop-child l =
    let bytes = l.pair.first ∷ l.pair.second ∷ under l.self l.child in
    (l.end ≡ length bytes) × (l.output ≡ at_front bytes l.fn.output)
