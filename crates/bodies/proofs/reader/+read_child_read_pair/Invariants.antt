use Rattle.std.proofs.Common.{◌+◌, ◌-◌, ◌*◌, ◌^◌, false, drop}
use Rattle.bodies.specs.Codes.{child_code}
use Rattle.bodies.specs.Readings.{read_pair}
use Rattle.bodies.proofs.ReadingOn.{Reached}
use Rattle.bodies.proofs.reader.+read_child_read_pair.Given as goal

abbrev pub decreases-read_child : goal.decreases-read_child
decreases-read_child l = 2 * l.cube.level + 1

abbrev pub decreases-read_pair : goal.decreases-read_pair
decreases-read_pair l = 2 * l.cube.level

abbrev pub invariant-read_pair-loop-child : goal.invariant-read_pair-loop-child
invariant-read_pair-loop-child l =
    let level = l.cube.level - 1 in
    Reached (read_pair level false) (8 ^ level) (child_code l.pair.first l.pair.second) (l.body.at + 2) (drop 2 l.body.bytes.now) l.initial.words l.words l.cube.first l.child l.left.at l.left.bytes.now
