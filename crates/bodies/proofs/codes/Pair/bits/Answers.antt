use Rattle.std.proofs.Common.{arith}
use Rattle.bodies.proofs.Packing.{low_bits, high_bits}
use Rattle.bodies.proofs.codes.Pair.bits.Goals as goal

pub returns-then-child-lt4 : goal.returns-then-child-lt4
returns-then-child-lt4 c = low_bits c.args.self.first c.args.self.second c.args.child (omega arith)

pub returns-else-child-lt4 : goal.returns-else-child-lt4
returns-else-child-lt4 c = high_bits c.args.self.first c.args.self.second c.args.child (omega arith)
