use Rattle.std.proofs.Common.{arith}
use Rattle.bodies.proofs.CubeSizes.{size_small}
use Rattle.bodies.proofs.cubes.Cube.root.Goals as goal

pub invariant_of-result : goal.invariant_of-result
invariant_of-result c = record { shallow = c.requires; inside = omega (arith, size_small c.args.depth c.requires) }
