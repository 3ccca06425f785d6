use Rattle.std.proofs.Common.{arith}
use Rattle.voxels.proofs.Indices.{bits_of}
use Rattle.bodies.proofs.CubeSizes.{size_small}
use Rattle.bodies.proofs.cubes.Cube.size.Goals as goal

pub returns : goal.returns
returns c = omega (arith, bits_of c.args.self.level, size_small c.args.self.level c.args.self.shallow)
