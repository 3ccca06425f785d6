use Rattle.std.proofs.Common.{arith}
use Rattle.voxels.proofs.Blocks.{count_small, within_most}
use Rattle.voxels.proofs.cubes.most_blocks.Goals as goal

pub overflow_cast-result : goal.overflow_cast-result
overflow_cast-result c = omega (arith, count_small c.args.depth)

pub returns-clause-enough : goal.returns-clause-enough
returns-clause-enough c = within_most c.args.depth
