use Rattle.std.proofs.Common.{arith}
use Rattle.voxels.proofs.Indices.{voxel_back}
use Rattle.voxels.proofs.space.Voxel.at.Goals as goal

pub returns-clause-back : goal.returns-clause-back
returns-clause-back c =
    let back = voxel_back c.args.depth c.args.index (omega arith) in
    cc
