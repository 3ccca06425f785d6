use Rattle.std.proofs.Common.{◌≡◌, ◌^◌, ◌≤◌}
use Rattle.voxels.specs.Space.{index_of}
use Rattle.voxels.proofs.space.Voxel.index.Given as goal

abbrev pub invariant-loop-level : goal.invariant-loop-level
invariant-loop-level l = (l.weight ≡ 8 ^ l.level) × (l.index ≡ index_of l.level l.self) × (l.depth ≤ 5)
