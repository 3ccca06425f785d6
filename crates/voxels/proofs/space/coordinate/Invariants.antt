use Rattle.std.proofs.Common.{◌≡◌, ◌/◌, ◌^◌}
use Rattle.voxels.specs.Space.{axis_number, coordinate}
use Rattle.voxels.proofs.space.coordinate.Given as goal

abbrev pub invariant-loop-level : goal.invariant-loop-level
invariant-loop-level l = (l.weight ≡ 2 ^ l._level) × (l.rest ≡ l.index / 8 ^ l._level) × (l.coordinate ≡ coordinate (axis_number l.axis) l._level l.index)
