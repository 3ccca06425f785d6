use Rattle.tracing.proofs.Turns.{Walked}
use Rattle.tracing.proofs.trace.Given as goal

abbrev pub invariant-loop-voxel : goal.invariant-loop-voxel
invariant-loop-voxel l = record {
  can : (goal.iterator-loop-voxel).can_next l.voxel-iterator;
  ends : (goal.iterator-loop-voxel).is_finite l.voxel-iterator;
  walked : Walked l.fn.ray.origin l.fn.ray.end l.depth l.initial.page l.page l.voxel-iterator;
}
