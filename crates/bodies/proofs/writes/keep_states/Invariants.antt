use Rattle.std.proofs.Common.{◌≡◌, ℕ, ◌<◌, get_or}
use Rattle.voxels.specs.Cells.{state_of}
use Rattle.bodies.specs.Codes.{state_code}
use Rattle.bodies.proofs.writes.keep_states.Given as goal

abbrev pub invariant-loop-index : goal.invariant-loop-index
invariant-loop-index g l = (k : ℕ) → k < l.index → get_or l.words k 0 ≡ state_code (state_of (g.S.Store.cell l.store k))
