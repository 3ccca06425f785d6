use Rattle.std.proofs.Common.{◌≡◌, ℕ, length, Option}
use Rattle.voxels.specs.declared.cells.Cell.{Cell}
use Rattle.stores.specs.Visits.{Midway}
use Rattle.stores.proofs.visits.take_back.Given as goal

abbrev pub invariant-loop-word : goal.invariant-loop-word
invariant-loop-word g l =
    let s = g.S.Store in
    let began = l.initial.store in
    (s.shape l.store ≡ s.shape began)
    × ((wanted : ℕ → Option Cell) (cells : ℕ → Cell) → Midway (s.shape began) wanted cells (s.cell began) l.words (length l.words) → Midway (s.shape began) wanted cells (s.cell l.store) l.left (length l.left))

abbrev pub decreases-loop-word : goal.decreases-loop-word
decreases-loop-word g l = length l.left
