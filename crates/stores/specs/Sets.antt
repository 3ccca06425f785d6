-- What open, set and clear do, given what a store means: its shape and its cell at each index.
use Rattle.std.specs.Prelude.{◌≡◌, ℕ, Bool, cond, not, ◌&&◌, nat_lt}
use Rattle.voxels.specs.Cells.{in_range, put}
use Rattle.voxels.specs.Cubes.{blocks_needed}
use Rattle.voxels.specs.Refusals.{Told, taken, refused}
use Rattle.voxels.specs.Space.{voxel_count}
use Rattle.voxels.specs.declared.cells.Cell.{Cell}
use Rattle.stores.specs.Shapes.{Shape}

-- inside the map and not closed
abbrev pub is_open : Shape → ℕ → Bool
is_open shape i = nat_lt i (voxel_count shape.depth) && not (shape.closed i)

-- the cells after a set: where it was taken that cell alone is changed
abbrev pub cells_after : Told (Unit {0}) → (ℕ → Cell) → ℕ → Cell → ℕ → Cell
cells_after (taken _) cells i c = put cells i c
cells_after (refused number place) cells i c = cells

module _ (shape : Shape) (cells : ℕ → Cell) (i : ℕ) (c : Cell) where
  -- what a set of the cell at i to c tells: the smaller number decides
  unfoldable pub set_answer : Told (Unit {0})
  set_answer =
      cond (not (is_open shape i)) (refused 13 0)
      (cond (not (in_range c)) (refused 14 0)
      (cond (nat_lt shape.limit (blocks_needed shape.depth (put cells i c))) (refused 15 i)
      (taken tt)))

  -- a set that told this and left these cells
  pub record SetDone (answer : Told (Unit {0})) (after : ℕ → Cell) : Type 0 where
    pub tells : answer ≡ set_answer
    pub leaves : (j : ℕ) → after j ≡ cells_after answer cells i c j
