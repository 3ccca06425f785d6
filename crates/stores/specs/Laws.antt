-- What holds of every store, whatever is done to it.
use Rattle.std.specs.Prelude.{◌≡◌, ℕ, ◌≤◌, true}
use Rattle.voxels.specs.Cells.{in_range}
use Rattle.voxels.specs.Cubes.{blocks_needed}
use Rattle.voxels.specs.Space.{voxel_count}
use Rattle.voxels.specs.declared.cells.Cell.{Cell}
use Rattle.voxels.specs.declared.cells.Cell.TheVariants.{Unknown}
use Rattle.stores.specs.Shapes.{Shape}

pub record Lawful {S : Type 0} (shape : S → Shape) (cell : S → ℕ → Cell) : Type 0 where
  pub shallow : (s : S) → (shape s).depth ≤ 5
  -- cells are unknown outside the map and numbers in the range inside
  pub outside : (s : S) (i : ℕ) → voxel_count (shape s).depth ≤ i → cell s i ≡ Unknown
  pub ranged : (s : S) (i : ℕ) → in_range (cell s i) ≡ true
  -- a store without a voxel has room for no block; any other for as many as its cells need, which is 1 or more
  pub none : (s : S) → (shape s).depth ≡ 0 → (shape s).limit ≡ 0
  pub enough : (s : S) → 1 ≤ (shape s).depth → blocks_needed (shape s).depth (cell s) ≤ (shape s).limit
