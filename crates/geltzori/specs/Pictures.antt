-- How a map is drawn.
use Rattle.std.specs.Prelude.{ℕ, Bool, true, false, List, map, Some, None, Option}
use Rattle.std.specs.List.{range_with_len}
use Rattle.stores.specs.Sets.{is_open}
use Rattle.stores.specs.Shapes.{Shape}
use Rattle.voxels.specs.Cells.{state_of}
use Rattle.voxels.specs.Space.{index_in, side}
use Rattle.voxels.specs.declared.cells.Cell.{Cell}
use Rattle.voxels.specs.declared.cells.State.{State}
use Rattle.voxels.specs.declared.cells.State.TheVariants.{Unknown, Free, Occupied}
use Rattle.voxels.specs.declared.space.Voxel.{Voxel}

-- x for a voxel that is not open, # . ? for an open one by its state
abbrev pub symbol_of : Bool → State → ℕ
symbol_of false s = 120
symbol_of true Occupied = 35
symbol_of true Free = 46
symbol_of true Unknown = 63

abbrev pub symbol_from : Shape → (ℕ → Cell) → Option ℕ → ℕ
symbol_from shape cell None = 120
symbol_from shape cell (Some i) = symbol_of (is_open shape i) (state_of (cell i))

-- a voxel's symbol by what the store means; a voxel outside the map is not open
abbrev pub symbol_at : Shape → (ℕ → Cell) → Voxel → ℕ
symbol_at shape cell v = symbol_from shape cell (index_in shape.depth v)

-- the symbol at x of the row at y and z
abbrev pub in_row : Shape → (ℕ → Cell) → ℕ → ℕ → ℕ → ℕ
in_row shape cell y z x = symbol_at shape cell record { x = x; y = y; z = z }

-- the row's symbols from x 0 up
abbrev pub row_of : Shape → (ℕ → Cell) → ℕ → ℕ → List ℕ
row_of shape cell y z = map (in_row shape cell y z) (range_with_len 0 (side shape.depth))
