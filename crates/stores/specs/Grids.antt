-- A flat grid's memory: one 16-bit word for each voxel, at its index.
use Rattle.std.specs.Prelude.{ℕ, false, cond, ◌&&◌, List, nat_le, nat_lt, slice_index}
use Rattle.voxels.specs.Cells.{word_cell}
use Rattle.voxels.specs.Cubes.{most_blocks}
use Rattle.voxels.specs.Space.{is_depth, voxel_count}
use Rattle.voxels.specs.declared.cells.Cell.{Cell}
use Rattle.voxels.specs.declared.cells.Cell.TheVariants.{Unknown}
use Rattle.stores.specs.Shapes.{Shape}

-- the cell at an index of a grid of that depth over these words
abbrev pub grid_cell : ℕ → List ℕ → ℕ → Cell
grid_cell depth words i = cond (nat_lt i (voxel_count depth)) (word_cell (slice_index words i)) Unknown

-- a grid closes nothing, and has room for all that a map of its depth can need
abbrev pub grid_shape : ℕ → Shape
grid_shape depth = record { depth = depth; closed = λ _. false; limit = most_blocks depth }

-- the depth that a grid gets: the one asked for, or 0 where that is no depth or there are too few words
abbrev pub grid_depth : ℕ → ℕ → ℕ
grid_depth depth words = cond (is_depth depth && nat_le (voxel_count depth) words) depth 0
