-- The effect on the cells of a sweep that gives voxels new cells, without a loop. Voxels are changed one by one in rising index, but what stands after each can be said at once.
use Rattle.std.specs.Prelude.{ℕ, suc, Bool, cond, not, ◌&&◌, is_some, Some, None, List, Option, nat_lt, slice_index}
use Rattle.voxels.specs.Bounded.{count, first}
use Rattle.voxels.specs.Cubes.{blocks_needed}
use Rattle.voxels.specs.Refusals.{Told, taken, refused}
use Rattle.voxels.specs.Space.{voxel_count}
use Rattle.voxels.specs.declared.cells.Cell.{Cell}
use Rattle.stores.specs.Sets.{is_open}
use Rattle.stores.specs.Shapes.{Shape}
use Rattle.stores.specs.declared.visits.Swept.{Swept}

-- a cell after what its voxel is to become
abbrev pub became : Option Cell → Cell → Cell
became None c = c
became (Some v) c = v

-- what the words of a page say that voxels are to become, where `says` is what a word says of a cell
abbrev pub wanted_by : (ℕ → Cell → Option Cell) → List ℕ → (ℕ → Cell) → ℕ → Option Cell
wanted_by says page cells i = says (slice_index page i) (cells i)

-- refused 15 at a voxel, if there is one
abbrev pub past_or : Option ℕ → Swept → Told Swept
past_or None swept = taken swept
past_or (Some i) swept = refused 15 i

module _ (shape : Shape) (wanted : ℕ → Option Cell) (cells : ℕ → Cell) where
  -- an open voxel that is to become something
  abbrev pub is_set : ℕ → Bool
  is_set i = is_open shape i && is_some (wanted i)

  -- a closed one
  abbrev pub is_skipped : ℕ → Bool
  is_skipped i = not (is_open shape i) && is_some (wanted i)

  -- the cells when every open voxel below n has become what it is to
  abbrev pub swept : ℕ → ℕ → Cell
  swept n i = cond (nat_lt i n && is_set i) (became (wanted i) (cells i)) (cells i)

  -- the set of this voxel needs more blocks than the limit
  unfoldable pub passes_limit : ℕ → Bool
  passes_limit i = is_set i && nat_lt shape.limit (blocks_needed shape.depth (swept (suc i)))

  -- taken where no set passes the limit; else refused at the first voxel whose set does
  unfoldable pub sweep_answer : Told Swept
  sweep_answer = past_or (first (voxel_count shape.depth) passes_limit) (record { set = count (voxel_count shape.depth) is_set; skipped = count (voxel_count shape.depth) is_skipped })

  -- all voxels swept, or, where it is refused, none
  abbrev pub swept_cells : Told Swept → ℕ → Cell
  swept_cells (taken figures) = swept (voxel_count shape.depth)
  swept_cells (refused number place) = cells
