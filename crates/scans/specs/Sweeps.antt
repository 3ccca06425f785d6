-- What a scan lets voxels become: a cell that sees an event is the updated cell.
use Rattle.std.specs.Prelude.{ℕ, cond, Some, None, Option, ◌==◌}
use Rattle.voxels.specs.Cells.{updated}
use Rattle.voxels.specs.declared.cells.Cell.{Cell}
use Rattle.voxels.specs.declared.cells.Event.{Event}
use Rattle.voxels.specs.declared.cells.Event.TheVariants.{Hit, Miss}
use Rattle.tracing.specs.Marks.{hit_mark, miss_mark}

-- what a mark on the work page says of its voxel
abbrev pub mark_event : ℕ → Option Event
mark_event w = cond (w == miss_mark) (Some Miss) (cond (w == hit_mark) (Some Hit) None)

-- what a cell is to become by what was seen of its voxel
abbrev pub seen_cell : Option Event → Cell → Option Cell
seen_cell None c = None
seen_cell (Some e) c = Some (updated c e)

-- what each voxel is to become by what was seen of it
abbrev pub wanted_by : (ℕ → Option Event) → (ℕ → Cell) → ℕ → Option Cell
wanted_by events cells i = seen_cell (events i) (cells i)

-- what a cell is to become by its voxel's mark
abbrev pub marked_cell : ℕ → Cell → Option Cell
marked_cell mark c = seen_cell (mark_event mark) c
