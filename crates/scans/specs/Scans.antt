-- What a scan does, said of the set of its lines.
use Rattle.std.specs.Prelude.{ℕ, Bool, cond, ◌&&◌, List, Some, None, Option}
use Rattle.std.specs.List.{list_any}
use Rattle.voxels.specs.Pages.{over_page}
use Rattle.voxels.specs.Refusals.{Told, taken, refused}
use Rattle.voxels.specs.Space.{voxel_at, voxel_count, voxel_of}
use Rattle.voxels.specs.declared.cells.Cell.{Cell}
use Rattle.voxels.specs.declared.cells.Event.{Event}
use Rattle.voxels.specs.declared.cells.Event.TheVariants.{Hit, Miss}
use Rattle.voxels.specs.declared.space.Position.{Position}
use Rattle.voxels.specs.declared.space.Voxel.{Voxel}
use Rattle.tracing.specs.Lines.{passes, same_voxel}
use Rattle.stores.specs.Shapes.{Shape}
use Rattle.stores.specs.Sweeps.{sweep_answer, swept}
use Rattle.stores.specs.declared.visits.Swept.{Swept}
use Rattle.scans.specs.Sweeps.{wanted_by}
use Rattle.scans.specs.declared.calls.Scanned.{Scanned}
use Rattle.scans.specs.Texts.{Return, ScanText, read_text}

-- an H line ends in the voxel
abbrev pub ends_in : Voxel → Return → Bool
ends_in v r = r.is_hit && same_voxel (voxel_of r.end) v

abbrev pub is_hit_by : List Return → Voxel → Bool
is_hit_by returns v = list_any (ends_in v) returns

-- a line passes it
abbrev pub is_passed_by : Position → List Return → Voxel → Bool
is_passed_by origin returns v = list_any (λ r. passes origin r.end v) returns

-- a voxel is hit when an H line ends in it, and missed when a line passes it and it is not hit
abbrev pub seen_by : Position → List Return → Voxel → Option Event
seen_by origin returns v = cond (is_hit_by returns v) (Some Hit) (cond (is_passed_by origin returns v) (Some Miss) None)

abbrev pub scan_events : ℕ → ScanText → ℕ → Option Event
scan_events depth text i = seen_by text.origin text.returns (voxel_at depth i)

abbrev pub with_used : ℕ → Told Swept → Told Scanned
with_used used (taken swept) = taken (record { used = used; set = swept.set; skipped = swept.skipped })
with_used used (refused number place) = refused number place

module _ (shape : Shape) (cells : ℕ → Cell) where
  -- what a scan of a text that says this tells, and the cells afterwards
  abbrev pub text_answer : Told ScanText → Told Scanned
  text_answer (taken text) = with_used text.used (sweep_answer shape (wanted_by (scan_events shape.depth text) cells) cells)
  text_answer (refused number place) = refused number place

  abbrev pub text_cells : Told ScanText → ℕ → Cell
  text_cells (taken text) = swept shape (wanted_by (scan_events shape.depth text) cells) cells (voxel_count shape.depth)
  text_cells (refused number place) = cells

  -- the answer with a page of so many words: 1 or 2 for the page, then what the text is refused by, then 15
  abbrev pub scan_answer : ℕ → List ℕ → Told Scanned
  scan_answer words text = over_page shape.depth words (text_answer (read_text shape.depth text))

  -- all events applied where the scan was taken, else the cells as they were
  abbrev pub scan_cells : Told Scanned → List ℕ → ℕ → Cell
  scan_cells (taken answer) text = text_cells (read_text shape.depth text)
  scan_cells (refused number place) text = cells
