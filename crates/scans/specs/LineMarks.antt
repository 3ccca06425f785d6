-- The marks of the lines read so far.
use Rattle.std.specs.Prelude.{◌≡◌, ℕ, ◌+◌, ◌*◌, ◌<◌, ◌≤◌, cond, List, length, Ok, Err, Result, slice_index}
use Rattle.voxels.specs.Refusals.{taken, refused, number_of}
use Rattle.voxels.specs.declared.refusals.Refusal.{Refusal}
use Rattle.voxels.specs.Space.{voxel_at, voxel_count}
use Rattle.voxels.specs.declared.space.Position.{Position}
use Rattle.voxels.specs.declared.space.Voxel.{Voxel}
use Rattle.tracing.specs.Marks.{hit_mark, miss_mark}
use Rattle.scans.specs.Scans.{is_hit_by, is_passed_by}
use Rattle.scans.specs.Steps.{Stands, tells}
use Rattle.scans.specs.Texts.{Progress, nothing, since, Return, ScanText, read_text}
use Rattle.scans.specs.declared.reader.Reader.{Reader}

abbrev pub mark_by : Position → List Return → Voxel → ℕ
mark_by origin returns v = cond (is_hit_by returns v) hit_mark (cond (is_passed_by origin returns v) miss_mark 0)

abbrev pub mark_at : Progress → Voxel → ℕ
mark_at nothing v = 0
mark_at (since origin returns) v = mark_by origin returns v

-- the page has the marks of a progress
abbrev pub MarkedBy : ℕ → Progress → List ℕ → Type 0
MarkedBy depth progress page = (k : ℕ) → k < voxel_count depth → slice_index page k ≡ mark_at progress (voxel_at depth k)

-- few lines are short: how far a progress can have come
abbrev pub Reached : Progress → ℕ → Type 0
Reached nothing at = at ≤ 0
Reached (since o returns) at = (length returns ≤ 512) × (at ≤ 17 * (length returns + 1))

-- a reading of a text that has come to where a reader stands: at which progress, that the rest tells what the whole text does, and the marks
pub record ReadTo (depth : ℕ) (text : List ℕ) (reader : Reader) (words : List ℕ) : Type 0 where
  pub progress : Progress
  pub depth_is : reader.depth ≡ depth
  pub stands : Stands reader progress
  pub tells : tells reader progress ≡ read_text depth text
  pub marked : MarkedBy depth progress words
  pub reached : Reached progress reader.place

-- a reading to the end: refused as the text is, or the bytes used and the marks of all its lines
abbrev pub ReadMarks : ℕ → List ℕ → List ℕ → Result ℕ Refusal → Type 0
ReadMarks depth text page (Ok used) = (said : ScanText) × (read_text depth text ≡ taken said) × (used ≡ said.used) × MarkedBy depth (since said.origin said.returns) page
ReadMarks depth text page (Err e) = read_text depth text ≡ refused (number_of e.reason) e.place
