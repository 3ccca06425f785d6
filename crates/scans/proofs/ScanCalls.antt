-- The scan call's answer, from those of its parts.
use Rattle.std.proofs.Common.{◌≡◌, ℕ, ◌<◌, List, ap, ◌∙◌}
use Rattle.voxels.specs.Space.{voxel_count}
use Rattle.voxels.specs.declared.cells.Cell.{Cell}
use Rattle.stores.specs.Sweeps.{wanted_by as wanted_of}
use Rattle.scans.specs.LineMarks.{MarkedBy}
use Rattle.scans.specs.Scans.{scan_events}
use Rattle.scans.specs.Sweeps.{mark_event, marked_cell, seen_cell, wanted_by}
use Rattle.scans.specs.Texts.{ScanText, since}
use Rattle.scans.proofs.LineMarking.{marks_say}

-- the marks of a text's lines say what its events do
pub marks_agree : (depth : ℕ) (text : ScanText) (cells : ℕ → Cell) (page : List ℕ) → MarkedBy depth (since text.origin text.returns) page → (k : ℕ) → k < voxel_count depth → wanted_of marked_cell page cells k ≡ wanted_by (scan_events depth text) cells k
marks_agree depth text cells page marked k inside = ap (λ e. seen_cell e (cells k)) (ap mark_event (marked k inside) ∙ marks_say text.origin text.returns _)
