-- How cells, events and refusals are written out.
use Rattle.std.specs.Prelude.{ℕ, List, ◌++◌, codes}
use Rattle.std.specs.Fmt.{decimal, signed_decimal}
use Rattle.voxels.specs.Refusals.{number_of}
use Rattle.voxels.specs.declared.cells.Cell.{Cell}
use Rattle.voxels.specs.declared.cells.Cell.TheVariants.{Unknown, Known}
use Rattle.voxels.specs.declared.cells.Event.{Event}
use Rattle.voxels.specs.declared.cells.Event.TheVariants.{Hit, Miss}
use Rattle.voxels.specs.declared.refusals.Refusal.{Refusal}

abbrev pub cell_text : Cell → List ℕ
cell_text Unknown = codes "unknown"
cell_text (Known value) = signed_decimal value

abbrev pub event_text : Event → List ℕ
event_text Hit = codes "hit"
event_text Miss = codes "miss"

-- the number and the place
abbrev pub refusal_text : Refusal → List ℕ
refusal_text r = codes "refused " ++ decimal (number_of r.reason) ++ codes " at " ++ decimal r.place
