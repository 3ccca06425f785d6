-- Scans whose lines are the same as a set have the same effect.
use Rattle.std.specs.Prelude.{◌≡◌, ℕ, ◌⊎◌, List, [], ◌∷◌}
use Rattle.voxels.specs.Refusals.{taken}
use Rattle.voxels.specs.Space.{voxel_count}
use Rattle.voxels.specs.declared.cells.Cell.{Cell}
use Rattle.stores.specs.Shapes.{Shape}
use Rattle.stores.specs.Sweeps.{sweep_answer, swept}
use Rattle.scans.specs.Scans.{scan_events}
use Rattle.scans.specs.Sweeps.{wanted_by}
use Rattle.scans.specs.Texts.{Return, ScanText, read_text}

abbrev pub Among : Return → List Return → Type 0
Among r [] = ⊥
Among r (s ∷ rs) = (r ≡ s) ⊎ Among r rs

abbrev pub EachAmong : List Return → List Return → Type 0
EachAmong rs others = (r : Return) → Among r rs → Among r others

-- one origin, and the same return lines in whatever order and however often
pub record SameLines (text other : ScanText) : Type 0 where
  pub origin : text.origin ≡ other.origin
  pub there : EachAmong text.returns other.returns
  pub back : EachAmong other.returns text.returns

-- two texts with the same lines refuse a scan at the same voxel, or set and skip as many voxels and leave the same cells
abbrev pub OrderFree : Shape → (ℕ → Cell) → List ℕ → Type 0
OrderFree shape cells bytes =
    (others : List ℕ) (text other : ScanText) → read_text shape.depth bytes ≡ taken text → read_text shape.depth others ≡ taken other → SameLines text other
    → (sweep_answer shape (wanted_by (scan_events shape.depth text) cells) cells ≡ sweep_answer shape (wanted_by (scan_events shape.depth other) cells) cells)
    × ((i : ℕ) → swept shape (wanted_by (scan_events shape.depth text) cells) cells (voxel_count shape.depth) i ≡ swept shape (wanted_by (scan_events shape.depth other) cells) cells (voxel_count shape.depth) i)
