-- The symbols of a row are ASCII, so each is one byte of its text.
use Rattle.std.proofs.Common.{◌≡◌, ℕ, ◌<◌, Bool, true, false, List, [], ◌∷◌, map, Some, None, Option, refl, lit<}
use lib.Utf8.{encodes}
use Rattle.std.proofs.lemmas.Str.Ascii.{encode_ascii}
use Rattle.stores.specs.Sets.{is_open}
use Rattle.stores.specs.Shapes.{Shape}
use Rattle.voxels.specs.Cells.{state_of}
use Rattle.voxels.specs.Space.{index_in}
use Rattle.voxels.specs.declared.cells.Cell.{Cell}
use Rattle.voxels.specs.declared.cells.State.{State}
use Rattle.voxels.specs.declared.cells.State.TheVariants.{Unknown, Free, Occupied}
use Rattle.geltzori.specs.Pictures.{in_row, row_of, symbol_from, symbol_of}

of_ascii : (b : Bool) (s : State) → symbol_of b s < 128
of_ascii false s = lit< tt
of_ascii true Occupied = lit< tt
of_ascii true Free = lit< tt
of_ascii true Unknown = lit< tt

from_ascii : (shape : Shape) (cell : ℕ → Cell) (o : Option ℕ) → symbol_from shape cell o < 128
from_ascii shape cell None = lit< tt
from_ascii shape cell (Some i) = of_ascii (is_open shape i) (state_of (cell i))

each : (f : ℕ → ℕ) → ((x : ℕ) → f x < 128) → (xs : List ℕ) → encodes (map f xs) ≡ map f xs
each f low [] = refl
each f low (x ∷ xs) = rw (encode_ascii (f x) (low x), each f low xs)

pub row_bytes : (shape : Shape) (cell : ℕ → Cell) (y z : ℕ) → encodes (row_of shape cell y z) ≡ row_of shape cell y z
row_bytes shape cell y z =
    each (in_row shape cell y z) (λ x. from_ascii shape cell (index_in shape.depth record { x = x; y = y; z = z })) _
