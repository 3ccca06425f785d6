-- The body of a map: its states, with every uniform cube written once (OctoMap 2013).
use Rattle.std.specs.Prelude.{ℕ, zero, suc, ◌+◌, ◌*◌, ◌^◌, cond, List, [], ◌++◌, ◌==◌}
use Rattle.bodies.specs.Codes.{cube_code, pair_of}
use Rattle.voxels.specs.Cells.{state_of}
use Rattle.voxels.specs.declared.cells.Cell.{Cell}
use Rattle.voxels.specs.declared.cells.State.{State}

-- f 0 to f (n - 1), one behind the other
unfoldable pub joined : ℕ → (ℕ → List ℕ) → List ℕ
joined zero f = []
joined (suc n) f = joined n f ++ f n

-- the first index of child j, whose level this is, in the cube from `first` on
abbrev pub child_first : ℕ → ℕ → ℕ → ℕ
child_first level first j = first + j * 8 ^ level

-- the codes of a cube's children
abbrev pub child_codes : ℕ → (ℕ → State) → ℕ → ℕ → ℕ
child_codes level states first j = cube_code level states (child_first level first j)

-- the pair of the cube's children, then the pairs of those with code 3 in index order, each with all that is under it
unfoldable pub body_of : ℕ → (ℕ → State) → ℕ → List ℕ
body_of zero states first = []
body_of (suc level) states first = pair_of (child_codes level states first) ++ joined 8 (λ j. cond (child_codes level states first j == 3) (body_of level states (child_first level first j)) [])

-- the root's
abbrev pub map_body : ℕ → (ℕ → Cell) → List ℕ
map_body depth cells = body_of depth (λ i. state_of (cells i)) 0
