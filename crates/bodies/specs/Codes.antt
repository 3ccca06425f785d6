-- Two bits for a cube of voxels.
use Rattle.std.specs.Prelude.{ℕ, ◌+◌, ◌-◌, ◌*◌, ◌/◌, ◌%◌, ◌^◌, Bool, cond, List, [], ◌∷◌, ◌==◌, nat_lt}
use Rattle.voxels.specs.Bounded.{all}
use Rattle.voxels.specs.Cells.{state_number}
use Rattle.voxels.specs.declared.cells.State.{State}
use Rattle.voxels.specs.declared.cells.State.TheVariants.{Unknown, Free, Occupied}

-- a state's number: unknown 0, free 1, occupied 2
abbrev pub state_code : State → ℕ
state_code state = state_number state

-- the state of a code that is not 3
abbrev pub code_state : ℕ → State
code_state code = cond (code == 0) Unknown (cond (code == 1) Free Occupied)

abbrev pub same_state : State → State → Bool
same_state a b = state_code a == state_code b

-- the voxels of the cube of that level from index `first` on have one state
unfoldable pub uniform : ℕ → (ℕ → State) → ℕ → Bool
uniform level states first = all (8 ^ level) (λ j. same_state (states (first + j)) (states first))

-- the state's code where all are equal, else 3
unfoldable pub cube_code : ℕ → (ℕ → State) → ℕ → ℕ
cube_code level states first = cond (uniform level states first) (state_code (states first)) 3

-- four codes in a byte, the first in the lowest bits
abbrev pub byte_of : (ℕ → ℕ) → ℕ
byte_of code = code 0 + 4 * code 1 + 16 * code 2 + 64 * code 3

-- eight codes in a pair: 0 to 3 in the first byte, 4 to 7 in the second
abbrev pub pair_of : (ℕ → ℕ) → List ℕ
pair_of code = byte_of code ∷ byte_of (λ k. code (4 + k)) ∷ []

-- the code that a byte has at a place from 0 to 3
abbrev pub code_in : ℕ → ℕ → ℕ
code_in byte k = byte / 4 ^ k % 4

-- the code that a pair gives child j
abbrev pub child_code : ℕ → ℕ → ℕ → ℕ
child_code first second j = cond (nat_lt j 4) (code_in first j) (code_in second (j - 4))
