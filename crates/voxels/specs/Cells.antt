-- A cell is unknown or a number of hundredths of log-odds from -200 to 350.
use Rattle.std.specs.Prelude.{◌≡◌, ℕ, ◌+◌, ◌-◌, ◌<◌, Bool, true, false, cond, ◌&&◌, ℤ, pos, negsuc, ◌+ℤ◌, ◌==◌, int_le, int_lt, nat_le, MatchResult, Result}
use Rattle.std.proofs.Math.IntN.{sub_ℕ}
use Rattle.voxels.specs.declared.cells.Cell.{Cell}
use Rattle.voxels.specs.declared.cells.Cell.TheVariants.{Unknown, Known}
use Rattle.voxels.specs.declared.cells.Event.{Event}
use Rattle.voxels.specs.declared.cells.Event.TheVariants.{Hit, Miss}
use Rattle.voxels.specs.declared.cells.NoState.{NoState}
use Rattle.voxels.specs.declared.cells.State.{State}

abbrev pub lowest : ℤ
lowest = negsuc 199

abbrev pub highest : ℤ
highest = pos 350

abbrev pub in_range : Cell → Bool
in_range Unknown = true
in_range (Known v) = int_le lowest v && int_le v highest

-- an unknown cell counts as 0
abbrev pub log_odds : Cell → ℤ
log_odds Unknown = pos 0
log_odds (Known v) = v

abbrev pub change : Event → ℤ
change Hit = pos 85
change Miss = negsuc 39

abbrev pub clamped : ℤ → ℤ
clamped v = cond (int_lt v lowest) lowest (cond (int_lt highest v) highest v)

abbrev pub updated : Cell → Event → Cell
updated c e = Known (clamped (log_odds c +ℤ change e))

-- 0 and more is occupied
abbrev pub state_of : Cell → State
state_of Unknown = State.Unknown
state_of (Known v) = cond (int_lt v (pos 0)) State.Free State.Occupied

-- a state's number
abbrev pub state_number : State → ℕ
state_number State.Unknown = 0
state_number State.Free = 1
state_number State.Occupied = 2

-- what a number gives: the state that has it, or that none has it
abbrev pub NumberGives : ℕ → Result State NoState → Type 0
NumberGives number r = MatchResult r (λ state. state_number state ≡ number) (λ e. (e.0 ≡ number) × (2 < number))

abbrev pub same_number : ℤ → ℤ → Bool
same_number (pos m) (pos n) = m == n
same_number (pos m) (negsuc n) = false
same_number (negsuc m) (pos n) = false
same_number (negsuc m) (negsuc n) = m == n

-- unknown equals only unknown
abbrev pub same_cell : Cell → Cell → Bool
same_cell Unknown Unknown = true
same_cell Unknown (Known n) = false
same_cell (Known m) Unknown = false
same_cell (Known m) (Known n) = same_number m n

-- the cells of a map are a function from the index; with the cell at i replaced
abbrev pub put : (ℕ → Cell) → ℕ → Cell → ℕ → Cell
put cells i c j = cond (j == i) c (cells j)

-- a cell as a 16-bit word: 0 is unknown, and a number is kept as 201 more than it is
abbrev pub cell_word : Cell → ℕ
cell_word Unknown = 0
cell_word (Known (pos n)) = cond (nat_le n 350) (n + 201) 0
cell_word (Known (negsuc n)) = cond (nat_le n 199) (200 - n) 0

-- the cell of a word; what no cell is kept as is unknown
abbrev pub word_cell : ℕ → Cell
word_cell w = cond (nat_le 1 w && nat_le w 551) (Known (sub_ℕ w 201)) Unknown
