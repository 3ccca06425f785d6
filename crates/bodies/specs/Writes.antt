-- What a write tells and leaves in the output.
use Rattle.std.specs.Prelude.{ℕ, ◌≤◌, cond, List, ◌++◌, length, drop, nat_lt, slice_index}
use Rattle.bodies.specs.Bodies.{map_body}
use Rattle.bodies.specs.Codes.{code_state}
use Rattle.voxels.specs.Pages.{over_page}
use Rattle.voxels.specs.Refusals.{Told, taken, refused}
use Rattle.voxels.specs.declared.cells.Cell.{Cell}
use Rattle.voxels.specs.declared.cells.State.{State}

-- every word is the code of a state
abbrev pub Coded : List ℕ → Type 0
Coded words = (i : ℕ) → slice_index words i ≤ 2

-- the states that words say
abbrev pub word_states : List ℕ → ℕ → State
word_states words i = code_state (slice_index words i)

-- bytes at the front of an output, with what was behind them
abbrev pub at_front : List ℕ → List ℕ → List ℕ
at_front bytes output = bytes ++ drop (length bytes) output

-- 18 where the output is shorter than the body, else the body's length
abbrev pub room_answer : ℕ → (ℕ → Cell) → ℕ → Told ℕ
room_answer depth cells room = cond (nat_lt room (length (map_body depth cells))) (refused 18 0) (taken (length (map_body depth cells)))

-- the answer with a page of so many words: 1 or 2 for the page, then as above
abbrev pub write_answer : ℕ → (ℕ → Cell) → ℕ → ℕ → Told ℕ
write_answer depth cells words room = over_page depth words (room_answer depth cells room)

-- the body at the front of the output and what was behind it, or all as it was
abbrev pub written : ℕ → (ℕ → Cell) → List ℕ → Told ℕ → List ℕ
written depth cells output (taken size) = map_body depth cells ++ drop size output
written depth cells output (refused number place) = output
