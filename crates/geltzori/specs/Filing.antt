-- What the calls on bodies give to print.
use Rattle.std.specs.Prelude.{◌≡◌, ℕ, List, length}
use Rattle.bodies.specs.Bodies.{map_body}
use Rattle.bodies.specs.Writes.{write_answer}
use Rattle.voxels.specs.Refusals.{taken, refused, number_of}
use Rattle.voxels.specs.declared.cells.Cell.{Cell}
use Rattle.voxels.specs.declared.refusals.Refusal.{Refusal}

-- a write to an output of that room is taken, and these are the bytes of the body
abbrev pub IsBody : ℕ → (ℕ → Cell) → (words room : ℕ) → List ℕ → Type 0
IsBody depth cells words room bytes = (bytes ≡ map_body depth cells) × (write_answer depth cells words room ≡ taken (length bytes))

-- it is refused, and so
abbrev pub IsRefusal : ℕ → (ℕ → Cell) → (words room : ℕ) → Refusal → Type 0
IsRefusal depth cells words room e = write_answer depth cells words room ≡ refused (number_of e.reason) e.place
