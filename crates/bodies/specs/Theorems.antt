-- Which bytes are a map, and that writing and reading undo one another.
use Rattle.std.specs.Prelude.{◌≡◌, ℕ, ◌<◌, ◌≤◌, Bool, true, false, ◌&&◌, List, length, nat_le, slice_index_or}
use Rattle.bodies.specs.Bodies.{body_of, map_body}
use Rattle.bodies.specs.Readings.{read_body}
use Rattle.voxels.specs.Cells.{in_range, state_of}
use Rattle.voxels.specs.Refusals.{Told, taken, refused}
use Rattle.voxels.specs.Space.{is_depth, voxel_count}
use Rattle.voxels.specs.declared.cells.Cell.{Cell}
use Rattle.voxels.specs.declared.cells.Cell.TheVariants.{Unknown}
use Rattle.voxels.specs.declared.cells.State.{State}

-- a map of the depth: cells in the range, unknown outside
pub record MapOf (depth : ℕ) (cells : ℕ → Cell) : Type 0 where
  pub is_map : is_depth depth ≡ true
  pub ranged : (i : ℕ) → in_range (cells i) ≡ true
  pub outside : (i : ℕ) → voxel_count depth ≤ i → cells i ≡ Unknown

-- some map of the depth writes these bytes
pub record Writable (depth : ℕ) (body : List ℕ) : Type 0 where
  pub cells : ℕ → Cell
  pub map : MapOf depth cells
  pub writes : map_body depth cells ≡ body

-- refused as malformed
abbrev pub is_malformed : {A : Type 0} → Told A → Bool
is_malformed (taken answer) = false
is_malformed (refused number place) = nat_le 9 number && nat_le number 12

-- the states at each index of a list, unknown past it
abbrev pub listed : List State → ℕ → State
listed states i = slice_index_or states i State.Unknown

-- the states of a map's cells, in rising index
pub record StatesOf (depth : ℕ) (cells : ℕ → Cell) (states : List State) : Type 0 where
  pub long : length states ≡ voxel_count depth
  pub each : (i : ℕ) → i < voxel_count depth → listed states i ≡ state_of (cells i)

-- reading a written body gives the states back
abbrev pub ReadsBack : ℕ → (ℕ → Cell) → Type 0
ReadsBack depth cells = is_depth depth ≡ true → (states : List State) × (read_body depth (map_body depth cells) ≡ taken states) × StatesOf depth cells states

-- no other states have the body: equal bodies mean equal states
abbrev pub OnlyStates : ℕ → (ℕ → Cell) → Type 0
OnlyStates depth cells = (others : ℕ → Cell) → map_body depth others ≡ map_body depth cells → (i : ℕ) → i < voxel_count depth → state_of (others i) ≡ state_of (cells i)

-- what a body says, written, is that body again
abbrev pub WritesBack : ℕ → List ℕ → Type 0
WritesBack depth body = is_depth depth ≡ true → (states : List State) → read_body depth body ≡ taken states → body_of depth (listed states) 0 ≡ body

-- a call takes a body exactly when some map of the depth writes it
abbrev pub ExactlyMaps : ℕ → List ℕ → Told (Unit {0}) → Type 0
ExactlyMaps depth body told = (Writable depth body → told ≡ taken tt) × (told ≡ taken tt → Writable depth body)
