-- What a read of bytes comes to in the program: what it tells, and the words that keep the states.
use Rattle.std.specs.Prelude.{◌≡◌, ℕ, ◌+◌, ◌^◌, ◌<◌, ◌≤◌, cond, List, length, replicate, Some, None, Ok, Err, Option, Result, ◌==◌, slice_index}
use Rattle.bodies.specs.Codes.{code_state, state_code}
use Rattle.bodies.specs.Readings.{Reading, read, wrong}
use Rattle.bodies.specs.Theorems.{listed}
use Rattle.bodies.specs.declared.reader.Rest.{Rest}
use Rattle.voxels.specs.Refusals.{Told, taken, refused, number_of}
use Rattle.voxels.specs.declared.cells.State.{State}
use Rattle.voxels.specs.declared.refusals.Refusal.{Refusal}

-- the state that two bits say of a cube's voxels; none where a pair of its own tells
abbrev pub code_of : ℕ → Option State
code_of code = cond (code == 3) None (Some (code_state code))

-- the states stand at the words from `first` on, and no other word is changed; a state that there is no word for is left out
pub record Kept (before after : List ℕ) (first : ℕ) (states : List State) : Type 0 where
  pub long : length after ≡ length before
  pub inside : (j : ℕ) → j < length states → first + j < length before → slice_index after (first + j) ≡ state_code (listed states j)
  pub ahead : (i : ℕ) → i < first → slice_index after i ≡ slice_index before i
  pub behind : (i : ℕ) → first + length states ≤ i → slice_index after i ≡ slice_index before i

-- no word from `end` on is changed
pub record Spared (before after : List ℕ) (end : ℕ) : Type 0 where
  pub long : length after ≡ length before
  pub each : (i : ℕ) → end ≤ i → slice_index after i ≡ slice_index before i

-- a child read by what its code says
abbrev pub read_code : (ℕ → List ℕ → Reading) → ℕ → Option State → ℕ → List ℕ → Reading
read_code below size None at bytes = below at bytes
read_code below size (Some state) at bytes = read (replicate size state) at bytes

-- only a cube above the voxels can have a pair
abbrev pub AboveVoxels : Option State → ℕ → Type 0
AboveVoxels None level = 1 ≤ level
AboveVoxels (Some state) level = Unit {0}

-- a cube's part of a body that was read: what is left, and the states in their words; or why it is malformed
abbrev pub ReadTo : Reading → (before after : List ℕ) → (level first : ℕ) → Result Rest Refusal → Type 0
ReadTo (read states next rest) before after level first (Ok left) = (left.at ≡ next) × (left.bytes.now ≡ rest) × Kept before after first states
ReadTo (read states next rest) before after level first (Err e) = ⊥
ReadTo (wrong number place) before after level first (Ok left) = ⊥
ReadTo (wrong number place) before after level first (Err e) = (number_of e.reason ≡ number) × (e.place ≡ place) × Spared before after (first + 8 ^ level)

-- a whole body that was read: its states in their words, or why it is malformed
abbrev pub BodyRead : Told (List State) → (before after : List ℕ) → (depth : ℕ) → Result (Unit {0}) Refusal → Type 0
BodyRead (taken states) before after depth (Ok done) = Kept before after 0 states
BodyRead (taken states) before after depth (Err e) = ⊥
BodyRead (refused number place) before after depth (Ok done) = ⊥
BodyRead (refused number place) before after depth (Err e) = (number_of e.reason ≡ number) × (e.place ≡ place) × Spared before after (8 ^ depth)
