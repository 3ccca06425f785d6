-- What check and load tell, and the cells that a load leaves.
use Rattle.std.specs.Prelude.{◌≡◌, ℕ, ◌<◌, ◌≤◌, Bool, true, false, cond, List, is_some, Some, None, Ok, Err, Option, Result, slice_index}
use Rattle.bodies.specs.Bodies.{map_body}
use Rattle.bodies.specs.Codes.{code_state}
use Rattle.bodies.specs.Readings.{read_body}
use Rattle.bodies.specs.Theorems.{Writable, is_malformed, listed}
use Rattle.bodies.specs.declared.loads.Placed.{Placed}
use Rattle.bodies.specs.declared.loads.Placed.TheVariants.{Nothing, Skipped, Set}
use Rattle.stores.specs.Sets.{is_open}
use Rattle.stores.specs.Shapes.{Shape}
use Rattle.stores.specs.Sweeps.{became, is_set, is_skipped, sweep_answer, swept}
use Rattle.stores.specs.Visits.{Unchanged}
use Rattle.stores.specs.declared.visits.Swept.{Swept}
use Rattle.voxels.specs.Bounded.{count, some}
use Rattle.voxels.specs.Cells.{highest, lowest, put}
use Rattle.voxels.specs.Cubes.{blocks_needed}
use Rattle.voxels.specs.Pages.{over_page}
use Rattle.voxels.specs.Refusals.{Told, taken, refused, number_of}
use Rattle.voxels.specs.Space.{is_depth, voxel_count}
use Rattle.voxels.specs.declared.cells.Cell.{Cell}
use Rattle.voxels.specs.declared.cells.Cell.TheVariants.{Unknown, Known}
use Rattle.voxels.specs.declared.cells.State.{State}
use Rattle.voxels.specs.declared.cells.State as state
use Rattle.voxels.specs.declared.refusals.Refusal.{Refusal}

-- refused for the depth, or as a load would refuse the body
abbrev pub judged : Told (List State) → Told (Unit {0})
judged (taken states) = taken tt
judged (refused number place) = refused number place

unfoldable pub check_answer : ℕ → List ℕ → Told (Unit {0})
check_answer depth body = cond (is_depth depth) (judged (read_body depth body)) (refused 1 0)

-- what a voxel of a state is to become: free the lowest number, occupied the highest
abbrev pub state_cell : State → Option Cell
state_cell state.TheVariants.Unknown = None
state_cell state.TheVariants.Free = Some (Known lowest)
state_cell state.TheVariants.Occupied = Some (Known highest)

abbrev pub wanted_by : List State → ℕ → Option Cell
wanted_by states i = state_cell (listed states i)

-- by the word that has the state's code
abbrev pub word_cell : ℕ → Option Cell
word_cell word = state_cell (code_state word)

abbrev pub word_cells : List ℕ → ℕ → Option Cell
word_cells words i = word_cell (slice_index words i)

abbrev pub is_known : Cell → Bool
is_known Unknown = false
is_known (Known v) = true

-- what the placing of a voxel did that is to become this
module _ (shape : Shape) (before after : ℕ → Cell) (index : ℕ) (wanted : Option Cell) where
  abbrev pub PlaceDone : Result Placed Refusal → Type 0
  PlaceDone (Ok Nothing) = (is_some wanted ≡ false) × Unchanged before after
  PlaceDone (Ok Skipped) = (is_some wanted ≡ true) × (is_open shape index ≡ false) × Unchanged before after
  PlaceDone (Ok Set) = (is_some wanted ≡ true) × (is_open shape index ≡ true) × ((i : ℕ) → after i ≡ put before index (became wanted (before index)) i) × (blocks_needed shape.depth (put before index (became wanted (before index))) ≤ shape.limit)
  PlaceDone (Err e) = (is_some wanted ≡ true) × (is_open shape index ≡ true) × (number_of e.reason ≡ 15) × (e.place ≡ index) × (shape.limit < blocks_needed shape.depth (put before index (became wanted (before index))))

-- what it adds to the figures
abbrev pub set_by : Placed → ℕ
set_by Nothing = 0
set_by Skipped = 0
set_by Set = 1

abbrev pub skipped_by : Placed → ℕ
skipped_by Nothing = 0
skipped_by Skipped = 1
skipped_by Set = 0

-- a sweep of what voxels are to become that has come to voxel n: what stands, that all before it fitted, and the figures so far
pub record Placing (shape : Shape) (wanted : ℕ → Option Cell) (cells now : ℕ → Cell) (n : ℕ) (loaded : Swept) : Type 0 where
  pub reached : (i : ℕ) → now i ≡ swept shape wanted cells n i
  pub fitted : (m : ℕ) → m ≤ n → blocks_needed shape.depth (swept shape wanted cells m) ≤ shape.limit
  pub sets : loaded.set ≡ count n (is_set shape wanted cells)
  pub skips : loaded.skipped ≡ count n (is_skipped shape wanted cells)

module _ (shape : Shape) (cells : ℕ → Cell) where
  -- what a load of a body that says this tells, and the cells afterwards
  abbrev pub states_answer : Told (List State) → Told Swept
  states_answer (taken states) = sweep_answer shape (wanted_by states) cells
  states_answer (refused number place) = refused number place

  abbrev pub states_cells : Told (List State) → ℕ → Cell
  states_cells (taken states) = swept shape (wanted_by states) cells (voxel_count shape.depth)
  states_cells (refused number place) = cells

  -- 8 where a cell is known, then what the body is refused by, then 15
  abbrev pub body_answer : List ℕ → Told Swept
  body_answer body = cond (some (voxel_count shape.depth) (λ i. is_known (cells i))) (refused 8 0) (states_answer (read_body shape.depth body))

  -- the answer with a page of so many words: 1 or 2 for the page, then as above
  abbrev pub load_answer : ℕ → List ℕ → Told Swept
  load_answer words body = over_page shape.depth words (body_answer body)

  -- every open voxel of a known state set where the load was taken, else the cells as they were
  abbrev pub load_cells : Told Swept → List ℕ → ℕ → Cell
  load_cells (taken figures) body = states_cells (read_body shape.depth body)
  load_cells (refused number place) body = cells

-- a load into an empty map with a page that is long enough calls a body malformed exactly when no map of the depth writes it
abbrev pub MalformedExactly : ℕ → (ℕ → Cell) → ℕ → List ℕ → Told Swept → Type 0
MalformedExactly depth cells words body told =
    1 ≤ depth → voxel_count depth ≤ words → ((i : ℕ) → cells i ≡ Unknown) →
    (is_malformed told ≡ true → Writable depth body → ⊥) × (is_malformed told ≡ false → Writable depth body)

-- what a load took, skipping nothing, is written as the same bytes
abbrev pub WritesSame : ℕ → (ℕ → Cell) → List ℕ → Told Swept → Type 0
WritesSame depth after body (taken figures) = figures.skipped ≡ 0 → map_body depth after ≡ body
WritesSame depth after body (refused number place) = Unit {0}
