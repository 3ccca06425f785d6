-- One voxel's part of a sweep.
use Rattle.std.specs.Prelude.{◌≡◌, ℕ, ◌+◌, ◌<◌, ◌≤◌, true, false, cond, List, length, Some, None, Ok, Err, Option, Result, slice_index}
use Rattle.voxels.specs.Bounded.{count}
use Rattle.voxels.specs.Cells.{cell_word, in_range, put}
use Rattle.voxels.specs.Cubes.{blocks_needed}
use Rattle.voxels.specs.Refusals.{number_of}
use Rattle.voxels.specs.declared.cells.Cell.{Cell}
use Rattle.voxels.specs.declared.refusals.Refusal.{Refusal}
use Rattle.stores.specs.Sets.{is_open}
use Rattle.stores.specs.Shapes.{Shape}
use Rattle.stores.specs.Sweeps.{is_set, is_skipped, swept}
use Rattle.stores.specs.declared.visits.Swept.{Swept}
use Rattle.stores.specs.declared.visits.Visit.{Visit}
use Rattle.stores.specs.declared.visits.Visit.TheVariants.{Nothing, Skipped, Set}

abbrev pub Unchanged : (ℕ → Cell) → (ℕ → Cell) → Type 0
Unchanged before after = (i : ℕ) → after i ≡ before i

module _ (shape : Shape) (before after : ℕ → Cell) (index : ℕ) where
  -- a visit of an open voxel that is to become c
  abbrev pub SetVisited : Cell → Result Visit Refusal → Type 0
  SetVisited c (Ok Nothing) = ⊥
  SetVisited c (Ok Skipped) = (is_open shape index ≡ false) × Unchanged before after
  SetVisited c (Ok (Set old)) = (is_open shape index ≡ true) × (old ≡ before index) × ((i : ℕ) → after i ≡ put before index c i) × (blocks_needed shape.depth (put before index c) ≤ shape.limit)
  SetVisited c (Err e) = (is_open shape index ≡ true) × (number_of e.reason ≡ 15) × (e.place ≡ index) × Unchanged before after × (shape.limit < blocks_needed shape.depth (put before index c))

  -- a visit of a voxel of which nothing is said
  abbrev pub NothingVisited : Result Visit Refusal → Type 0
  NothingVisited (Ok Nothing) = Unchanged before after
  NothingVisited (Ok Skipped) = ⊥
  NothingVisited (Ok (Set old)) = ⊥
  NothingVisited (Err e) = ⊥

  abbrev pub VisitDone : Option Cell → Result Visit Refusal → Type 0
  VisitDone None visit = NothingVisited visit
  VisitDone (Some c) visit = SetVisited c visit

-- the word that is kept of a voxel behind the sweep, so that it can be taken back: 0, or one more than the old cell's
abbrev pub visit_word : Visit → ℕ
visit_word Nothing = 0
visit_word Skipped = 0
visit_word (Set old) = cell_word old + 1

abbrev pub OldInRange : Visit → Type 0
OldInRange Nothing = Unit {0}
OldInRange Skipped = Unit {0}
OldInRange (Set old) = in_range old ≡ true

-- what a visit adds to the figures
abbrev pub set_by : Visit → ℕ
set_by Nothing = 0
set_by Skipped = 0
set_by (Set old) = 1

abbrev pub skipped_by : Visit → ℕ
skipped_by Nothing = 0
skipped_by Skipped = 1
skipped_by (Set old) = 0

-- a sweep that has come to voxel n: what stands, that all before it fitted, and what is kept
pub record Midway (shape : Shape) (wanted : ℕ → Option Cell) (cells now : ℕ → Cell) (page : List ℕ) (n : ℕ) : Type 0 where
  pub ranged : (i : ℕ) → in_range (cells i) ≡ true
  pub reached : (i : ℕ) → now i ≡ swept shape wanted cells n i
  pub fitted : (m : ℕ) → m ≤ n → blocks_needed shape.depth (swept shape wanted cells m) ≤ shape.limit
  pub kept : (k : ℕ) → k < n → slice_index page k ≡ cond (is_set shape wanted cells k) (cell_word (cells k) + 1) 0

-- from wherever a sweep had come to the end of the words, the cells are back where it began
abbrev pub TakenBack : Shape → (ℕ → Cell) → (ℕ → Cell) → List ℕ → Type 0
TakenBack shape before after words = (wanted : ℕ → Option Cell) (cells : ℕ → Cell) → Midway shape wanted cells before words (length words) → (i : ℕ) → after i ≡ cells i

-- a sweep that has come to voxel n, with the page that it began with, the page now and the figures so far
pub record Sweeping (shape : Shape) (wanted : ℕ → Option Cell) (cells now : ℕ → Cell) (marks page : List ℕ) (n : ℕ) (figures : Swept) : Type 0 where
  pub mid : Midway shape wanted cells now page n
  pub ahead : (k : ℕ) → n ≤ k → slice_index page k ≡ slice_index marks k
  pub sets : figures.set ≡ count n (is_set shape wanted cells)
  pub skips : figures.skipped ≡ count n (is_skipped shape wanted cells)
