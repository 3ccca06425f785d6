-- Aligned cubes and the blocks that a map needs.
-- The cells of the aligned cube of a level are 8 ^ level indices in a row, so a cube is named by its level and its number among those of that level.
use Rattle.std.specs.Prelude.{◌≡◌, ℕ, suc, ◌+◌, ◌-◌, ◌*◌, ◌/◌, ◌^◌, ◌≤◌, Bool, true, not, ◌≢◌}
use Rattle.voxels.specs.Bounded.{all, sum, count}
use Rattle.voxels.specs.Cells.{same_cell, put}
use Rattle.voxels.specs.Space.{is_depth, voxel_count}
use Rattle.voxels.specs.declared.cells.Cell.{Cell}

-- the cells are not all equal: one differs from the first
unfoldable pub mixed : ℕ → (ℕ → Cell) → ℕ → Bool
mixed level cells cube = not (all (8 ^ level) (λ j. same_cell (cells (cube * 8 ^ level + j)) (cells (cube * 8 ^ level))))

-- mixed cubes of a level in a map
unfoldable pub mixed_cubes : ℕ → ℕ → (ℕ → Cell) → ℕ
mixed_cubes depth level cells = count (8 ^ (depth - level)) (mixed level cells)

-- one for the root and one for each mixed cube of the levels 1 to depth - 1
unfoldable pub blocks_needed : ℕ → (ℕ → Cell) → ℕ
blocks_needed depth cells = 1 + sum (depth - 1) (λ k. mixed_cubes depth (suc k) cells)

-- as many blocks as a map can need: 1 + 8 + .. + 8 ^ (depth - 1), which is (8 ^ depth - 1) / 7
abbrev pub most_blocks : ℕ → ℕ
most_blocks depth = (voxel_count depth - 1) / 7

-- no cells need more
abbrev pub WithinMost : ℕ → Type 0
WithinMost depth = is_depth depth ≡ true → (cells : ℕ → Cell) → blocks_needed depth cells ≤ most_blocks depth

-- setting the cell at an index changes no cube of the level but the one named: each other is mixed after it exactly if it was before
abbrev pub OnlyOnPath : ℕ → ℕ → ℕ → Type 0
OnlyOnPath level index named = (cells : ℕ → Cell) (c : Cell) (cube : ℕ) → cube ≢ named → mixed level (put cells index c) cube ≡ mixed level cells cube
