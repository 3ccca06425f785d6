-- A grid's cells after a write to its words.
use Rattle.std.proofs.Common.{◌≡◌, ℕ, ◌<◌, ◌≤◌, true, false, cond, eqb, ltb, List, length, get_or, set, sym, refl, ap, ◌∙◌, ⊎_elim, arith}
use Rattle.std.proofs.lemmas.List.{get_or-set_same, get_or-set_other}
use Rattle.std.proofs.lemmas.Bool.{cond-true, cond-false, cases_eq, eq-eqb, ne_eqb, lt-ltb, le-ltb, le-leb, and_from, and_left}
use Rattle.voxels.specs.Cells.{put, word_cell}
use Rattle.voxels.specs.Cubes.{blocks_needed, most_blocks}
use Rattle.voxels.specs.Space.{voxel_count}
use Rattle.voxels.specs.declared.cells.Cell.{Cell}
use Rattle.voxels.specs.declared.cells.Cell.TheVariants.{Unknown}
use Rattle.voxels.proofs.Blocks.{within_most}
use Rattle.stores.specs.Grids.{grid_cell, grid_shape}
use Rattle.stores.specs.Sets.{is_open}

pub grid_inside : (depth : ℕ) (words : List ℕ) (i : ℕ) → i < voxel_count depth → grid_cell depth words i ≡ word_cell (get_or words i 0)
grid_inside depth words i h = cond-true (ltb i (voxel_count depth)) (word_cell (get_or words i 0)) Unknown (lt-ltb i (voxel_count depth) h)

-- one word written is one cell put
pub grid_put : (depth : ℕ) (words : List ℕ) (i w : ℕ) (c : Cell) → i < voxel_count depth → voxel_count depth ≤ length words → word_cell w ≡ c → (j : ℕ) → grid_cell depth (set words i w) j ≡ put (grid_cell depth words) i c j
grid_put depth words i w c inside fits kept j =
    ⊎_elim
    (λ same.
    let at : grid_cell depth (set words i w) i ≡ c =
    grid_inside depth (set words i w) i inside ∙ ap word_cell (get_or-set_same words i w 0 (omega arith)) ∙ kept in
    ap (grid_cell depth (set words i w)) same ∙ at ∙ sym (cond-true (eqb j i) c (grid_cell depth words j) (eq-eqb j i same)))
    (λ other.
    ap (λ v. cond (ltb j (voxel_count depth)) (word_cell v) Unknown) (get_or-set_other words i j w 0 other)
    ∙ sym (cond-false (eqb j i) c (grid_cell depth words j) (ne_eqb j i other)))
    (cases_eq j i)

pub grid_open : (depth i : ℕ) → i < voxel_count depth → is_open (grid_shape depth) i ≡ true
grid_open depth i h = and_from _ _ (lt-ltb i (voxel_count depth) h) refl

pub grid_not_open : (depth i : ℕ) → voxel_count depth ≤ i → is_open (grid_shape depth) i ≡ false
grid_not_open depth i h = and_left _ _ (le-ltb i (voxel_count depth) h)

-- a grid's limit is never passed
pub grid_limit : (depth : ℕ) (cells : ℕ → Cell) → 1 ≤ depth → depth ≤ 5 → blocks_needed depth cells ≤ most_blocks depth
grid_limit depth cells low high = within_most depth (and_from _ _ (le-leb 1 depth low) (le-leb depth 5 high)) cells
