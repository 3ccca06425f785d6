-- Laws of mixed cubes, of the blocks that a map needs, and of how many voxels it has.
use Rattle.std.proofs.Common.{◌≡◌, ℕ, zero, suc, ◌+◌, ◌-◌, ◌*◌, ◌/◌, ◌^◌, ◌<◌, ◌≤◌, true, false, not, eqb, leb, ◌≢◌, sym, ap, ◌∙◌, ap₂, add-zero, arith, lit≤}
use native.Mathlib.Nat.{one-le-pow}
use Rattle.std.proofs.lemmas.Nat.{div-mul-add}
use Rattle.std.proofs.lemmas.Bool.{false≢true, both_ways, and_from, and_parts, and_right, le-leb, leb-true, lt-leb, ne_eqb, cond-true, cond-false}
use Rattle.voxels.specs.Bounded.{sum}
use Rattle.voxels.specs.Cells.{same_cell, put}
use Rattle.voxels.specs.Cubes.{mixed, mixed_cubes, blocks_needed, WithinMost, OnlyOnPath}
use Rattle.voxels.specs.Space.{is_depth, voxel_count}
use Rattle.voxels.specs.declared.cells.Cell.{Cell}
use Rattle.voxels.proofs.Bounds.{all_same, count_le}

pub eight_pos : (k : ℕ) → 0 < 8 ^ k
eight_pos k = one-le-pow k 8 (lit≤ tt)

mixed_le : (depth level : ℕ) (cells : ℕ → Cell) → mixed_cubes depth level cells ≤ 8 ^ (depth - level)
unfolding mixed_cubes
mixed_le depth level cells = count_le (8 ^ (depth - level)) (mixed level cells)

not_depth : (n : ℕ) → is_depth (suc (suc (suc (suc (suc (suc n)))))) ≡ false
not_depth n = let d = suc (suc (suc (suc (suc (suc n))))) in and_right (leb 1 d) (leb d 5) (lt-leb d 5 (omega arith))

no_depth : (n : ℕ) → is_depth (suc (suc (suc (suc (suc (suc n)))))) ≡ true → ⊥
no_depth n e = both_ways _ (not_depth n) e

pub within_most : (depth : ℕ) → WithinMost depth
unfolding blocks_needed sum
within_most zero ok cells = absurd (false≢true ok)
within_most (suc zero) ok cells = lit≤ tt
within_most (suc (suc zero)) ok cells = omega (arith, mixed_le 2 1 cells)
within_most (suc (suc (suc zero))) ok cells = omega (arith, mixed_le 3 1 cells, mixed_le 3 2 cells)
within_most (suc (suc (suc (suc zero)))) ok cells = omega (arith, mixed_le 4 1 cells, mixed_le 4 2 cells, mixed_le 4 3 cells)
within_most (suc (suc (suc (suc (suc zero))))) ok cells = omega (arith, mixed_le 5 1 cells, mixed_le 5 2 cells, mixed_le 5 3 cells, mixed_le 5 4 cells)
within_most (suc (suc (suc (suc (suc (suc n)))))) ok cells = absurd (no_depth n ok)

-- an index of another cube is another index
put_elsewhere : (level index cube j : ℕ) (cells : ℕ → Cell) (c : Cell) → cube ≢ index / 8 ^ level → j < 8 ^ level → put cells index c (cube * 8 ^ level + j) ≡ cells (cube * 8 ^ level + j)
put_elsewhere level index cube j cells c other h =
    let i = cube * 8 ^ level + j in
    cond-false (eqb i index) c (cells i) (ne_eqb i index (λ e. other (sym (div-mul-add cube (8 ^ level) j h) ∙ ap (λ n. n / 8 ^ level) e)))

pub only_on_path : (level index : ℕ) → OnlyOnPath level index (index / 8 ^ level)
unfolding mixed
only_on_path level index cells c cube other =
    let base = cube * 8 ^ level in
    let first : put cells index c base ≡ cells base =
    ap (put cells index c) (sym (add-zero base)) ∙ put_elsewhere level index cube 0 cells c other (eight_pos level) ∙ ap cells (add-zero base) in
    ap not (all_same (8 ^ level) _ _ (λ j h. ap₂ same_cell (put_elsewhere level index cube j cells c other h) first))

pub map_depth : (depth : ℕ) → 1 ≤ depth → depth ≤ 5 → is_depth depth ≡ true
map_depth depth low high = and_from (leb 1 depth) (leb depth 5) (le-leb 1 depth low) (le-leb depth 5 high)

pub depth_above : (depth : ℕ) → is_depth depth ≡ true → 1 ≤ depth
depth_above depth is = leb-true 1 depth (and_parts (leb 1 depth) (leb depth 5) is).0

pub count_depth : (depth : ℕ) → is_depth depth ≡ true → voxel_count depth ≡ 8 ^ depth
count_depth depth is = cond-true (is_depth depth) (8 ^ depth) 0 is

pub count_none : (depth : ℕ) → is_depth depth ≡ false → voxel_count depth ≡ 0
count_none depth no-map = cond-false (is_depth depth) (8 ^ depth) 0 no-map

-- a map has few enough voxels
pub count_small : (depth : ℕ) → voxel_count depth ≤ 32768
count_small zero = lit≤ tt
count_small (suc zero) = lit≤ tt
count_small (suc (suc zero)) = lit≤ tt
count_small (suc (suc (suc zero))) = lit≤ tt
count_small (suc (suc (suc (suc zero)))) = lit≤ tt
count_small (suc (suc (suc (suc (suc zero))))) = lit≤ tt
count_small (suc (suc (suc (suc (suc (suc n)))))) =
    let d = suc (suc (suc (suc (suc (suc n))))) in
    omega (arith, count_none d (not_depth n))
