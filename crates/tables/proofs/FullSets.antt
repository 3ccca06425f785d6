-- One known cell among unknown ones makes its cube mixed, which is one block too many.
use Rattle.std.proofs.Common.{◌≡◌, ℕ, ◌+◌, ◌*◌, ◌/◌, ◌%◌, ◌<◌, Bool, true, not, eqb, ℤ, sym, ap, ap₂, ⊎_elim, arith}
use Rattle.std.proofs.lemmas.Bool.{cases_eq, cond-false, cond-true, eq-eqb, ne_eqb}
use Rattle.voxels.specs.Bounded.{sum}
use Rattle.voxels.specs.Cells.{put, same_cell}
use Rattle.voxels.specs.Cubes.{blocks_needed, mixed, mixed_cubes}
use Rattle.voxels.specs.declared.cells.Cell.{Cell}
use Rattle.voxels.specs.declared.cells.Cell.TheVariants.{Known, Unknown}
use Rattle.voxels.proofs.Bounds.{all_fails, count_has}
use Rattle.tables.specs.FullLaws.{nothing}

module _ (i : ℕ) (v : ℤ) where
  abbrev cells : ℕ → Cell
  cells = put nothing i (Known v)

  at_it : (j : ℕ) → j ≡ i → cells j ≡ Known v
  at_it j e = cond-true (eqb j i) (Known v) Unknown (eq-eqb j i e)

  elsewhere : (j : ℕ) → (j ≡ i → ⊥) → cells j ≡ Unknown
  elsewhere j e = cond-false (eqb j i) (Known v) Unknown (ne_eqb j i e)

  -- a cell of the cube that differs from its first
  differs : ℕ → Bool
  differs j = same_cell (cells (i / 8 * 8 + j)) (cells (i / 8 * 8))

  cube_mixed : mixed 1 cells (i / 8) ≡ true
  unfolding mixed differs
  cube_mixed =
      ⊎_elim
      (λ first. ap not (all_fails 8 differs 1 (omega arith) (ap₂ same_cell (elsewhere (i / 8 * 8 + 1) (λ e. omega arith)) (at_it (i / 8 * 8) (omega arith)))))
      (λ later. ap not (all_fails 8 differs (i % 8) (omega arith) (ap₂ same_cell (at_it (i / 8 * 8 + i % 8) (omega arith)) (elsewhere (i / 8 * 8) (λ e. later (omega arith))))))
      (cases_eq (i % 8) 0)

  pub one_too_many : i < 64 → 1 < blocks_needed 2 cells
  unfolding blocks_needed mixed_cubes sum
  one_too_many inside = omega (arith, count_has 8 (mixed 1 cells) (i / 8) (omega arith) cube_mixed)

-- an unknown cell put among unknown ones changes nothing
pub put_nothing : (i j : ℕ) → nothing j ≡ put nothing i Unknown j
put_nothing i j = ⊎_elim (λ same. sym (cond-true (eqb j i) Unknown Unknown (eq-eqb j i same))) (λ other. sym (cond-false (eqb j i) Unknown Unknown (ne_eqb j i other))) (cases_eq j i)
