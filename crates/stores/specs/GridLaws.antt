-- A grid is a lawful store.
use Rattle.std.specs.Prelude.{◌≡◌, ℕ, suc, ◌-◌, ◌≤◌, true, ◌&&◌, List, pos, negsuc, nat_le, nat_lt, slice_index, refl}
use Rattle.std.proofs.Common.{ap, arith}
use Rattle.std.proofs.Math.IntN.{sub_ℕ}
use Rattle.std.proofs.lemmas.Bool.{and_from, and_parts, leb-true, le-leb, le-ltb, cond-false, cond_both}
use Rattle.voxels.specs.Cells.{in_range, word_cell}
use Rattle.voxels.specs.Cubes.{most_blocks}
use Rattle.voxels.specs.Space.{voxel_count}
use Rattle.voxels.specs.declared.cells.Cell.TheVariants.{Unknown, Known}
use Rattle.voxels.proofs.Blocks.{within_most}
use Rattle.stores.specs.Grids.{grid_cell, grid_shape}
use Rattle.stores.specs.Laws.{Lawful}

word_ranged : (w : ℕ) → in_range (word_cell w) ≡ true
word_ranged w =
    cond_both (nat_le 1 w && nat_le w 551) (Known (sub_ℕ w 201)) Unknown (λ c. in_range c ≡ true)
    (λ kept.
    let low = leb-true 1 w (and_parts (nat_le 1 w) (nat_le w 551) kept).0 in
    let high = leb-true w 551 (and_parts (nat_le 1 w) (nat_le w 551) kept).1 in
    cond_both (nat_lt w 201) (negsuc (201 - suc w)) (pos (w - 201)) (λ v. in_range (Known v) ≡ true)
    (λ below. and_from _ _ (le-leb (201 - suc w) 199 (omega arith)) refl)
    (λ above. and_from _ _ refl (le-leb (w - 201) 350 (omega arith))))
    (λ no_cell. refl)

module _ {G : Type 0} (depth : G → ℕ) (words : G → List ℕ) (shallow : (g : G) → depth g ≤ 5) where
  pub grid_lawful : Lawful (λ g. grid_shape (depth g)) (λ g. grid_cell (depth g) (words g))
  grid_lawful = record {
    shallow = shallow;
    outside = λ g i past. cond-false _ _ Unknown (le-ltb i (voxel_count (depth g)) past);
    ranged = λ g i. cond_both (nat_lt i (voxel_count (depth g))) (word_cell (slice_index (words g) i)) Unknown (λ c. in_range c ≡ true) (λ inside. word_ranged (slice_index (words g) i)) (λ past. refl);
    none = λ g e. ap most_blocks e;
    enough = λ g low. within_most (depth g) (and_from _ _ (le-leb 1 (depth g) low) (le-leb (depth g) 5 (shallow g))) _;
  }
