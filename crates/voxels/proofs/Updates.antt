-- What an update gives is in the range, and a cell in the range is kept by its word.
use Rattle.std.proofs.Common.{◌≡◌, ℕ, suc, ◌+◌, ◌-◌, ◌≤◌, true, ◌&&◌, ltb, leb, ℤ, pos, negsuc, ◌+ℤ◌, refl, ap, ◌∙◌, arith}
use lib.IntN.{sub_ℕ}
use lib.Signed.{le_z}
use Rattle.std.proofs.lemmas.Bool.{and_from, and_parts, cond_both, cond-false, cond-true, le-leb, le-ltb, leb-true, lt-ltb, ltb-false}
use Rattle.voxels.specs.Cells.{cell_word, change, clamped, highest, in_range, log_odds, lowest, updated, word_cell}
use Rattle.voxels.specs.declared.cells.Cell.{Cell}
use Rattle.voxels.specs.declared.cells.Cell.TheVariants.{Known, Unknown}
use Rattle.voxels.specs.declared.cells.Event.{Event}

clamped_ranged : (z : ℤ) → in_range (Known (clamped z)) ≡ true
clamped_ranged (pos n) =
    cond_both (ltb 350 n) highest (pos n) (λ v. in_range (Known v) ≡ true) (λ past. refl) (λ below. and_from _ _ refl (le-leb n 350 (ltb-false 350 n below)))
clamped_ranged (negsuc n) =
    cond_both (ltb 199 n) lowest (negsuc n) (λ v. in_range (Known v) ≡ true) (λ past. refl) (λ above. and_from _ _ (le-leb n 199 (ltb-false 199 n above)) refl)

-- whatever number the cell had
pub updated_ranged : (c : Cell) (e : Event) → in_range (updated c e) ≡ true
updated_ranged c e = clamped_ranged (log_odds c +ℤ change e)

between : (w : ℕ) → 1 ≤ w → w ≤ 551 → (leb 1 w && leb w 551) ≡ true
between w low high = and_from _ _ (le-leb 1 w low) (le-leb w 551 high)

pub word_back : (c : Cell) → in_range c ≡ true → word_cell (cell_word c) ≡ c
word_back Unknown ranged = refl
word_back (Known (pos n)) ranged =
    let small = leb-true n 350 (and_parts (le_z lowest (pos n)) (le_z (pos n) highest) ranged).1 in
    let at : cell_word (Known (pos n)) ≡ n + 201 = cond-true (leb n 350) (n + 201) 0 (le-leb n 350 small) in
    ap word_cell at
    ∙ cond-true (leb 1 (n + 201) && leb (n + 201) 551) (Known (sub_ℕ (n + 201) 201)) Unknown (between (n + 201) (omega arith) (omega arith))
    ∙ ap Known (cond-false (ltb (n + 201) 201) (negsuc (201 - suc (n + 201))) (pos (n + 201 - 201)) (le-ltb (n + 201) 201 (omega arith)) ∙ ap pos (omega arith))
word_back (Known (negsuc n)) ranged =
    let small = leb-true n 199 (and_parts (le_z lowest (negsuc n)) (le_z (negsuc n) highest) ranged).0 in
    let at : cell_word (Known (negsuc n)) ≡ 200 - n = cond-true (leb n 199) (200 - n) 0 (le-leb n 199 small) in
    ap word_cell at
    ∙ cond-true (leb 1 (200 - n) && leb (200 - n) 551) (Known (sub_ℕ (200 - n) 201)) Unknown (between (200 - n) (omega arith) (omega arith))
    ∙ ap Known (cond-true (ltb (200 - n) 201) (negsuc (201 - suc (200 - n))) (pos (200 - n - 201)) (lt-ltb (200 - n) 201 (omega arith)) ∙ ap negsuc (omega arith))
