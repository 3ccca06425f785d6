-- Which answer a set gives, case by case.
use Rattle.std.proofs.Common.{◌≡◌, ℕ, ◌<◌, ◌≤◌, Bool, true, false, not, ◌||◌, ltb, ◌⊎◌, ap, ◌∙◌, inl, inr, ⊎_elim, arith}
use Rattle.std.proofs.Math.Bool.{or-false}
use Rattle.std.proofs.lemmas.Bool.{cond-true, cond-false, not_from_true, not_from_false, lt-ltb, le-ltb, and_right, or_right, cases_lt}
use Rattle.voxels.specs.Cells.{in_range, put}
use Rattle.voxels.specs.Cubes.{blocks_needed}
use Rattle.voxels.specs.Refusals.{taken, refused}
use Rattle.voxels.specs.Space.{voxel_count}
use Rattle.voxels.specs.declared.cells.Cell.{Cell}
use Rattle.stores.specs.Masks.{masked_shape}
use Rattle.stores.specs.Sets.{is_open, set_answer}
use Rattle.stores.specs.Shapes.{Shape}

module _ (shape : Shape) (cells : ℕ → Cell) (i : ℕ) (c : Cell) where
  pub answer_not_open : is_open shape i ≡ false → set_answer shape cells i c ≡ refused 13 0
  unfolding set_answer
  answer_not_open e = cond-true _ _ _ (not_from_false _ e)

  pub answer_out_of_range : is_open shape i ≡ true → in_range c ≡ false → set_answer shape cells i c ≡ refused 14 0
  unfolding set_answer
  answer_out_of_range free e = cond-false _ _ _ (not_from_true _ free) ∙ cond-true _ _ _ (not_from_false _ e)

  pub answer_past_limit : is_open shape i ≡ true → in_range c ≡ true → shape.limit < blocks_needed shape.depth (put cells i c) → set_answer shape cells i c ≡ refused 15 i
  unfolding set_answer
  answer_past_limit free ranged more = cond-false _ _ _ (not_from_true _ free) ∙ (cond-false _ _ _ (not_from_true _ ranged) ∙ cond-true _ _ _ (lt-ltb _ _ more))

  pub answer_taken : is_open shape i ≡ true → in_range c ≡ true → blocks_needed shape.depth (put cells i c) ≤ shape.limit → set_answer shape cells i c ≡ taken tt
  unfolding set_answer
  answer_taken free ranged fits = cond-false _ _ _ (not_from_true _ free) ∙ (cond-false _ _ _ (not_from_true _ ranged) ∙ cond-false _ _ _ (le-ltb _ _ fits))

-- an open voxel and a cell in the range: only the limit is left to decide
pub answer_open : (shape : Shape) (cells : ℕ → Cell) (i : ℕ) (c : Cell) → is_open shape i ≡ true → in_range c ≡ true → ((set_answer shape cells i c ≡ taken tt) × (blocks_needed shape.depth (put cells i c) ≤ shape.limit)) ⊎ ((set_answer shape cells i c ≡ refused 15 i) × (shape.limit < blocks_needed shape.depth (put cells i c)))
answer_open shape cells i c free ranged =
    ⊎_elim
    (λ more. inr (answer_past_limit shape cells i c free ranged more, more))
    (λ fits. inl (answer_taken shape cells i c free ranged fits, fits))
    (cases_lt shape.limit (blocks_needed shape.depth (put cells i c)))

-- what the answer to such a set says of the limit
module _ (shape : Shape) (cells : ℕ → Cell) (i : ℕ) (c : Cell) (free : is_open shape i ≡ true) (ranged : in_range c ≡ true) where
  pub set_fits : taken tt ≡ set_answer shape cells i c → blocks_needed shape.depth (put cells i c) ≤ shape.limit
  set_fits e =
      ⊎_elim
      (λ done. done.1)
      (λ past. absurd (let z : ◌≡◌ {A = ℕ} 0 1 = let r = past.0 in cc in omega arith))
      (answer_open shape cells i c free ranged)

  pub set_past : (number place : ℕ) → refused number place ≡ set_answer shape cells i c → (number ≡ 15) × (place ≡ i) × (shape.limit < blocks_needed shape.depth (put cells i c))
  set_past number place e =
      ⊎_elim
      (λ done. absurd (let z : ◌≡◌ {A = ℕ} 0 1 = let r = done.0 in cc in omega arith))
      (λ past. let r = past.0 in (cc, cc, past.1))
      (answer_open shape cells i c free ranged)

-- under a mask
module _ (shape : Shape) (mask : ℕ → Bool) (cells : ℕ → Cell) (i : ℕ) (c : Cell) where
  pub answer_masked : mask i ≡ true → set_answer (masked_shape shape mask) cells i c ≡ refused 13 0
  answer_masked e =
      answer_not_open (masked_shape shape mask) cells i c
      (and_right (ltb i (voxel_count shape.depth)) (not (shape.closed i || mask i)) (not_from_true (shape.closed i || mask i) (or_right (shape.closed i) (mask i) e)))

  pub answer_unmasked : mask i ≡ false → set_answer (masked_shape shape mask) cells i c ≡ set_answer shape cells i c
  unfolding set_answer
  answer_unmasked e =
      let same : (shape.closed i || mask i) ≡ shape.closed i = ap (λ b. shape.closed i || b) e ∙ or-false (shape.closed i) in
      rw same
