-- What the number of an answer says.
use Rattle.std.proofs.Common.{◌≡◌, ℕ, ◌≤◌, true, false, List, sym, refl, ◌∙◌, inl, inr, arith}
use Rattle.voxels.specs.Refusals.{Told, taken, refused}
use Rattle.voxels.specs.Space.{is_depth}
use Rattle.voxels.specs.declared.cells.State.{State}
use Rattle.bodies.specs.Loads.{check_answer, judged}
use Rattle.bodies.specs.Readings.{read_body}
use Rattle.bodies.proofs.Loading.{check_depth, check_none}
use Rattle.bodies.proofs.ReadFacts.{refused_number}
use Rattle.bodies.specs.Verdicts.{NumbersTold, number_told}

judged_refused : (told : Told (List State)) (number place : ℕ) → judged told ≡ refused number place → told ≡ refused number place
judged_refused (taken states) number place e = let z : ◌≡◌ {A = ℕ} 0 1 = cc in absurd (omega arith)
judged_refused (refused n p) number place e = cc

module _ (depth : ℕ) (body : List ℕ) where
  none_refused : (number place : ℕ) → is_depth depth ≡ false → check_answer depth body ≡ refused number place → number ≡ 1
  none_refused number place no-map e = let same : refused 1 0 ≡ refused number place = sym (check_none depth body no-map) ∙ e in cc

  body_refused : (number place : ℕ) → is_depth depth ≡ true → check_answer depth body ≡ refused number place → (9 ≤ number) × (number ≤ 12)
  body_refused number place is e = refused_number depth body number place (judged_refused (read_body depth body) number place (sym (check_depth depth body is) ∙ e))

  pub numbers_told : (told : Told (Unit {0})) → check_answer depth body ≡ told → NumbersTold depth (number_told told)
  numbers_told (taken answer) e = (
    λ no-map. let same : refused 1 0 ≡ taken answer = sym (check_none depth body no-map) ∙ e in let z : ◌≡◌ {A = ℕ} 0 1 = cc in absurd (omega arith),
    λ is. inl refl,
  )
  numbers_told (refused number place) e = (λ no-map. none_refused number place no-map e, λ is. inr (body_refused number place is e))
