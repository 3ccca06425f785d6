-- The front of the output after a write is the body.
use Rattle.std.proofs.Common.{◌≡◌, ℕ, ◌≤◌, List, ◌++◌, length, take, sym, ap, ◌∙◌, append_assoc, arith}
use lib.Seq.{take-append_seam}
use Rattle.std.proofs.lemmas.Bool.Decides.{nat_tests}
use Rattle.std.proofs.lemmas.Grind.{common_steps}
use Rattle.std.proofs.lemmas.List.{take-take}
use Rattle.bodies.specs.Bodies.{map_body}
use Rattle.bodies.specs.Writes.{write_answer}
use Rattle.voxels.specs.Pages.{over_page}
use Rattle.voxels.specs.Refusals.{taken}
use Rattle.voxels.specs.declared.cells.Cell.{Cell}
use Rattle.geltzori.specs.Filing.{IsBody}

module _ (depth : ℕ) (cells : ℕ → Cell) (words room size : ℕ) (answer : taken size ≡ write_answer depth cells words room) where
  -- a write that is taken tells the body's length, and there is room for it
  fits : (size ≡ length (map_body depth cells)) × (length (map_body depth cells) ≤ room)
  unfolding over_page
  fits = grind (arith, common_steps, nat_tests)

  -- as it is read again, with what the vector keeps behind its length
  front : (output behind spare after : List ℕ) → output ≡ map_body depth cells ++ behind → after ≡ take room (output ++ spare) → take size after ≡ map_body depth cells
  front output behind spare after put seen =
      rw (fits.0, seen, put, append_assoc, take-take (length (map_body depth cells)) room (map_body depth cells ++ (behind ++ spare)) fits.1) (take-append_seam (map_body depth cells) (behind ++ spare))

  pub front_body : (output behind spare after : List ℕ) → output ≡ map_body depth cells ++ behind → after ≡ take room (output ++ spare)
      → (size ≡ length (take size after)) × IsBody depth cells words room (take size after)
  front_body output behind spare after put seen =
      let body = front output behind spare after put seen in
      let long = fits.0 ∙ sym (ap length body) in
      (long, (body, sym answer ∙ ap taken long))
