use Rattle.std.proofs.Common.{◌≡◌, ℕ, ◌<◌, ◌≤◌, sym, refl, ap, ◌∙◌, arith}
use mathlib.Core.Path.{fun_ext}
use Rattle.voxels.specs.Cells.{put}
use Rattle.voxels.specs.Cubes.{blocks_needed}
use Rattle.stores.proofs.GridCells.{grid_not_open, grid_open}
use Rattle.stores.proofs.SetAnswers.{answer_not_open, answer_out_of_range, answer_past_limit, answer_taken}
use Rattle.tables.specs.FullLaws.{full_shape, nothing, nothing_needed}
use Rattle.tables.proofs.FullSets.{one_too_many, put_nothing}
use Rattle.tables.proofs.full.FullStore.set.Goals as goal

pub returns-then-index-ge64-clause-done : goal.returns-then-index-ge64-clause-done
returns-then-index-ge64-clause-done c =
    record { tells = rw c.into.ensures (sym (answer_not_open full_shape nothing c.args.index c.args.value (grid_not_open 2 c.args.index c.if-index-ge64.true))); leaves = λ j. refl }

pub returns-then-not-in_range-clause-done : goal.returns-then-not-in_range-clause-done
returns-then-not-in_range-clause-done c =
    record { tells = rw c.into-then-not-in_range.ensures (sym (answer_out_of_range full_shape nothing c.args.index c.args.value (grid_open 2 c.args.index c.if-index-ge64.false) (sym c.in_range.ensures ∙ c.if-not-in_range.true))); leaves = λ j. refl }

pub returns-in-Unknown-clause-done : goal.returns-in-Unknown-clause-done
returns-in-Unknown-clause-done c =
    let i = c.args.index in
    let same : (j : ℕ) → nothing j ≡ put nothing i c.args.value j = λ j. put_nothing i j ∙ ap (λ v. put nothing i v j) (sym c.in-Unknown.is) in
    let fits : blocks_needed 2 (put nothing i c.args.value) ≤ 1 = omega (arith, nothing_needed, ap (blocks_needed 2) (fun_ext same)) in
    record { tells = sym (answer_taken full_shape nothing i c.args.value (grid_open 2 i c.if-index-ge64.false) (sym c.in_range.ensures ∙ c.if-not-in_range.false) fits); leaves = same }

pub returns-in-Known-clause-done : goal.returns-in-Known-clause-done
returns-in-Known-clause-done c =
    let i = c.args.index in
    let v = c.in-Known.field-0 in
    let more : 1 < blocks_needed 2 (put nothing i c.args.value) = omega (arith, one_too_many i v c.if-index-ge64.false, ap (λ k. blocks_needed 2 (put nothing i k)) c.in-Known.is) in
    record { tells = rw c.at.ensures (sym (answer_past_limit full_shape nothing i c.args.value (grid_open 2 i c.if-index-ge64.false) (sym c.in_range.ensures ∙ c.if-not-in_range.false) more)); leaves = λ j. refl }
