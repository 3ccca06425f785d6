use Rattle.std.proofs.Common.{◌≡◌, ℕ, Bool, true, false, refl, ap, ◌∙◌, arith, rules, tests}
use Rattle.std.proofs.lemmas.Iterator.{YieldsList-from_range, cases_from_any}
use Rattle.voxels.specs.Bounded.{some}
use Rattle.voxels.specs.Space.{voxel_count}
use Rattle.bodies.specs.Loads.{is_known}
use Rattle.bodies.proofs.Ranges.{some_from_any}
use Rattle.bodies.proofs.loads.any_known.Goals as goal

pub returns : goal.returns
returns g c =
    let cells = g.S.Store.cell c.args.store.now in
    let P : ℕ → Bool = λ i. is_known (cells i) in
    let n = c.voxel_count.result in
    let count = c.voxel_count.ensures ∙ ap voxel_count c.depth.ensures in
    some_from_any n P c.any.result (cases_from_any _ _ _ (λ x. P x ≡ true) (λ x. P x ≡ false) c.any.ensures.ran (YieldsList-from_range 0 n n refl (omega arith)) (λ x q k. search (rules, tests)) (λ x q k. search (rules, tests)))
    ∙ ap (λ m. some m P) count
