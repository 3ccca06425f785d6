use Rattle.std.proofs.Common.{◌≡◌, ℕ, Bool, true, false, ◌&&◌, eqb, sym, ap, ◌∙◌, arith, rules, tests}
use Rattle.std.proofs.lemmas.Iterator.{YieldsList-from_range, cases_from_all}
use Rattle.std.proofs.lemmas.Bool.{ne_eqb, not_from_false}
use Rattle.bodies.specs.Codes.{child_code}
use Rattle.voxels.specs.Bounded.{all}
use Rattle.bodies.proofs.Ranges.{all_from_all}
use Rattle.bodies.proofs.codes.Pair.is_uniform.Goals as goal

pub returns-then-bits-ne-MIXED : goal.returns-then-bits-ne-MIXED
returns-then-bits-ne-MIXED c =
    let code = child_code c.args.self.first c.args.self.second in
    let P : ℕ → Bool = λ j. eqb (code j) (code 0) in
    let every = all_from_all 8 P c.all.result (cases_from_all _ _ _ (λ x. P x ≡ true) (λ x. P x ≡ false) c.all.ensures.ran (YieldsList-from_range 0 8 8 (cc) (omega arith)) (λ x q k. search (rules, tests)) (λ x q k. search (rules, tests))) in
    every ∙ ap (λ b. b && all 8 P) (sym (not_from_false (eqb (code 0) 3) (ne_eqb _ _ (λ e. c.if-bits-ne-MIXED.true (c.bits-bits.ensures ∙ e)))))
