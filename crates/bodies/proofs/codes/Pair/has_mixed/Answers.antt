use Rattle.std.proofs.Common.{◌≡◌, ℕ, Bool, true, false, eqb, arith, rules, tests}
use Rattle.std.proofs.lemmas.Iterator.{YieldsList-from_range, cases_from_any}
use Rattle.bodies.specs.Codes.{child_code}
use Rattle.bodies.proofs.Ranges.{some_from_any}
use Rattle.bodies.proofs.codes.Pair.has_mixed.Goals as goal

pub returns : goal.returns
returns c =
    let P : ℕ → Bool = λ j. eqb (child_code c.args.self.first c.args.self.second j) 3 in
    some_from_any 8 P c.any.result (cases_from_any _ _ _ (λ x. P x ≡ true) (λ x. P x ≡ false) c.any.ensures.ran (YieldsList-from_range 0 8 8 (cc) (omega arith)) (λ x q k. search (rules, tests)) (λ x q k. search (rules, tests)))
