use Rattle.std.proofs.Common.{ℕ, sym, subst}
use Rattle.voxels.specs.Refusals.{refused, number_of}
use Rattle.bodies.specs.Verdicts.{NumbersTold}
use Rattle.bodies.proofs.Numbers.{numbers_told}
use Rattle.bodies.proofs.checks.verdict.Goals as goal

pub returns-in-Err-clause-numbers : goal.returns-in-Err-clause-numbers
returns-in-Err-clause-numbers c =
    let P : ℕ → Type 0 = NumbersTold c.args.depth in
    subst P (sym c.number.ensures) (numbers_told c.args.depth c.args.body.now (refused (number_of c.in-Err.refusal.reason) c.in-Err.refusal.place) (sym c.in-Err.ensures.answer))
