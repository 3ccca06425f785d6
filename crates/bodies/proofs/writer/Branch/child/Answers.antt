use Rattle.std.proofs.Common.{arith}
use Rattle.bodies.proofs.PairCodes.{branch_above, child_in_words}
use Rattle.bodies.proofs.writer.Branch.child.Goals as goal

pub invariant_of-result-clause-long : goal.invariant_of-result-clause-long
invariant_of-result-clause-long c = child_in_words c.args.self c.child.result c.args.child c.requires.one c.child.ensures.level c.child.ensures.first

pub invariant_of-result-clause-above : goal.invariant_of-result-clause-above
invariant_of-result-clause-above c = omega (arith, c.child.ensures.level, branch_above c.args.self c.args.child c.requires.mixed)
