use Rattle.std.proofs.Common.{ap, ◌∙◌, arith}
use Rattle.stores.specs.Masks.{closed_by}
use Rattle.stores.proofs.EmptyRuns.{closed_by_none, closed_by_one, closed_by_used}
use Rattle.stores.proofs.mask.Mask.closes.Goals as goal

pub returns-then-run-eq0-clause-value : goal.returns-then-run-eq0-clause-value
returns-then-run-eq0-clause-value c =
    closed_by_used c.self.inside.runs c.loop-run.run-index c.args.index c.loop-run.invariant c.self.invariant.1 c.if-run-eq0.true ∙ ap (λ runs. closed_by runs c.args.index) c.self.view_is

pub returns-then-index-end-clause-value : goal.returns-then-index-end-clause-value
returns-then-index-end-clause-value c =
    c.holds.ensures
    ∙ closed_by_one c.self.inside.runs c.loop-run.run-index c.args.index c.loop-run.invariant c.self.invariant.1 (omega (arith, c.loop-run-test.true, c.self.invariant.0)) (omega (arith, c.if-index-end.true, c.end.ensures))
    ∙ ap (λ runs. closed_by runs c.args.index) c.self.view_is

pub returns-clause-value : goal.returns-clause-value
returns-clause-value c =
    closed_by_none c.self.inside.runs c.loop-run.run-index c.args.index c.loop-run.invariant (λ k past h. absurd (omega (arith, past, h, c.self.invariant.0, c.loop-run-test.false)))
    ∙ ap (λ runs. closed_by runs c.args.index) c.self.view_is
