use Rattle.std.proofs.Common.{◌≡◌, Ok, Err, ap, ◌∙◌, subst, rules}
use Rattle.std.proofs.lemmas.Result.{err_from_is_err_and}
use Rattle.scans.specs.Steps.{Stepped, Took}
use Rattle.scans.specs.declared.lines.Line as line
use Rattle.scans.proofs.LineReading.{Returns, read_end, read_origin, read_refused, read_return, read_returns, returns_hold}
use Rattle.scans.proofs.marks.mark_lines.Goals as goal
use Rattle.scans.proofs.marks.mark_lines.Goals.{In_ok-map_err, In-Return, In-Some}

-- the step over a line that is taken
took : (c : goal.In_ok-map_err) → Took c.loop-hit.reader c.step.new.self c.loop-hit.invariant.progress c.in_ok-map_err.field-0
took c =
    let ok : c.step.result ≡ Ok c.in_ok-map_err.field-0 = search rules in
    subst (Stepped c.loop-hit.reader c.step.new.self c.loop-hit.invariant.progress) ok (c.step.ensures c.loop-hit.invariant.progress c.loop-hit.invariant.stands)

pub returns-in_err-map_err : goal.returns-in_err-map_err
returns-in_err-map_err c =
    let read = c.loop-hit.invariant in
    let p = err_from_is_err_and c.from_residual.result c.from_residual.ensures.1 in
    read_refused c.args.depth c.args.text.now c.loop-hit.reader c.step.new.self c.loop-hit.words read c.step.result c.map_err.result c.in_err-map_err.field-0.0 c.from_residual.result
    (c.step.ensures read.progress read.stands) (search rules) c.in_err-map_err.was (p.1 ∙ ap Err p.2)

pub loop-hit-smaller-in-Origin : goal.loop-hit-smaller-in-Origin
loop-hit-smaller-in-Origin c = (took (goal.at.loop-hit-smaller-in-Origin c).In_ok-map_err).further

pub loop-hit-preserved-in-Origin : goal.loop-hit-preserved-in-Origin
loop-hit-preserved-in-Origin c =
    let read = c.loop-hit.invariant in
    read_origin c.args.depth c.args.text.now c.loop-hit.reader c.step.new.self c.loop-hit.words c.in-Origin.field-0 read.progress read.depth_is read.tells read.marked read.reached
    (subst (Took c.loop-hit.reader c.step.new.self read.progress) c.in-Origin.is (took (goal.at.loop-hit-preserved-in-Origin c).In_ok-map_err))

took_return : (c : goal.In-Return) → Took c.loop-hit.reader c.step.new.self c.loop-hit.invariant.progress (line.TheVariants.Return c.in-Return.hit c.in-Return.end)
took_return c = subst (Took c.loop-hit.reader c.step.new.self c.loop-hit.invariant.progress) c.in-Return.is (took (goal.at.In-Return c).In_ok-map_err)

returns : (c : goal.In-Some) → Returns c.args.depth c.args.text.now c.loop-hit.reader c.step.new.self c.loop-hit.words c.in-Return.hit c.in-Return.end c.loop-hit.invariant.progress c.in-Some.since
returns c =
    read_returns c.args.depth c.args.text.now c.loop-hit.reader c.step.new.self c.loop-hit.words c.in-Return.hit c.in-Return.end c.loop-hit.invariant.progress c.in-Some.since c.loop-hit.invariant.depth_is c.in-Some.is (took_return (goal.at.In-Some c).In-Return)

pub mark_return-requires-clause-from : goal.mark_return-requires-clause-from
mark_return-requires-clause-from c = (returns (goal.at.mark_return-requires-clause-from c).In-Some).from

pub mark_return-requires-clause-to : goal.mark_return-requires-clause-to
mark_return-requires-clause-to c = (returns (goal.at.mark_return-requires-clause-to c).In-Some).to

pub loop-hit-smaller-in-Some : goal.loop-hit-smaller-in-Some
loop-hit-smaller-in-Some c = (took (goal.at.loop-hit-smaller-in-Some c).In_ok-map_err).further

pub loop-hit-preserved-in-Some : goal.loop-hit-preserved-in-Some
loop-hit-preserved-in-Some c =
    read_return c.args.depth c.args.text.now c.loop-hit.reader c.step.new.self c.loop-hit.words c.in-Return.hit c.in-Return.end c.mark_return.new.words c.in-Some.since c.loop-hit.invariant
    (took_return (goal.at.loop-hit-preserved-in-Some c).In-Return) (returns (goal.at.loop-hit-preserved-in-Some c).In-Some) c.mark_return.ensures

pub loop-hit-smaller : goal.loop-hit-smaller
loop-hit-smaller c = (took (goal.at.loop-hit-smaller c).In_ok-map_err).further

pub loop-hit-preserved : goal.loop-hit-preserved
loop-hit-preserved c =
    absurd (returns_hold c.args.depth c.args.text.now c.loop-hit.reader c.step.new.self c.loop-hit.words c.in-Return.hit c.in-Return.end c.loop-hit.invariant.progress c.in_default.is (took_return (goal.at.loop-hit-preserved c).In-Return))

pub returns-in-End : goal.returns-in-End
returns-in-End c =
    read_end c.args.depth c.args.text.now c.loop-hit.reader c.step.new.self c.loop-hit.words c.loop-hit.invariant
    (subst (Took c.loop-hit.reader c.step.new.self c.loop-hit.invariant.progress) c.in-End.is (took (goal.at.returns-in-End c).In_ok-map_err))
