use Rattle.std.proofs.Common.{◌≡◌, Some, refl, ap, ◌∙◌, option_map}
use Rattle.std.proofs.lemmas.Option.{MatchOption-at_none, MatchOption-at_some}
use Rattle.std.proofs.lemmas.Result.{err_from_is_err_and}
use Rattle.voxels.specs.declared.refusals.Reason.TheVariants.{MalformedLine, NoLineFeed}
use Rattle.scans.specs.Lines.{CutAt, said_by}
use Rattle.scans.specs.Texts.{said}
use Rattle.scans.proofs.Reading.{no_form, no_line, ok_or_none, step_refused, step_took, wrong_line}
use Rattle.scans.proofs.reader.Reader.step.Goals as goal
use Rattle.scans.proofs.reader.Reader.step.Goals.{In_ok-bytes, In_ok-line}

pub returns-in_err-bytes : goal.returns-in_err-bytes
returns-in_err-bytes c progress stands =
    let p = err_from_is_err_and c.from_residual.result c.from_residual.ensures.1 in
    let none = c.in_err-bytes.ensures.ok_part in
    step_refused c.args.self.now progress NoLineFeed c.from_residual.result (no_line c.args.self.now progress (MatchOption-at_none _ _ none c.split_once.ensures))
    (p.0, p.1, p.2 ∙ ok_or_none _ NoLineFeed _ none c.in_err-bytes.ensures.value)

-- the line, and what is behind it
cut : (c : goal.In_ok-bytes) → CutAt 10 c.args.self.now.rest.now c.in_ok-bytes.bytes.now c.in_ok-bytes.rest.now
cut c = MatchOption-at_some _ _ (c.in_ok-bytes.bytes, c.in_ok-bytes.rest) c.in_ok-bytes.ensures.ok_part c.split_once.ensures

pub returns-in_err-line : goal.returns-in_err-line
returns-in_err-line c progress stands =
    let p = err_from_is_err_and c.from_residual-in_err-line.result c.from_residual-in_err-line.ensures.1 in
    let none = c.in_err-line.ensures.ok_part in
    step_refused c.args.self.now progress MalformedLine c.from_residual-in_err-line.result
    (no_form c.args.self.now progress c.in_ok-bytes.bytes.now c.in_ok-bytes.rest.now (cut (goal.at.returns-in_err-line c).In_ok-bytes) (c.line_of.ensures ∙ ap (option_map said_by) none))
    (p.0, p.1, p.2 ∙ ok_or_none _ MalformedLine _ none c.in_err-line.ensures.value)

-- what the line says
says : (c : goal.In_ok-line) → said c.in_ok-bytes.bytes.now ≡ Some (said_by c.in_ok-line.line)
says c = c.line_of.ensures ∙ ap (option_map said_by) c.in_ok-line.ensures.ok_part

pub returns-in_err-self : goal.returns-in_err-self
returns-in_err-self c progress stands =
    let p = err_from_is_err_and c.from_residual-in_err-self.result c.from_residual-in_err-self.ensures.1 in
    step_refused c.args.self.now progress c.in_err-self.field-0.0 c.from_residual-in_err-self.result
    (wrong_line c.args.self.now progress c.in_ok-bytes.bytes.now c.in_ok-bytes.rest.now (cut (goal.at.returns-in_err-self c).In_ok-bytes) (said_by c.in_ok-line.line) (says (goal.at.returns-in_err-self c).In_ok-line) _ (c.in_err-self.ensures progress stands))
    p

pub returns : goal.returns
returns c progress stands =
    let judged = c.in_ok-self.ensures progress stands in
    step_took c.in_ok-bytes.bytes.now (cut (goal.at.returns c).In_ok-bytes) refl refl (says (goal.at.returns c).In_ok-line) judged.0 judged.1
