use Rattle.std.proofs.Common.{sym, refl, arith}
use Rattle.std.proofs.lemmas.Bool.{eqb-true, eqb-false}
use Rattle.bodies.proofs.WholeBodies.{whole_taken, whole_trailing, whole_wrong}
use Rattle.std.proofs.lemmas.Result.{err_from_is_err_and}
use Rattle.bodies.proofs.reader.read_body.Goals as goal

pub returns-then-is_empty : goal.returns-then-is_empty
returns-then-is_empty c =
    whole_taken c.args.depth c.args.body.now c.args.words.now c.read_pair.new.words c.root.result.level c.root.result.first c.root.ensures.level c.root.ensures.first c.in_ok-left.left c.in_ok-left.ensures (eqb-true _ 0 (sym c.if-is_empty.ensures))

pub returns-else-is_empty : goal.returns-else-is_empty
returns-else-is_empty c =
    rw c.at.ensures (whole_trailing c.args.depth c.args.body.now c.args.words.now c.read_pair.new.words c.root.result.level c.root.result.first c.root.ensures.level c.root.ensures.first c.in_ok-left.left record { reason = _; place = c.in_ok-left.left.at } c.in_ok-left.ensures (omega (arith, eqb-false _ 0 (sym c.if-is_empty.ensures))) refl refl)

pub returns-in_err-left : goal.returns-in_err-left
returns-in_err-left c =
    let p = err_from_is_err_and c.from_residual.result c.from_residual.ensures.1 in
    rw (p.1, p.2) (whole_wrong c.args.depth c.args.body.now c.args.words.now c.read_pair.new.words c.root.result.level c.root.result.first c.root.ensures.level c.root.ensures.first c.in_err-left.field-0.0 c.in_err-left.ensures)
