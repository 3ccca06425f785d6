use Rattle.std.proofs.Common.{Err, sym, ap, ◌∙◌, subst}
use Rattle.std.proofs.lemmas.Result.{err_from_is_err_and}
use Rattle.bodies.specs.Loads.{PlaceDone, word_cell}
use Rattle.bodies.proofs.Placing.{placed_past, placed_set}
use Rattle.bodies.proofs.loads.place_voxel.Goals as goal

pub returns-in_err-set-clause-done : goal.returns-in_err-set-clause-done
returns-in_err-set-clause-done g c =
    let s = g.S.Store in
    let store = c.args.store.now in
    let p = err_from_is_err_and c.from_residual.result c.from_residual.ensures.1 in
    let past = placed_past (s.shape store) (s.cell store) (s.cell c.set.new.self) c.args.index c.args.word c.in-Some.cell c.in-Some.ensures c.if-not-open.ensures c.in_err-set.field-0.0 c.in_err-set.ensures.done in
    subst (PlaceDone (s.shape store) (s.cell store) (s.cell c.set.new.self) c.args.index (word_cell c.args.word)) (sym (p.1 ∙ ap Err p.2)) past

pub returns-clause-done : goal.returns-clause-done
returns-clause-done g c =
    let s = g.S.Store in
    let store = c.args.store.now in
    placed_set (s.shape store) (s.cell store) (s.cell c.set.new.self) c.args.index c.args.word c.in-Some.cell c.in-Some.ensures c.if-not-open.ensures c.in_ok-set.ensures.done
