use Rattle.std.proofs.Common.{Err, sym, ap, ◌∙◌, subst}
use Rattle.std.proofs.lemmas.Result.{err_from_is_err_and}
use Rattle.stores.specs.Visits.{VisitDone}
use Rattle.stores.proofs.Sweeping.{visited_past, visited_set}
use Rattle.stores.proofs.visits.visit_voxel.Goals as goal

pub returns-in_err-set-clause-done : goal.returns-in_err-set-clause-done
returns-in_err-set-clause-done g c =
    let s = g.S.Store in
    let store = c.args.store.now in
    let wanted = g.R.Rule.wanted c.args.word (s.cell store c.args.index) in
    let p = err_from_is_err_and c.from_residual.result c.from_residual.ensures.1 in
    let past = visited_past (s.shape store) (s.cell store) (s.cell c.set.new.self) c.args.index c.in-Some.cell wanted (ap (g.R.Rule.wanted c.args.word) (sym c.read-old.ensures) ∙ sym c.wanted.ensures.value ∙ c.in-Some.is) (sym c.if-not-open.ensures) c.in-Some.ensures.range c.in_err-set.field-0.0 c.in_err-set.ensures.done in
    subst (VisitDone (s.shape store) (s.cell store) (s.cell c.set.new.self) c.args.index wanted) (sym (p.1 ∙ ap Err p.2)) past

pub returns-clause-done : goal.returns-clause-done
returns-clause-done g c =
    let s = g.S.Store in
    let store = c.args.store.now in
    visited_set (s.shape store) (s.cell store) (s.cell c.set.new.self) c.args.index c.in-Some.cell (g.R.Rule.wanted c.args.word (s.cell store c.args.index)) (ap (g.R.Rule.wanted c.args.word) (sym c.read-old.ensures) ∙ sym c.wanted.ensures.value ∙ c.in-Some.is) (sym c.if-not-open.ensures) c.in-Some.ensures.range c.read-old.result c.read-old.ensures c.in_ok-set.ensures.done
