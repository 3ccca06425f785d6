use Rattle.std.proofs.Common.{sym, refl, ◌∙◌}
use Rattle.stores.specs.Masks.{closed_by}
use Rattle.stores.proofs.SetAnswers.{answer_masked, answer_unmasked}
use Rattle.stores.proofs.masked.MaskedStore.set.Goals as goal

pub returns-then-closes-clause-done : goal.returns-then-closes-clause-done
returns-then-closes-clause-done g c =
    let store = c.args.self.now.store in
    let mask = c.args.self.now.mask in
    let s = g.S.Store in
    record {
      tells = rw c.into.ensures (sym (answer_masked (s.shape store) (closed_by mask) (s.cell store) c.args.index c.args.value (sym c.if-closes.ensures.value)));
      leaves = λ j. refl;
    }

pub returns-clause-done : goal.returns-clause-done
returns-clause-done g c =
    let store = c.args.self.now.store in
    let mask = c.args.self.now.mask in
    let s = g.S.Store in
    record {
      tells = c.set.ensures.done.tells ∙ sym (answer_unmasked (s.shape store) (closed_by mask) (s.cell store) c.args.index c.args.value (sym c.if-closes.ensures.value));
      leaves = c.set.ensures.done.leaves;
    }
