use Rattle.std.proofs.Common.{◌∙◌, ap₂}
use Rattle.bodies.specs.Writes.{write_answer}
use Rattle.geltzori.proofs.Filing.{front_body}
use Rattle.geltzori.proofs.replay.Lent.body.Goals as goal

pub slice_bounds-result-end : goal.slice_bounds-result-end
slice_bounds-result-end g c =
    let depth = (g.S.Store.shape c.args.store.now).depth in
    let cells = g.S.Store.cell c.args.store.now in
    let answer = c.in_ok-length.ensures.answer ∙ ap₂ (write_answer depth cells) c.deref_mut.ensures.len c.deref_mut-2.ensures.len in
    (front_body depth cells _ _ c.in_ok-length.length answer c.write.new.output _ _ c.deref.result.now c.in_ok-length.ensures.bytes c.deref.ensures.value).0

pub returns : goal.returns
returns g c =
    let depth = (g.S.Store.shape c.args.store.now).depth in
    let cells = g.S.Store.cell c.args.store.now in
    let answer = c.in_ok-length.ensures.answer ∙ ap₂ (write_answer depth cells) c.deref_mut.ensures.len c.deref_mut-2.ensures.len in
    (front_body depth cells _ _ c.in_ok-length.length answer c.write.new.output _ _ c.deref.result.now c.in_ok-length.ensures.bytes c.deref.ensures.value).1
