use Rattle.std.proofs.Common.{length, sym, refl, ◌∙◌}
use Rattle.std.proofs.lemmas.Result.{err_from_is_err_and}
use Rattle.voxels.specs.Refusals.{number_of}
use Rattle.voxels.proofs.WorkPages.{guard_left, over_enough, page_refused, page_taken}
use Rattle.bodies.specs.Writes.{room_answer}
use Rattle.bodies.proofs.Written.{only_states, reads_back}
use Rattle.bodies.proofs.writes.write.Goals as goal

pub returns-in_err-check_page : goal.returns-in_err-check_page
returns-in_err-check_page g c =
    let s = g.S.Store in
    let store = c.args.store.now in
    let depth = (s.shape store).depth in
    let page = c.args.page.now in
    let refusal = c.in_err-check_page.field-0.0 in
    let p = err_from_is_err_and c.from_residual.result c.from_residual.ensures.1 in
    let left = page_refused depth page (number_of refusal.reason) refusal.place (room_answer depth (s.cell store) (length c.args.output.now)) c.depth-depth.ensures c.in_err-check_page.ensures in
    rw (p.1, p.2) record {
      answer = left.0;
      bytes = refl {a = c.args.output.now};
      page = left.1;
      back = reads_back depth (s.cell store);
      only = only_states depth (s.cell store);
    }

pub write_over-requires : goal.write_over-requires
write_over-requires g c =
    let enough = page_taken (g.S.Store.shape c.args.store.now).depth (length c.args.page.now) c.depth-depth.ensures c.in_ok-check_page.ensures in
    record { some = enough.0; long = enough.1 }

pub returns : goal.returns
returns g c =
    let s = g.S.Store in
    let store = c.args.store.now in
    let depth = (s.shape store).depth in
    let page = c.args.page.now in
    let done = c.write_over.ensures in
    let enough = page_taken depth (length page) c.depth-depth.ensures c.in_ok-check_page.ensures in
    record {
      answer = done.answer ∙ sym (over_enough depth (length page) (room_answer depth (s.cell store) (length c.args.output.now)) enough.0 enough.1);
      bytes = done.bytes;
      page = guard_left depth page enough.1 c.write_over.new.words _ c.depth-depth.result c.depth-depth.ensures c.write_over.auto.words done.rest c.drop-guard.ensures;
      back = reads_back depth (s.cell store);
      only = only_states depth (s.cell store);
    }
