use Rattle.std.proofs.Common.{length, sym, refl, ◌∙◌, subst, arith}
use Rattle.std.proofs.lemmas.Result.{err_from_is_err_and}
use Rattle.voxels.specs.Refusals.{Told, number_of}
use Rattle.voxels.proofs.WorkPages.{guard_left, over_enough, page_refused, page_taken}
use Rattle.stores.specs.declared.visits.Swept.{Swept}
use Rattle.bodies.specs.Loads.{MalformedExactly, body_answer}
use Rattle.bodies.proofs.Loading.{load_exact}
use Rattle.bodies.proofs.Packing.{bytes_all}
use Rattle.bodies.proofs.loads.load.Goals as goal

pub returns-in_err-check_page : goal.returns-in_err-check_page
returns-in_err-check_page g c =
    let s = g.S.Store in
    let store = c.args.store.now in
    let shape = s.shape store in
    let page = c.args.page.now in
    let body = c.args.body.now in
    let refusal = c.in_err-check_page.field-0.0 in
    let bytes = bytes_all body (λ i. omega (arith, c.type_inv.body i)) in
    let left = page_refused shape.depth page (number_of refusal.reason) refusal.place (body_answer shape (s.cell store) body) c.depth-depth.ensures c.in_err-check_page.ensures in
    let p = err_from_is_err_and c.from_residual.result c.from_residual.ensures.1 in
    let P : Told Swept → Type 0 = MalformedExactly shape.depth (s.cell store) (length page) body in
    rw (p.1, p.2) record {
      answer = left.0;
      cells = λ i. refl;
      page = left.1;
      exact = subst P (sym left.0) (load_exact shape (s.cell store) (length page) body (g.met.S.Store.laws.shallow store) bytes);
      same = tt;
      shape = refl;
    }

pub load_over-requires : goal.load_over-requires
load_over-requires g c =
    let enough = page_taken (g.S.Store.shape c.args.store.now).depth (length c.args.page.now) c.depth-depth.ensures c.in_ok-check_page.ensures in
    record { some = enough.0; long = enough.1 }

pub returns : goal.returns
returns g c =
    let s = g.S.Store in
    let store = c.args.store.now in
    let shape = s.shape store in
    let page = c.args.page.now in
    let body = c.args.body.now in
    let done = c.load_over.ensures in
    let enough = page_taken shape.depth (length page) c.depth-depth.ensures c.in_ok-check_page.ensures in
    let bytes = bytes_all body (λ i. omega (arith, c.type_inv.body i)) in
    let answer = done.answer ∙ sym (over_enough shape.depth (length page) (body_answer shape (s.cell store) body) enough.0 enough.1) in
    let P : Told Swept → Type 0 = MalformedExactly shape.depth (s.cell store) (length page) body in
    record {
      answer = answer;
      cells = done.cells;
      page = guard_left shape.depth page enough.1 c.load_over.new.page _ c.depth-depth.result c.depth-depth.ensures c.load_over.auto.page done.rest c.drop-guard.ensures;
      exact = subst P (sym answer) (load_exact shape (s.cell store) (length page) body (g.met.S.Store.laws.shallow store) bytes);
      same = done.same;
      shape = done.shape;
    }
