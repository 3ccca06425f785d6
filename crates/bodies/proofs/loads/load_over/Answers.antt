use Rattle.std.proofs.Common.{◌≡◌, ℕ, sym, refl, ap, ◌∙◌, arith}
use Rattle.std.proofs.lemmas.Result.{err_from_is_err_and}
use Rattle.voxels.specs.Refusals.{told}
use Rattle.voxels.specs.declared.cells.Cell.TheVariants.{Unknown}
use Rattle.voxels.proofs.Blocks.{map_depth}
use Rattle.bodies.specs.Loads.{load_cells, states_answer}
use Rattle.bodies.specs.Readings.{read_body}
use Rattle.bodies.proofs.LoadCalls.{loaded_same, states_answer_lem, states_cells_lem, states_refused, states_stand}
use Rattle.bodies.proofs.Loading.{all_unknown, load_known, load_states}
use Rattle.bodies.proofs.Packing.{bytes_all}
use Rattle.bodies.proofs.loads.load_over.Goals as goal

pub returns-then-any_known-clause-answer : goal.returns-then-any_known-clause-answer
returns-then-any_known-clause-answer g c =
    let s = g.S.Store in
    let store = c.args.store.now in
    rw c.into.ensures (sym (load_known (s.shape store) (s.cell store) c.args.body.now (sym c.any_known.ensures ∙ c.if-any_known.true)))

pub returns-in_err-read_body : goal.returns-in_err-read_body
returns-in_err-read_body g c =
    let s = g.S.Store in
    let store = c.args.store.now in
    let shape = s.shape store in
    let cells = s.cell store in
    let body = c.args.body.now in
    let empty : (i : ℕ) → cells i ≡ Unknown = all_unknown shape.depth cells (g.met.S.Store.laws.outside store) (sym c.any_known.ensures ∙ c.if-any_known.false) in
    let refused-so = states_refused shape.depth c.depth.result body c.args.page.now c.read_body.new.words c.depth.ensures c.requires.some (g.met.S.Store.laws.shallow store) c.in_err-read_body.field-0.0 c.in_err-read_body.ensures in
    let p = err_from_is_err_and c.from_residual.result c.from_residual.ensures.1 in
    rw (p.1, p.2) record {
      answer = sym (load_states shape cells body empty ∙ ap (states_answer shape cells) refused-so.0);
      cells = λ i. refl;
      same = tt;
      rest = refused-so.1;
      shape = refl;
    }

pub place_states-requires : goal.place_states-requires
place_states-requires g c =
    let s = g.S.Store in
    let store = c.args.store.now in
    record {
      some = c.requires.some;
      long = omega (arith, c.requires.long, c.read_body.auto.words);
      empty = all_unknown (s.shape store).depth (s.cell store) (g.met.S.Store.laws.outside store) (sym c.any_known.ensures ∙ c.if-any_known.false);
    }

pub returns : goal.returns
returns g c =
    let s = g.S.Store in
    let store = c.args.store.now in
    let shape = s.shape store in
    let cells = s.cell store in
    let body = c.args.body.now in
    let words = c.read_body.new.words in
    let empty : (i : ℕ) → cells i ≡ Unknown = all_unknown shape.depth cells (g.met.S.Store.laws.outside store) (sym c.any_known.ensures ∙ c.if-any_known.false) in
    let stand = states_stand shape.depth c.depth.result body c.args.page.now words c.depth.ensures c.requires.some (g.met.S.Store.laws.shallow store) c.in_ok-read_body.field-0 c.requires.long c.in_ok-read_body.ensures in
    let done = c.place_states.ensures in
    let answer : told c.place_states.result ≡ states_answer shape cells (read_body shape.depth body) = done.answer ∙ states_answer_lem shape cells words body stand.0 stand.1 stand.2 in
    let after = s.cell c.place_states.new.store in
    let left : (i : ℕ) → after i ≡ load_cells shape cells (told c.place_states.result) body i = λ i. done.cells i ∙ states_cells_lem shape cells words body stand.0 stand.1 stand.2 (told c.place_states.result) i in
    let bytes = bytes_all body (λ i. omega (arith, c.type_inv.body i)) in
    record {
      answer = answer ∙ sym (load_states shape cells body empty);
      cells = left;
      same = loaded_same shape cells after body stand.0 (told c.place_states.result) empty (map_depth shape.depth c.requires.some (g.met.S.Store.laws.shallow store)) bytes stand.1 answer left;
      rest = stand.3;
      shape = done.shape;
    }
