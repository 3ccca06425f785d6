use Rattle.std.proofs.Common.{◌≡◌, ℕ, suc, ◌<◌, false, get_or, Ok, Err, sym, refl, ap, ◌∙◌, subst, arith}
use Rattle.voxels.specs.Bounded.{count}
use Rattle.voxels.specs.Refusals.{taken}
use Rattle.voxels.specs.Space.{voxel_count}
use Rattle.voxels.proofs.Blocks.{count_small}
use Rattle.voxels.proofs.Bounds.{count_le}
use Rattle.stores.specs.Shapes.{Shape}
use Rattle.stores.specs.Sweeps.{is_set, is_skipped, passes_limit, swept}
use Rattle.stores.proofs.Sweeps.{figures_same, sweep_taken, within_limit}
use Rattle.bodies.specs.Loads.{PlaceDone, word_cell, word_cells}
use Rattle.bodies.proofs.Placing.{placing_starts, turn_past, turn_placed}
use Rattle.bodies.proofs.loads.place_states.Goals as goal

pub loop-index-init : goal.loop-index-init
loop-index-init g c =
    let s = g.S.Store in
    let store = c.args.store.now in
    (refl, placing_starts (s.shape store) (word_cells c.args.words.now) (s.cell store) (g.met.S.Store.laws.enough store c.requires.some))

pub counted-loaded-requires : goal.counted-loaded-requires
counted-loaded-requires g c =
    let s = g.S.Store in
    let store = c.args.store.now in
    let wanted = word_cells c.args.words.now in
    let n = c.loop-index.index in
    let so_far = c.loop-index.invariant.1 in
    let small = count_small (s.shape store).depth in
    let sets = count_le n (is_set (s.shape store) wanted (s.cell store)) in
    let skips = count_le n (is_skipped (s.shape store) wanted (s.cell store)) in
    let end : c.voxel_count-index-end.result ≡ voxel_count (s.shape store).depth = c.voxel_count-index-end.ensures ∙ ap voxel_count c.depth.ensures in
    let inside : n < voxel_count (s.shape store).depth = omega (arith, end, c.loop-index-test.true) in
    (omega (arith, so_far.sets), omega (arith, so_far.skips))

pub returns-in-Err : goal.returns-in-Err
returns-in-Err g c =
    let s = g.S.Store in
    let began = c.args.store.now in
    let words = c.args.words.now in
    let store = c.loop-index.store in
    let n = c.loop-index.index in
    let inv = c.loop-index.invariant in
    let done = c.in-Err.ensures in
    let after = c.place_voxel.new.store in
    let end : c.voxel_count-index-end.result ≡ voxel_count (s.shape began).depth = c.voxel_count-index-end.ensures ∙ ap voxel_count c.depth.ensures in
    let inside : n < voxel_count (s.shape began).depth = omega (arith, end, c.loop-index-test.true) in
    let P : Shape → Type 0 = λ shape. PlaceDone shape (s.cell store) (s.cell after) n (word_cell (get_or words n 0)) (Err c.in-Err.refusal) in
    record {
      answer = turn_past (s.shape began) (word_cells words) (s.cell began) (s.cell store) (s.cell after) n c.loop-index.loaded c.in-Err.refusal inside inv.1 (subst P inv.0 done.done);
      cells = λ i. c.clear.ensures.cells i ∙ sym (c.requires.empty i);
      shape = c.clear.ensures.shape ∙ done.shape ∙ inv.0;
    }

pub loop-index-preserved : goal.loop-index-preserved
loop-index-preserved g c =
    let s = g.S.Store in
    let began = c.args.store.now in
    let words = c.args.words.now in
    let store = c.loop-index.store in
    let n = c.loop-index.index in
    let inv = c.loop-index.invariant in
    let done = c.in-Ok.ensures in
    let after = c.place_voxel.new.store in
    let placed = c.in-Ok.placed in
    let P : Shape → Type 0 = λ shape. PlaceDone shape (s.cell store) (s.cell after) n (word_cell (get_or words n 0)) (Ok placed) in (
      done.shape ∙ inv.0,
      turn_placed (s.shape began) (word_cells words) (s.cell began) (s.cell store) (s.cell after) n c.loop-index.loaded c.counted-loaded.result placed c.counted-loaded.ensures.set c.counted-loaded.ensures.skipped inv.1 (subst P inv.0 done.done),
    )

pub returns : goal.returns
returns g c =
    let s = g.S.Store in
    let began = c.args.store.now in
    let wanted = word_cells c.args.words.now in
    let n = c.loop-index.index in
    let inv = c.loop-index.invariant in
    let so_far = inv.1 in
    let shape = s.shape began in
    let cells = s.cell began in
    let end : c.voxel_count-index-end.result ≡ voxel_count shape.depth = c.voxel_count-index-end.ensures ∙ ap voxel_count c.depth.ensures in
    let whole : n ≡ voxel_count shape.depth = omega (arith, end, c.loop-index-test.false, c.loop-index.auto.index-end) in
    let none : (k : ℕ) → k < voxel_count shape.depth → passes_limit shape wanted cells k ≡ false =
    λ k h. within_limit shape wanted cells k (so_far.fitted (suc k) (omega (arith, whole))) in
    record {
      answer =
          ap taken (figures_same c.loop-index.loaded.set c.loop-index.loaded.skipped _ _ (so_far.sets ∙ ap (λ m. count m (is_set shape wanted cells)) whole) (so_far.skips ∙ ap (λ m. count m (is_skipped shape wanted cells)) whole))
          ∙ sym (sweep_taken shape wanted cells none);
      cells = λ i. so_far.reached i ∙ ap (λ m. swept shape wanted cells m i) whole;
      shape = inv.0;
    }
