use Rattle.std.proofs.Common.{◌≡◌, ℕ, ◌+◌, ◌<◌, ◌≤◌, length, get_or, set, take, None, Ok, Err, sym, refl, ap, ap₂, ◌∙◌, ⊎_elim, subst, arith}
use Rattle.std.proofs.lemmas.Bool.{cases_lt}
use Rattle.std.proofs.lemmas.List.{get_or_past}
use Rattle.voxels.specs.Refusals.{taken}
use Rattle.voxels.specs.Space.{voxel_count}
use Rattle.voxels.proofs.Blocks.{count_small}
use Rattle.voxels.proofs.Bounds.{count_le}
use Rattle.voxels.proofs.Indices.{count_above}
use Rattle.stores.specs.Shapes.{Shape}
use Rattle.stores.specs.Sweeps.{is_set, is_skipped, wanted_by}
use Rattle.stores.specs.Visits.{Midway, Sweeping, VisitDone}
use Rattle.stores.proofs.Sweeps.{reached_cell}
use Rattle.stores.proofs.Sweeping.{ends_swept, kept_before, nothing_swept, nothing_told, sweep_ends, sweep_starts, turn_forth, turn_refused}
use Rattle.stores.proofs.visits.sweep.Given.{Over}
use Rattle.stores.proofs.visits.sweep.Goals as goal
use Rattle.stores.proofs.visits.sweep.Goals.{After-visit_voxel}

pub loop-index-init : goal.loop-index-init
loop-index-init g c =
    let s = g.S.Store in
    let store = c.args.store.now in
    (refl, λ low. sweep_starts (s.shape store) _ (s.cell store) c.args.page.now (g.met.S.Store.laws.ranged store) (g.met.S.Store.laws.enough store low), λ none. (refl, refl, λ i. refl))

-- what a turn knows: the voxel is in the map and has a word, how far the sweep has come, and what the word says
turn : (g : Over) (c : After-visit_voxel g) →
    let s = g.S.Store in let store = c.args.store.now in let page = c.args.page.now in let n = c.loop-index.index in
    (1 ≤ (s.shape store).depth) × (n < voxel_count (s.shape store).depth) × (n < length c.loop-index.page)
    × Sweeping (s.shape store) (wanted_by g.R.Rule.wanted page (s.cell store)) (s.cell store) (s.cell c.loop-index.store) page c.loop-index.page n c.loop-index.swept
    × (wanted_by g.R.Rule.wanted page (s.cell store) n ≡ g.R.Rule.wanted (get_or c.loop-index.page n 0) (s.cell c.loop-index.store n))
turn g c =
    let s = g.S.Store in
    let store = c.args.store.now in
    let n = c.loop-index.index in
    let end : c.voxel_count.result ≡ voxel_count (s.shape store).depth = c.voxel_count.ensures ∙ ap voxel_count c.depth.ensures in
    let inside : n < voxel_count (s.shape store).depth = omega (arith, end, c.min-index-end.ensures, c.loop-index-test.true) in
    let low = (count_above (s.shape store).depth n inside).0 in
    let so_far = c.loop-index.invariant.1 low in
    let here = reached_cell (s.shape store) (wanted_by g.R.Rule.wanted c.args.page.now (s.cell store)) (s.cell store) (s.cell c.loop-index.store) n so_far.mid.reached in (
      low,
      inside,
      omega (arith, c.loop-index.auto.page, c.min-index-end.ensures, c.loop-index-test.true),
      so_far,
      sym (ap₂ g.R.Rule.wanted (so_far.ahead n (omega arith)) here),
    )

pub counting-swept-requires : goal.counting-swept-requires
counting-swept-requires g c =
    let s = g.S.Store in
    let store = c.args.store.now in
    let n = c.loop-index.index in
    let known = turn g (goal.at.counting-swept-requires g c).After-visit_voxel in
    let wanted = wanted_by g.R.Rule.wanted c.args.page.now (s.cell store) in
    let small = count_small (s.shape store).depth in
    let sets = count_le n (is_set (s.shape store) wanted (s.cell store)) in
    let skips = count_le n (is_skipped (s.shape store) wanted (s.cell store)) in
    (omega (arith, known.1, small, sets, known.3.sets), omega (arith, known.1, small, skips, known.3.skips))

pub returns-in-Err : goal.returns-in-Err
returns-in-Err g c =
    let s = g.S.Store in
    let store = c.args.store.now in
    let now = s.cell c.loop-index.store in
    let after = s.cell c.visit_voxel.new.store in
    let n = c.loop-index.index in
    let marks = c.args.page.now in
    let page = c.loop-index.page in
    let shape = s.shape store in
    let wanted = wanted_by g.R.Rule.wanted marks (s.cell store) in
    let known = turn g (goal.at.returns-in-Err g c).After-visit_voxel in
    let so_far = known.3 in
    let word = g.R.Rule.wanted (get_or page n 0) (now n) in
    let V : Shape → Type 0 = λ shape. VisitDone shape now after n word (Err c.in-Err.refusal) in
    let visited = turn_refused shape wanted (s.cell store) now after marks page n c.loop-index.swept c.in-Err.refusal word known.4 known.1 so_far (subst V c.loop-index.invariant.0 c.in-Err.ensures.done) in
    let shape_is = c.in-Err.ensures.shape ∙ c.loop-index.invariant.0 in
    let stood : Midway shape wanted (s.cell store) after page n =
    record { ranged = so_far.mid.ranged; reached = λ i. visited.1 i ∙ so_far.mid.reached i; fitted = so_far.mid.fitted; kept = so_far.mid.kept } in
    let kept = kept_before shape wanted (s.cell store) after page n (omega (arith, known.2)) stood in
    let M : Shape → Type 0 = λ shape. Midway shape wanted (s.cell store) after (take n page) (length (take n page)) in
    record {
      answer = visited.0;
      cells = c.take_back.ensures.cells wanted (s.cell store) (subst M (sym shape_is) kept);
      shape = c.take_back.ensures.shape ∙ shape_is;
      rest = λ k past. so_far.ahead k (omega (arith, known.1, past));
    }

pub loop-index-preserved : goal.loop-index-preserved
loop-index-preserved g c =
    let s = g.S.Store in
    let store = c.args.store.now in
    let now = s.cell c.loop-index.store in
    let after = s.cell c.visit_voxel.new.store in
    let n = c.loop-index.index in
    let marks = c.args.page.now in
    let page = c.loop-index.page in
    let shape = s.shape store in
    let wanted = wanted_by g.R.Rule.wanted marks (s.cell store) in
    let known = turn g (goal.at.loop-index-preserved g c).After-visit_voxel in
    let word = g.R.Rule.wanted (get_or page n 0) (now n) in
    let V : Shape → Type 0 = λ shape. VisitDone shape now after n word (Ok c.in-Ok.visit) in
    let forth = turn_forth shape wanted (s.cell store) now after marks page n c.loop-index.swept c.counting-swept.result c.in-Ok.visit word known.4 known.2 c.counting-swept.ensures.set c.counting-swept.ensures.skipped known.3 (subst V c.loop-index.invariant.0 c.in-Ok.ensures.done) in
    let W : ℕ → Type 0 = λ w. Sweeping shape wanted (s.cell store) after marks (set page n w) (n + 1) c.counting-swept.result in (
      c.in-Ok.ensures.shape ∙ c.loop-index.invariant.0,
      λ low. subst W (sym c.word.ensures) forth,
      λ none. absurd (omega (arith, none, known.0)),
    )

pub returns : goal.returns
returns g c =
    let s = g.S.Store in
    let store = c.args.store.now in
    let now = s.cell c.loop-index.store in
    let n = c.loop-index.index in
    let marks = c.args.page.now in
    let page = c.loop-index.page in
    let shape = s.shape store in
    let wanted = wanted_by g.R.Rule.wanted marks (s.cell store) in
    let end : c.voxel_count.result ≡ voxel_count shape.depth = c.voxel_count.ensures ∙ ap voxel_count c.depth.ensures in
    let last : n ≤ voxel_count shape.depth = omega (arith, end, c.min-index-end.ensures, c.loop-index.auto.index-end) in
    let quiet : (k : ℕ) → n ≤ k → k < voxel_count shape.depth → wanted k ≡ None =
    λ k past inside.
    let beyond : length marks ≤ k = omega (arith, end, c.min-index-end.ensures, c.loop-index-test.false, past, inside) in
    ap (λ w. g.R.Rule.wanted w (s.cell store k)) (get_or_past marks k 0 beyond) ∙ g.met.R.Rule.silent (s.cell store k) in
    ⊎_elim
    (λ none.
    let inv = c.loop-index.invariant.2 (omega (arith, none)) in
    let no_depth : shape.depth ≡ 0 = omega (arith, none) in
    record {
      answer = ap (λ f. taken f) inv.0 ∙ nothing_told shape wanted (s.cell store) no_depth;
      cells = λ i. inv.2 i ∙ nothing_swept shape wanted (s.cell store) no_depth i;
      shape = c.loop-index.invariant.0;
      rest = λ k past. ap (λ ws. get_or ws k 0) inv.1;
    })
    (λ low.
    let so_far = c.loop-index.invariant.1 low in
    record {
      answer = sweep_ends shape wanted (s.cell store) now marks page n c.loop-index.swept last so_far quiet;
      cells = ends_swept shape wanted (s.cell store) now marks page n c.loop-index.swept last so_far quiet;
      shape = c.loop-index.invariant.0;
      rest = λ k past. so_far.ahead k (omega (arith, last, past));
    })
    (cases_lt shape.depth 1)
