use Rattle.std.proofs.Common.{◌≡◌, ◌≤◌}
use Rattle.stores.specs.Sweeps.{wanted_by}
use Rattle.stores.specs.Visits.{Sweeping, Unchanged}
use Rattle.stores.proofs.visits.sweep.Given as goal

abbrev pub invariant-loop-index : goal.invariant-loop-index
invariant-loop-index g l =
    let s = g.S.Store in
    let began = l.initial.store in
    (s.shape l.store ≡ s.shape began)
    × (1 ≤ (s.shape began).depth → Sweeping (s.shape began) (wanted_by g.R.Rule.wanted l.initial.page (s.cell began)) (s.cell began) (s.cell l.store) l.initial.page l.page l.index l.swept)
    × ((s.shape began).depth ≡ 0 → (l.swept ≡ record { set = 0; skipped = 0 }) × (l.page ≡ l.initial.page) × Unchanged (s.cell began) (s.cell l.store))
