use Rattle.std.proofs.Common.{◌≡◌}
use Rattle.bodies.specs.Loads.{Placing, word_cells}
use Rattle.bodies.proofs.loads.place_states.Given as goal

abbrev pub invariant-loop-index : goal.invariant-loop-index
invariant-loop-index g l =
    let s = g.S.Store in
    let s₀ = l.initial.store in
    (s.shape l.store ≡ s.shape s₀) × Placing (s.shape s₀) (word_cells l.words) (s.cell s₀) (s.cell l.store) l.index l.loaded
