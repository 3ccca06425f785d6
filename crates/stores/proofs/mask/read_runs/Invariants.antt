use Rattle.std.proofs.Common.{◌≡◌, ℕ, ◌<◌, ◌≤◌, length, get_or, None}
use Rattle.stores.specs.Masks.{least_offset, no_run, pair_fault, pair_run}
use Rattle.stores.proofs.mask.read_runs.Given as goal

abbrev pub invariant-loop-at : goal.invariant-loop-at
invariant-loop-at l =
    (length l.runs ≡ 16)
    × (l.least ≡ least_offset l.bytes l.at)
    × ((k : ℕ) → k < l.at → get_or l.runs k no_run ≡ pair_run l.bytes k)
    × ((k : ℕ) → l.at ≤ k → get_or l.runs k no_run ≡ no_run)
    × ((k : ℕ) → k < l.at → pair_fault l.bytes k ≡ None)
