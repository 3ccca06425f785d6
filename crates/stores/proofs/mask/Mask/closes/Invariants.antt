use Rattle.std.proofs.Common.{◌≡◌, ℕ, ◌<◌, false, get_or}
use Rattle.stores.specs.Masks.{in_run, no_run}
use Rattle.stores.proofs.mask.Mask.closes.Given as goal

abbrev pub invariant-loop-run : goal.invariant-loop-run
invariant-loop-run l = (j : ℕ) → j < l.run-index → in_run (get_or l.run-items j no_run) l.index ≡ false
