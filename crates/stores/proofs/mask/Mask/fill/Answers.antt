use Rattle.std.proofs.Common.{ap, ◌∙◌}
use Rattle.stores.specs.Masks.{in_run, pair_count, pair_run}
use Rattle.stores.proofs.MaskFills.{any_of_first, no_run_holds}
use Rattle.stores.proofs.mask.Mask.fill.Goals as goal

pub returns-clause-leaves : goal.returns-clause-leaves
returns-clause-leaves c i =
    let bytes = c.args.bytes.now in
    let read = c.in_ok-self-inside.ensures in
    any_of_first c.in_ok-self-inside.field-0 (pair_count bytes) (λ run. in_run run i) (λ p. in_run (pair_run bytes p) i) (rw read.4.0 read.1)
    (λ k h. ap (λ run. in_run run i) (read.2 k h))
    (λ k h. ap (λ run. in_run run i) (read.3 k h) ∙ no_run_holds i)
