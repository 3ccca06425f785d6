use Rattle.std.proofs.Common.{◌≡◌, ℕ, ◌+◌, ◌/◌, ◌%◌, ◌<◌, ◌≤◌, ◌≢◌, List, [], length, get_or, None, sym, ap, ◌∙◌, ap₂, add-one, arith, below_more}
use Rattle.std.proofs.lemmas.List.{get_or-set_same, get_or-set_other, length-set}
use Rattle.std.proofs.lemmas.Bool.{both_ways, eq-eqb}
use Rattle.std.specs.Simd.{first_chunks}
use Rattle.stores.specs.Masks.{least_offset, no_run, pair_count, pair_fault, pair_run, run_end, run_fault}
use Rattle.stores.proofs.MaskFills.{chunk_run, fill_ragged, fill_many, fill_wrong, fill_right, in_order, no_rest}
use Rattle.stores.proofs.mask.read_runs.Goals as goal
use Rattle.stores.proofs.mask.read_runs.Goals.{After-fault}

pub returns-then-not-is_empty : goal.returns-then-not-is_empty
returns-then-not-is_empty c =
    let rest : length c.as_chunks.result.1.now ≡ length c.args.bytes.now % 4 = c.as_chunks.ensures.back_len in
    let some = c.if-not-is_empty.ensures in
    rw c.into.ensures (fill_ragged c.args.bytes.now (λ none. both_ways _ (sym some) (eq-eqb _ 0 (rest ∙ none))))

pub returns-then-pairs-gt-MOST_RUNS : goal.returns-then-pairs-gt-MOST_RUNS
returns-then-pairs-gt-MOST_RUNS c =
    let pairs : length c.as_chunks.result.0.now ≡ length c.args.bytes.now / 4 = c.as_chunks.ensures.front_len in
    rw c.into-then-pairs-gt-MOST_RUNS.ensures (fill_many c.args.bytes.now (no_rest _ _ c.as_chunks.ensures.back_len c.if-not-is_empty.ensures) (omega (arith, pairs, c.if-pairs-gt-MOST_RUNS.true)))

-- the run is that of the pair, and judged as such
judged : (c : After-fault) → (c.from-run.result ≡ pair_run c.args.bytes.now c.loop-at.at) × (run_fault c.from-run.result c.loop-at.least ≡ pair_fault c.args.bytes.now c.loop-at.at)
judged c =
    let bytes = c.args.bytes.now in
    let at = c.loop-at.at in
    let n = length bytes / 4 in
    let pairs : c.as_chunks.result.0.now ≡ first_chunks 4 n bytes = c.as_chunks.ensures.front in
    let many : length c.as_chunks.result.0.now ≡ n = c.as_chunks.ensures.front_len in
    let is : c.from-run.result ≡ pair_run (get_or c.as_chunks.result.0.now at []) 0 = c.from-run.ensures in
    let run = is ∙ ap (λ (ps : List (List ℕ)). pair_run (get_or ps at []) 0) pairs ∙ chunk_run bytes n at (omega (arith, many, c.loop-at-test.true)) in
    (run, ap₂ run_fault run c.loop-at.invariant.1)

pub returns-in-Some : goal.returns-in-Some
returns-in-Some c =
    let bytes = c.args.bytes.now in
    let at = c.loop-at.at in
    let run = judged (goal.at.returns-in-Some c).After-fault in
    let pairs : length c.as_chunks.result.0.now ≡ pair_count bytes = c.as_chunks.ensures.front_len in
    rw c.at.ensures (fill_wrong bytes at _ (no_rest _ _ c.as_chunks.ensures.back_len c.if-not-is_empty.ensures) (omega (arith, pairs, c.if-pairs-gt-MOST_RUNS.false)) (omega (arith, pairs, c.loop-at-test.true)) c.loop-at.invariant.4 (sym run.1 ∙ sym c.in-Some.ensures))

pub loop-at-preserved : goal.loop-at-preserved
loop-at-preserved c =
    let bytes = c.args.bytes.now in
    let at = c.loop-at.at in
    let runs = c.loop-at.runs in
    let run = c.from-run.result in
    let known = judged (goal.at.loop-at-preserved c).After-fault in
    let pairs : length c.as_chunks.result.0.now ≡ pair_count bytes = c.as_chunks.ensures.front_len in
    let room : at < length runs = omega (arith, c.loop-at.invariant.0, pairs, c.if-pairs-gt-MOST_RUNS.false, c.loop-at-test.true) in (
      length-set runs at run ∙ c.loop-at.invariant.0,
      ap (λ n. n + 1) (c.end-least.ensures ∙ ap run_end known.0) ∙ sym (ap (least_offset bytes) (add-one at)),
      below_more _ _
          (λ k h. let ne : k ≢ at = omega arith in get_or-set_other runs at k run no_run ne ∙ c.loop-at.invariant.2 k h)
          (get_or-set_same runs at run no_run room ∙ known.0),
      λ k h. let ne : k ≢ at = omega arith in get_or-set_other runs at k run no_run ne ∙ c.loop-at.invariant.3 k (omega arith),
      below_more _ _ c.loop-at.invariant.4 (sym known.1 ∙ sym c.in_default.ensures),
    )

pub returns : goal.returns
returns c =
    let bytes = c.args.bytes.now in
    let n = pair_count bytes in
    let pairs : length c.as_chunks.result.0.now ≡ n = c.as_chunks.ensures.front_len in
    let few : n ≤ 16 = omega (arith, pairs, c.if-pairs-gt-MOST_RUNS.false) in
    let none : (k : ℕ) → k < n → pair_fault bytes k ≡ None = λ k h. c.loop-at.invariant.4 k (omega (arith, pairs, c.loop-at-test.false)) in
    let read : (k : ℕ) → k < n → get_or c.loop-at.runs k no_run ≡ pair_run bytes k = λ k h. c.loop-at.invariant.2 k (omega (arith, pairs, c.loop-at-test.false)) in
    let empty : (k : ℕ) → n ≤ k → get_or c.loop-at.runs k no_run ≡ no_run = λ k h. c.loop-at.invariant.3 k (omega (arith, pairs, c.loop-at.auto.at-end, h)) in
    (fill_right bytes (no_rest _ _ c.as_chunks.ensures.back_len c.if-not-is_empty.ensures) few none, few, read, empty, (c.loop-at.invariant.0, in_order bytes c.loop-at.runs n read empty none))
