use Rattle.std.proofs.Common.{sym, arith}
use Rattle.std.proofs.lemmas.Bool.{cases_eq}
use Rattle.std.proofs.lemmas.Bool.Decides.{nat_tests}
use Rattle.tracing.proofs.Words.{index_inside, marked_at, marked_nowhere, word_set}
use Rattle.tracing.proofs.mark_passed.Goals as goal
use Rattle.tracing.proofs.mark_passed.Goals.{in_default-via-in-None-1, in_default-via-in-Some+else-page-index-ne-HIT_MARK}

pub returns-then-page-index-ne-HIT_MARK : goal.returns-then-page-index-ne-HIT_MARK
returns-then-page-index-ne-HIT_MARK c = λ i.
    let found = c.in-Some.ensures in
    let inside = index_inside c.args.depth c.args.voxel c.in-Some.index (sym found.value) found.back in
    let its_word = marked_at c.args.depth c.args.voxel c.in-Some.index (sym found.value) found.back i in
    grind (arith, nat_tests, word_set c.args.page.now c.in-Some.index 1 i (omega (arith, inside)), cases_eq i c.in-Some.index)

pub returns-in_default : goal.returns-in_default
returns-in_default c = λ i.
    elim c.in_default.branch [
      | in_default-via-in-None-1 w ↦ rw (marked_nowhere c.args.depth c.args.voxel (cc) i)
      | in_default-via-in-Some+else-page-index-ne-HIT_MARK w ↦
          let found = w.in-Some.ensures in
          grind (arith, nat_tests, marked_at c.args.depth c.args.voxel w.in-Some.index (sym found.value) found.back i)
    ]
