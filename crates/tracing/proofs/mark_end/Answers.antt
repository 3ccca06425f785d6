use Rattle.std.proofs.Common.{◌≡◌, Some, None, arith}
use Rattle.std.proofs.lemmas.Bool.Decides.{nat_tests}
use Rattle.voxels.specs.Space.{index_in, voxel_in, voxel_of}
use Rattle.tracing.proofs.Words.{index_inside, marked_at, marked_nowhere, word_set}
use Rattle.tracing.proofs.mark_end.Goals as goal
use Rattle.tracing.proofs.mark_end.Goals.{else-voxel_count-page-via-else-voxel_count-page, else-voxel_count-page-via-then-voxel_count-page+in-None-1}

pub returns-in-Some : goal.returns-in-Some
returns-in-Some c = λ i.
    let depth = c.args.depth in
    let end = voxel_of c.args.end in
    let index = c.in-Some.index in
    let value : index_in depth end ≡ Some index = cc c.in-Some.ensures.value in
    let back : voxel_in depth index ≡ Some end = cc c.in-Some.ensures.back in
    let inside = index_inside depth end index value back in
    grind (arith, nat_tests, marked_at depth end index value back i, word_set c.args.page.now index 2 i (omega (arith, inside)))

pub returns-else-voxel_count-page : goal.returns-else-voxel_count-page
returns-else-voxel_count-page c = λ i.
    let depth = c.args.depth in
    let end = voxel_of c.args.end in
    elim c.else-voxel_count-page.branch [
      | else-voxel_count-page-via-else-voxel_count-page w ↦ grind (arith, nat_tests)
      | else-voxel_count-page-via-then-voxel_count-page+in-None-1 w ↦
          let outside : index_in depth end ≡ None = cc in
          grind (arith, nat_tests, marked_nowhere depth end outside i)
    ]
