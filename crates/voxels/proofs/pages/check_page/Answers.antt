use Rattle.std.proofs.Common.{sym, arith}
use Rattle.voxels.specs.Refusals.{taken}
use Rattle.voxels.proofs.WorkPages.{over_enough, over_no_map, over_short}
use Rattle.voxels.proofs.pages.check_page.Goals as goal

pub returns-then-depth-eq0 : goal.returns-then-depth-eq0
returns-then-depth-eq0 c = rw c.into.ensures (sym (over_no_map c.args.depth c.args.words (taken tt) c.if-depth-eq0.true))

pub returns-then-words-voxel_count : goal.returns-then-words-voxel_count
returns-then-words-voxel_count c =
    rw c.into-then-words-voxel_count.ensures (sym (over_short c.args.depth c.args.words (taken tt) c.if-depth-eq0.false (omega (arith, c.voxel_count.ensures, c.if-words-voxel_count.true))))

pub returns : goal.returns
returns c = sym (over_enough c.args.depth c.args.words (taken tt) (omega (arith, c.if-depth-eq0.false)) (omega (arith, c.voxel_count.ensures, c.if-words-voxel_count.false)))
