use Rattle.std.proofs.Common.{cond, ◌&&◌, get_or, sym, ap, ◌∙◌, arith}
use Rattle.tracing.specs.Lines.{same_voxel}
use Rattle.voxels.specs.Space.{voxel_at, voxel_of}
use Rattle.scans.proofs.LineMarking.{can_trace, ended_inside, line_marked}
use Rattle.scans.proofs.marks.mark_return.Goals as goal

pub returns-then-hit : goal.returns-then-hit
returns-then-hit c returns before =
    let depth = c.args.depth in
    let o = c.args.ray.origin in
    let p = c.args.ray.end in
    let words = c.args.words.now in
    let traced = c.trace.new.page in
    line_marked depth o p returns c.args.hit words traced c.mark_end.new.page before (can_trace depth o p words (omega (arith, c.requires.whole)) c.requires.from c.requires.to) c.trace.ensures.marks
    (λ i inside. c.mark_end.ensures i ∙ ended_inside depth o p traced (omega (arith, c.requires.whole, c.trace.auto.page)) i inside ∙ ap (λ b. cond (b && same_voxel (voxel_of p) (voxel_at depth i)) 2 (get_or traced i 0)) (sym c.if-hit.true))

pub returns-else-hit : goal.returns-else-hit
returns-else-hit c returns before =
    let depth = c.args.depth in
    let o = c.args.ray.origin in
    let p = c.args.ray.end in
    let words = c.args.words.now in
    let traced = c.trace.new.page in
    line_marked depth o p returns c.args.hit words traced traced before (can_trace depth o p words (omega (arith, c.requires.whole)) c.requires.from c.requires.to) c.trace.ensures.marks
    (λ i inside. ap (λ b. cond (b && same_voxel (voxel_of p) (voxel_at depth i)) 2 (get_or traced i 0)) (sym c.if-hit.false))
