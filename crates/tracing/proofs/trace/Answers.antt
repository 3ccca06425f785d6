use Rattle.std.proofs.Common.{sym, ◌∙◌, subst, arith}
use Rattle.std.proofs.lemmas.Bool.Decides.{nat_tests}
use Rattle.tracing.specs.Walks.{HasRoom}
use Rattle.tracing.proofs.Passed.{passes_inside, end_not_passed}
use Rattle.tracing.proofs.Turns.{Walked, walked_none, walked_room, walked_more, walked_all}
use Rattle.tracing.proofs.trace.Goals as goal

pub returns-then-not-is_traceable-clause-end : goal.returns-then-not-is_traceable-clause-end
returns-then-not-is_traceable-clause-end c = end_not_passed c.args.ray.origin c.args.ray.end

pub loop-voxel-init : goal.loop-voxel-init
loop-voxel-init c =
    let o = c.args.ray.origin in
    let p = c.args.ray.end in
    let start = sym (c.into_iter-voxel-iterator.ensures.into_iter_gives ∙ c.new-walk.ensures) in
    record {
      can = subst HasRoom start (walked_room o p c.args.depth c.args.page.now (sym c.if-not-is_traceable.ensures));
      ends = tt;
      walked = subst (Walked o p c.args.depth c.args.page.now c.args.page.now) start (walked_none o p c.args.depth c.args.page.now);
    }

pub mark_passed-requires : goal.mark_passed-requires
mark_passed-requires c = grind (arith, nat_tests, c.if-not-is_traceable.ensures)

pub loop-voxel-preserved : goal.loop-voxel-preserved
loop-voxel-preserved c = record {
  can = c.in-Some.ensures.goes.keeps;
  ends = tt;
  walked = walked_more c.args.ray.origin c.args.ray.end c.args.depth c.args.page.now c.loop-voxel.page c.loop-voxel.voxel-iterator c.loop-voxel.invariant.walked c.in-Some.voxel c.next.new.self c.in-Some.ensures.steps c.mark_passed.new.page c.mark_passed.ensures;
}

pub returns-clause-marks : goal.returns-clause-marks
returns-clause-marks c = λ i. rw (sym c.if-not-is_traceable.ensures) (walked_all c.args.ray.origin c.args.ray.end c.args.depth c.args.page.now c.loop-voxel.page c.loop-voxel.voxel-iterator c.loop-voxel.invariant.walked c.in-None.ensures.steps.0 i)

pub returns-clause-inside : goal.returns-clause-inside
returns-clause-inside c = passes_inside c.args.ray.origin c.args.ray.end c.args.depth c.args.page.now

pub returns-clause-end : goal.returns-clause-end
returns-clause-end c = end_not_passed c.args.ray.origin c.args.ray.end
