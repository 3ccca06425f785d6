use Rattle.std.proofs.Common.{◌≡◌, length, not, ap, ◌∙◌, arith}
use Rattle.bodies.specs.Branch.{branch_code}
use Rattle.bodies.specs.Writes.{word_states}
use Rattle.bodies.proofs.BodySizes.{body_small}
use Rattle.bodies.proofs.CubeSizes.{size_small}
use Rattle.bodies.proofs.PairCodes.{child_room, length_mixed, mixed_code, pair_body, under, under_none, under_uniform}
use Rattle.bodies.proofs.writer.Branch.+body_length.Goals as goal
use Rattle.bodies.proofs.writer.Branch.+body_length.Goals.{then-is_none, else-is_none}

pub loop-child-init : goal.loop-child-init
loop-child-init t c = omega (arith, ap length (under_none c.args.self))

pub child-requires-clause-mixed : goal.child-requires-clause-mixed
child-requires-clause-mixed t c =
    mixed_code c.args.self c.pair-pair.result c.pair-pair.ensures.first c.pair-pair.ensures.second c.loop-child.child c.loop-child-test.true c.state.result c.state.ensures (c.is_none.ensures ∙ ap not c.if-is_none.true)

pub overflow_add-length : goal.overflow_add-length
overflow_add-length t c =
    let branch = c.args.self in
    let three : branch_code branch c.loop-child.child ≡ 3 = mixed_code branch c.pair-pair.result c.pair-pair.ensures.first c.pair-pair.ensures.second c.loop-child.child c.loop-child-test.true c.state.result c.state.ensures (c.is_none.ensures ∙ ap not c.if-is_none.true) in
    omega (arith, c.loop-child.invariant, c.body_length-length.ensures, child_room branch c.child.result c.loop-child.child three c.child.ensures.words c.child.ensures.level c.child.ensures.first c.loop-child-test.true, body_small branch.cube.level (word_states branch.words.now) branch.cube.first, size_small branch.cube.level branch.cube.shallow)

pub loop-child-preserved : goal.loop-child-preserved
loop-child-preserved t c =
    let branch = c.args.self in
    elim c.if-is_none.branch [
      | then-is_none w ↦
          (let three : branch_code branch c.loop-child.child ≡ 3 = mixed_code branch c.pair-pair.result c.pair-pair.ensures.first c.pair-pair.ensures.second c.loop-child.child c.loop-child-test.true c.state.result c.state.ensures (c.is_none.ensures ∙ ap not w.if-is_none.true) in
          omega (arith, w.length-is, c.loop-child.invariant, w.body_length-length.ensures, length_mixed branch w.child.result c.loop-child.child three w.child.ensures.words w.child.ensures.level w.child.ensures.first))
      | else-is_none w ↦
          omega (arith, w.length-is, c.loop-child.invariant, ap length (under_uniform branch c.pair-pair.result c.pair-pair.ensures.first c.pair-pair.ensures.second c.loop-child.child c.loop-child-test.true c.state.result c.state.ensures (c.is_none.ensures ∙ ap not w.if-is_none.false)))
    ]

pub returns : goal.returns
returns t c =
    let whole : c.loop-child.child ≡ 8 = omega (arith, c.loop-child-test.false, c.loop-child.auto.child-end) in
    omega (arith, c.loop-child.invariant, ap (λ n. length (under c.args.self n)) whole, ap length (pair_body c.args.self))
