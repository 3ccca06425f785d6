use Rattle.std.proofs.Common.{◌≡◌, ◌≤◌, ◌∷◌, length, set, not, sym, ap, ◌∙◌, arith}
use Rattle.std.proofs.lemmas.List.{length-append, length-set}
use Rattle.bodies.specs.Branch.{branch_body, branch_code}
use Rattle.bodies.specs.Writes.{at_front}
use Rattle.bodies.proofs.Outputs.{front_more, front_pair, room_behind}
use Rattle.bodies.proofs.PairCodes.{child_room, mixed_code, pair_body, under, under_mixed, under_none, under_uniform, written_body}
use Rattle.bodies.proofs.writer.Branch.+write_pair.Goals as goal
use Rattle.bodies.proofs.writer.Branch.+write_pair.Goals.{then-is_none, else-is_none}

pub bounds-output-0 : goal.bounds-output-0
bounds-output-0 t c = omega (arith, c.requires.room, ap length (pair_body c.args.self))

pub bounds-output-1 : goal.bounds-output-1
bounds-output-1 t c = omega (arith, c.requires.room, ap length (pair_body c.args.self), length-set c.args.output.now 0 c.pair-pair.result.first)

pub loop-child-init : goal.loop-child-init
loop-child-init t c =
    let none = under_none c.args.self in
    let output = c.args.output.now in
    let first = c.pair-pair.result.first in
    let second = c.pair-pair.result.second in
    let room : 2 ≤ length output = omega (arith, c.requires.room, ap length (pair_body c.args.self)) in
    (omega (arith, ap length none), front_pair output first second room ∙ ap (λ l. at_front (first ∷ second ∷ l) output) (sym none))

pub child-requires-clause-mixed : goal.child-requires-clause-mixed
child-requires-clause-mixed t c =
    mixed_code c.args.self c.pair-pair.result c.pair-pair.ensures.first c.pair-pair.ensures.second c.loop-child.child c.loop-child-test.true c.state.result c.state.ensures (c.is_none.ensures ∙ ap not c.if-is_none.true)

pub write_pair-end-requires : goal.write_pair-end-requires
write_pair-end-requires t c =
    let branch = c.args.self in
    let three : branch_code branch c.loop-child.child ≡ 3 = mixed_code branch c.pair-pair.result c.pair-pair.ensures.first c.pair-pair.ensures.second c.loop-child.child c.loop-child-test.true c.state.result c.state.ensures (c.is_none.ensures ∙ ap not c.if-is_none.true) in
    let room = child_room branch c.child.result c.loop-child.child three c.child.ensures.words c.child.ensures.level c.child.ensures.first c.loop-child-test.true in
    (omega (arith, c.decreases, c.child.ensures.level, branch.above), room_behind c.loop-child.output c.loop-child.end (length (branch_body c.child.result)) (omega (arith, c.requires.room, room, c.loop-child.invariant.0, c.loop-child.auto.output, length-set c.args.output.now 0 c.pair-pair.result.first, length-set (set c.args.output.now 0 c.pair-pair.result.first) 1 c.pair-pair.result.second)))

pub loop-child-preserved : goal.loop-child-preserved
loop-child-preserved t c =
    let branch = c.args.self in
    let first = c.pair-pair.result.first in
    let second = c.pair-pair.result.second in
    let output = c.args.output.now in
    elim c.if-is_none.branch [
      | then-is_none w ↦
          (let three : branch_code branch c.loop-child.child ≡ 3 = mixed_code branch c.pair-pair.result c.pair-pair.ensures.first c.pair-pair.ensures.second c.loop-child.child c.loop-child-test.true c.state.result c.state.ensures (c.is_none.ensures ∙ ap not w.if-is_none.true) in
          let more = under_mixed branch w.child.result c.loop-child.child three w.child.ensures.words w.child.ensures.level w.child.ensures.first in
          let bytes = first ∷ second ∷ under branch c.loop-child.child in (
            omega (arith, w.end-is, w.write_pair-end.ensures.length, c.loop-child.invariant.0, ap length more, length-append (under branch c.loop-child.child) (branch_body w.child.result)),
            w.output-is ∙ front_more output bytes (branch_body w.child.result) c.loop-child.output w.write_pair-end.new.output c.loop-child.end c.loop-child.invariant.0 c.loop-child.invariant.1 w.write_pair-end.ensures.bytes ∙ ap (λ l. at_front (first ∷ second ∷ l) output) (sym more),
          ))
      | else-is_none w ↦
          (let same = under_uniform branch c.pair-pair.result c.pair-pair.ensures.first c.pair-pair.ensures.second c.loop-child.child c.loop-child-test.true c.state.result c.state.ensures (c.is_none.ensures ∙ ap not w.if-is_none.false) in
          (omega (arith, w.end-is, c.loop-child.invariant.0, ap length same), w.output-is ∙ c.loop-child.invariant.1 ∙ ap (λ l. at_front (first ∷ second ∷ l) output) (sym same)))
    ]

pub returns : goal.returns
returns t c =
    let whole : c.loop-child.child ≡ 8 = omega (arith, c.loop-child-test.false, c.loop-child.auto.child-end) in
    let body = written_body c.args.self c.pair-pair.result c.loop-child.child c.pair-pair.ensures.first c.pair-pair.ensures.second whole in
    record {
      length = c.loop-child.invariant.0 ∙ ap length body;
      bytes = c.loop-child.invariant.1 ∙ ap (λ l. at_front l c.args.output.now) body;
    }
