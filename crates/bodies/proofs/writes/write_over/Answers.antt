use Rattle.std.proofs.Common.{◌≡◌, ◌++◌, length, drop, sym, ap, ◌∙◌, arith}
use Rattle.voxels.specs.Refusals.{taken}
use Rattle.bodies.specs.Bodies.{map_body}
use Rattle.bodies.specs.Writes.{at_front}
use Rattle.bodies.proofs.WriteCalls.{room_enough, room_short, root_words}
use Rattle.bodies.proofs.writes.write_over.Goals as goal

pub returns-then-output-body_length-clause-answer : goal.returns-then-output-body_length-clause-answer
returns-then-output-body_length-clause-answer g c =
    let s = g.S.Store in
    let store = c.args.store.now in
    let root = root_words (s.shape store).depth c.depth-depth.result c.voxel_count.result (s.cell store) c.args.words.now c.keep_states.new.words c.depth-depth.ensures c.voxel_count.ensures c.keep_states.auto.words c.requires.long c.keep_states.ensures c.root.result c.requires.some (g.met.S.Store.laws.shallow store) c.root.ensures.level c.root.ensures.first in
    rw c.into.ensures (sym (room_short (s.shape store).depth (s.cell store) (length c.args.output.now) (omega (arith, c.if-output-body_length.true, c.body_length.ensures, ap length root.body))))

pub returns-clause-answer : goal.returns-clause-answer
returns-clause-answer g c =
    let s = g.S.Store in
    let store = c.args.store.now in
    let root = root_words (s.shape store).depth c.depth-depth.result c.voxel_count.result (s.cell store) c.args.words.now c.keep_states.new.words c.depth-depth.ensures c.voxel_count.ensures c.keep_states.auto.words c.requires.long c.keep_states.ensures c.root.result c.requires.some (g.met.S.Store.laws.shallow store) c.root.ensures.level c.root.ensures.first in
    let size : c.write_pair.result ≡ length (map_body (s.shape store).depth (s.cell store)) = c.write_pair.ensures.length ∙ ap length root.body in
    ap taken size ∙ sym (room_enough (s.shape store).depth (s.cell store) (length c.args.output.now) (omega (arith, c.if-output-body_length.false, c.body_length.ensures, ap length root.body)))

pub returns-clause-bytes : goal.returns-clause-bytes
returns-clause-bytes g c =
    let s = g.S.Store in
    let store = c.args.store.now in
    let root = root_words (s.shape store).depth c.depth-depth.result c.voxel_count.result (s.cell store) c.args.words.now c.keep_states.new.words c.depth-depth.ensures c.voxel_count.ensures c.keep_states.auto.words c.requires.long c.keep_states.ensures c.root.result c.requires.some (g.met.S.Store.laws.shallow store) c.root.ensures.level c.root.ensures.first in
    let size : c.write_pair.result ≡ length (map_body (s.shape store).depth (s.cell store)) = c.write_pair.ensures.length ∙ ap length root.body in
    c.write_pair.ensures.bytes ∙ ap (λ b. at_front b c.args.output.now) root.body ∙ ap (λ n. map_body (s.shape store).depth (s.cell store) ++ drop n c.args.output.now) (sym size)
