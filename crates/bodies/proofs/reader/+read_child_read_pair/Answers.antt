use Rattle.std.proofs.Common.{◌≡◌, ℕ, ◌+◌, ◌-◌, ◌^◌, ◌≤◌, false, List, Option, get_or, drop, sym, refl, ap, subst, arith, rules}
use Rattle.bodies.specs.Codes.{child_code}
use Rattle.bodies.specs.Readings.{read_pair}
use Rattle.bodies.specs.Reads.{AboveVoxels}
use Rattle.voxels.specs.declared.cells.State.{State}
use Rattle.bodies.proofs.ReadingOn.{Reached, above_voxels, behind_two, child_ahead, pair_faulty, pair_read, pair_short, pair_wrong, reached_more, reached_none, reached_wrong}
use Rattle.std.proofs.lemmas.Result.{err_from_is_err_and}
use Rattle.bodies.proofs.reader.+read_child_read_pair.Goals as goal

pub read_pair-returns-in_default : goal.read_pair-returns-in_default
read_pair-returns-in_default t c =
    let words = c.args.words.now in
    rw c.at.ensures (pair_short c.args.cube.level c.args.root c.args.body.at c.args.body.bytes.now words words c.args.cube.first c.requires.above record { reason = _; place = c.args.body.at } (search rules) refl refl)

pub read_pair-returns-in-Some : goal.read_pair-returns-in-Some
read_pair-returns-in-Some t c =
    let words = c.args.words.now in
    rw c.at-in-Some.ensures (pair_faulty c.args.cube.level c.args.root c.args.body.at c.args.body.bytes.now words words c.args.cube.first c.requires.above record { reason = c.in-Some.reason; place = c.args.body.at } (search rules) c.in-Some.ensures refl)

pub read_pair-loop-child-init : goal.read_pair-loop-child-init
read_pair-loop-child-init t c =
    let bytes = c.args.body.bytes.now in
    let level = c.args.cube.level - 1 in
    let code = child_code (get_or bytes 0 0) (get_or bytes 1 0) in
    let words = c.args.words.now in
    let P : List ℕ → Type 0 = Reached (read_pair level false) (8 ^ level) code (c.args.body.at + 2) (drop 2 bytes) words words c.args.cube.first 0 (c.args.body.at + 2) in
    subst P (sym (behind_two bytes)) (reached_none (read_pair level false) (8 ^ level) code (c.args.body.at + 2) (drop 2 bytes) words c.args.cube.first)

pub read_pair-read_child-requires : goal.read_pair-read_child-requires
read_pair-read_child-requires t c =
    let bytes = c.args.body.bytes.now in
    let upper = c.args.cube.level in
    let code = child_code (get_or bytes 0 0) (get_or bytes 1 0) in
    let P : ℕ → Type 0 = AboveVoxels c.state.result in
    let Q : Option State → Type 0 = λ x. AboveVoxels x (upper - 1) in
    let above : AboveVoxels c.state.result c.child.result.level = subst P (sym c.child.ensures.level) (subst Q (sym c.state.ensures) (above_voxels upper c.args.root code c.loop-child.child c.requires.above c.loop-child-test.true c.in_default-fault.ensures)) in
    let size : 8 ^ c.child.result.level ≡ 8 ^ (upper - 1) = ap (λ l. 8 ^ l) c.child.ensures.level in
    let words = c.args.words.now in
    let near : c.loop-child.left.at + 8 ^ (upper - 1) ≤ 32768 = child_ahead upper c.args.root c.args.body.at bytes words words c.args.cube.first c.requires.above c.loop-child.child c.loop-child.left.at (8 ^ (upper - 1)) c.loop-child-test.true refl c.requires.near c.loop-child.invariant.near in
    (search rules, (above, omega (arith, near, size)))

pub read_pair-returns-in_err-left : goal.read_pair-returns-in_err-left
read_pair-returns-in_err-left t c =
    let bytes = c.args.body.bytes.now in
    let level = c.args.cube.level - 1 in
    let code = child_code (get_or bytes 0 0) (get_or bytes 1 0) in
    let before = c.args.words.now in
    let now = c.loop-child.words in
    let after = c.read_child.new.words in
    let p = err_from_is_err_and c.from_residual.result c.from_residual.ensures.1 in
    rw (p.1, p.2) (pair_wrong c.args.cube.level c.args.root c.args.body.at bytes before after c.args.cube.first c.requires.above c.in_err-left.field-0.0 (search rules) c.in_default-fault.ensures
    (reached_wrong level code (c.args.body.at + 2) (drop 2 bytes) before now after c.args.cube.first c.loop-child.child c.loop-child.left.at c.loop-child.left.bytes.now c.loop-child.invariant c.in_err-left.field-0.0 c.child.result.level c.child.result.first c.state.result c.loop-child-test.true c.child.ensures.level c.child.ensures.first c.state.ensures c.in_err-left.ensures))

pub read_pair-loop-child-preserved : goal.read_pair-loop-child-preserved
read_pair-loop-child-preserved t c =
    let bytes = c.args.body.bytes.now in
    let level = c.args.cube.level - 1 in
    let code = child_code (get_or bytes 0 0) (get_or bytes 1 0) in
    let before = c.args.words.now in
    let now = c.loop-child.words in
    let after = c.read_child.new.words in
    reached_more level code (c.args.body.at + 2) (drop 2 bytes) before now after c.args.cube.first c.loop-child.child c.loop-child.left.at c.loop-child.left.bytes.now c.loop-child.invariant c.in_ok-left.left c.child.result.level c.child.result.first c.state.result c.child.ensures.level c.child.ensures.first c.state.ensures c.in_ok-left.ensures

pub read_pair-returns : goal.read_pair-returns
read_pair-returns t c =
    let bytes = c.args.body.bytes.now in
    let level = c.args.cube.level - 1 in
    let code = child_code (get_or bytes 0 0) (get_or bytes 1 0) in
    let before = c.args.words.now in
    let after = c.loop-child.words in
    let eight : c.loop-child.child ≡ 8 = omega (arith, c.loop-child-test.false) in
    let P : ℕ → Type 0 = λ n. Reached (read_pair level false) (8 ^ level) code (c.args.body.at + 2) (drop 2 bytes) before after c.args.cube.first n c.loop-child.left.at c.loop-child.left.bytes.now in
    let done = subst P eight c.loop-child.invariant in
    pair_read c.args.cube.level c.args.root c.args.body.at bytes before after c.args.cube.first c.requires.above c.loop-child.left (search rules) c.in_default-fault.ensures done
