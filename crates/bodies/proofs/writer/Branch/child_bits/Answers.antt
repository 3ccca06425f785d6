use Rattle.std.proofs.Common.{◌≡◌, ◌+◌, ◌-◌, ◌≢◌, true, false, get_or, take, drop, arith, rules, tests}
use Rattle.std.proofs.lemmas.Iterator.{YieldsList-from_slice, cases_from_all}
use Rattle.bodies.proofs.PairCodes.{child_in_words, child_long, child_told}
use Rattle.voxels.proofs.Blocks.{eight_pos}
use Rattle.bodies.proofs.writer.Branch.child_bits.Goals as goal

pub slice_bounds-words-end : goal.slice_bounds-words-end
slice_bounds-words-end c = omega (arith, child_in_words c.args.self c.child-cube.result c.args.child c.requires c.child-cube.ensures.level c.child-cube.ensures.first, c.size.ensures)

pub bounds-words-0 : goal.bounds-words-0
bounds-words-0 c =
    let cube = c.child-cube.result in
    omega (arith, child_long c.args.self cube c.args.child (cube.first + c.size.result - cube.first) c.requires c.child-cube.ensures.level c.child-cube.ensures.first (omega (arith, c.size.ensures)), eight_pos cube.level)

pub returns-then-all-clause-code : goal.returns-then-all-clause-code
returns-then-all-clause-code c =
    let cube = c.child-cube.result in
    let n = cube.first + c.size.result - cube.first in
    let part = take n (drop cube.first c.args.self.words.now) in
    let code = get_or part 0 0 in
    let told = cases_from_all _ _ _ (λ x. x ≡ code) (λ x. x ≢ code) c.all.ensures.ran (YieldsList-from_slice part (cc)) (λ x q k. search (rules, tests)) (λ x q k. search (rules, tests)) in
    child_told c.args.self cube c.args.child n c.requires c.child-cube.ensures.level c.child-cube.ensures.first (omega (arith, c.size.ensures)) c.all.result told true c.if-all.true

pub returns-else-all-clause-code : goal.returns-else-all-clause-code
returns-else-all-clause-code c =
    let cube = c.child-cube.result in
    let n = cube.first + c.size.result - cube.first in
    let part = take n (drop cube.first c.args.self.words.now) in
    let code = get_or part 0 0 in
    let told = cases_from_all _ _ _ (λ x. x ≡ code) (λ x. x ≢ code) c.all.ensures.ran (YieldsList-from_slice part (cc)) (λ x q k. search (rules, tests)) (λ x q k. search (rules, tests)) in
    child_told c.args.self cube c.args.child n c.requires c.child-cube.ensures.level c.child-cube.ensures.first (omega (arith, c.size.ensures)) c.all.result told false c.if-all.false
