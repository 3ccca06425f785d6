use Rattle.std.proofs.Common.{◌*◌, ◌%◌, ◌≤◌, refl, mul-le-mul_left, arith, lit<}
use Rattle.std.proofs.lemmas.Grind.{pow_more}
use Rattle.voxels.specs.Bounded.{sum}
use Rattle.voxels.specs.Space.{axis_number, bit}
use Rattle.voxels.proofs.Indices.{pow_small, quotient_more, coordinate_more, coordinate_below}
use Rattle.voxels.proofs.space.coordinate.Goals as goal

pub loop-level-init : goal.loop-level-init
unfolding sum
loop-level-init c = (refl, omega arith, refl)

pub overflow_add-coordinate : goal.overflow_add-coordinate
overflow_add-coordinate c =
    let level = c.loop-level._level in
    let w = c.loop-level.weight in
    let b = bit c.bit.result (c.loop-level.rest % 8) in
    let small : w * b ≤ w * 1 = mul-le-mul_left w (omega arith) in
    let weight = pow_small 2 level (lit< tt) (omega arith) in
    omega (arith, coordinate_below (axis_number c.args.axis) level c.args.index)

pub loop-level-preserved : goal.loop-level-preserved
loop-level-preserved c =
    let level = c.loop-level._level in
    let quotient = quotient_more c.args.index level in
    let more = coordinate_more (axis_number c.args.axis) level c.args.index in
    (omega (arith, pow_more 2 level), cc, cc)
