use Rattle.std.proofs.Common.{◌≡◌, ◌*◌, ◌^◌, ◌<◌, ◌≤◌, refl, arith, lit<}
use Rattle.std.proofs.lemmas.Nat.{mul-le}
use Rattle.std.proofs.lemmas.Grind.{pow_more}
use Rattle.voxels.specs.Bounded.{sum}
use Rattle.voxels.specs.Space.{side}
use Rattle.voxels.proofs.Indices.{pow_small, index_more, index_below, octant_le, side_above, index_back}
use Rattle.voxels.proofs.space.Voxel.index.Goals as goal

pub loop-level-init : goal.loop-level-init
unfolding sum
loop-level-init c =
    let depth = c.args.depth in
    let inside : c.args.self.x < side depth = omega arith in
    (refl, refl, (side_above depth c.args.self.x inside).1)

digit_small : (c : goal.After-octant) → c.loop-level.weight * c.octant.result ≤ 8 ^ 4 * 7
digit_small c =
    let level = c.loop-level.level in
    let weight = pow_small 8 level (lit< tt) (omega arith) in
    mul-le c.loop-level.weight c.octant.result (8 ^ 4) 7 (omega arith) (omega (arith, octant_le level c.args.self))

pub overflow_mul-index : goal.overflow_mul-index
overflow_mul-index c = omega (arith, digit_small c)

pub overflow_add-index : goal.overflow_add-index
overflow_add-index c =
    let level = c.loop-level.level in
    let weight = pow_small 8 level (lit< tt) (omega arith) in
    omega (arith, digit_small c, index_below level c.args.self)

pub overflow_mul-weight : goal.overflow_mul-weight
overflow_mul-weight c =
    let weight = pow_small 8 c.loop-level.level (lit< tt) (omega arith) in
    omega arith

pub loop-level-preserved : goal.loop-level-preserved
loop-level-preserved c =
    let level = c.loop-level.level in
    let more = index_more level c.args.self in
    (omega (arith, pow_more 8 level), cc, omega arith)

pub returns-clause-back : goal.returns-clause-back
returns-clause-back c =
    let v = c.args.self in
    let back = index_back c.args.depth v (omega arith) (omega arith) (omega arith) in
    let whole : c.loop-level.level ≡ c.args.depth = omega arith in
    cc
