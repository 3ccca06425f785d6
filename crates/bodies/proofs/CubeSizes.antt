-- The sizes of a map's cubes, and where their children's voxels are.
use Rattle.std.proofs.Common.{◌≡◌, ℕ, suc, ◌+◌, ◌-◌, ◌*◌, ◌/◌, ◌%◌, ◌^◌, ◌<◌, ◌≤◌, ap, ◌∙◌, mul-le-mul_right, mod-lt, mul_comm, div-lt_iff_lt-mul, pow-suc, arith, lit<}
use native.Mathlib.Nat.{div-add-mod, pow-le-pow_right}
use Rattle.std.proofs.lemmas.Nat.{mul-add-lt}
use Rattle.voxels.proofs.Blocks.{eight_pos}
use Rattle.bodies.specs.Bodies.{child_first}

pub size_small : (level : ℕ) → level ≤ 5 → 8 ^ level ≤ 32768
size_small level h = pow-le-pow_right (lit< tt) h

-- a cube above the voxels
pub level_up : (level : ℕ) → 1 ≤ level → level ≡ suc (level - 1)
level_up level h = omega arith

-- eight children make a cube
pub size_up : (level : ℕ) → 1 ≤ level → 8 ^ level ≡ 8 ^ (level - 1) * 8
size_up level h = ap (λ n. 8 ^ n) (level_up level h) ∙ pow-suc 8 (level - 1)

pub child_in_cube : (level first j : ℕ) → 1 ≤ level → j < 8 → child_first (level - 1) first j + 8 ^ (level - 1) ≤ first + 8 ^ level
child_in_cube level first j low h =
    let one : suc j * 8 ^ (level - 1) ≤ 8 * 8 ^ (level - 1) = mul-le-mul_right (8 ^ (level - 1)) (omega arith) in
    omega (arith, one, size_up level low)

-- a child's voxel is one of the cube's
pub in_cube : (level j k : ℕ) → j < 8 → k < 8 ^ level → j * 8 ^ level + k < 8 ^ suc level
in_cube level j k h below = omega (arith, pow-suc 8 level, mul-add-lt j (8 ^ level) k 8 h below)

-- a voxel of the cube is one of a child's
pub in_child : (level first j : ℕ) → j < 8 ^ suc level → (j / 8 ^ level < 8) × (j % 8 ^ level < 8 ^ level) × (child_first level first (j / 8 ^ level) + j % 8 ^ level ≡ first + j)
in_child level first j h = (
  (div-lt_iff_lt-mul {k = 8 ^ level} (eight_pos level)).1 (omega (arith, pow-suc 8 level)),
  mod-lt j (eight_pos level),
  omega (arith, div-add-mod j (8 ^ level), mul_comm (8 ^ level) (j / 8 ^ level)),
)
