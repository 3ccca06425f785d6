-- Which voxels a line passes, by its crossings and their order. No walk is made.
-- A line runs from o to p. On each axis (0 x, 1 y, 2 z) it crosses the planes between the two voxels; its crossings on an axis are counted from 0.
use Rattle.std.specs.Prelude.{ℕ, zero, suc, ◌+◌, ◌-◌, ◌*◌, ◌/◌, Bool, cond, ◌&&◌, ◌==◌, nat_lt}
use Rattle.voxels.specs.Bounded.{some, count}
use Rattle.voxels.specs.declared.space.Position.{Position}
use Rattle.voxels.specs.declared.space.Voxel.{Voxel}

abbrev pub tick : ℕ → Position → ℕ
tick zero p = p.x
tick (suc zero) p = p.y
tick (suc (suc n)) p = p.z

abbrev pub distance : ℕ → ℕ → ℕ
distance m n = (m - n) + (n - m)

abbrev pub same_voxel : Voxel → Voxel → Bool
same_voxel v w = (v.x == w.x && v.y == w.y) && v.z == w.z

module _ (o p : Position) where
  abbrev pub goes_up : ℕ → Bool
  goes_up axis = nat_lt (tick axis o) (tick axis p)

  -- as many as the voxel coordinates differ by
  abbrev pub crossings : ℕ → ℕ
  crossings axis = distance (tick axis o / 64) (tick axis p / 64)

  -- the plane of crossing j, in ticks
  abbrev pub plane : ℕ → ℕ → ℕ
  plane axis j = cond (goes_up axis) (64 * (tick axis o / 64 + j + 1)) (64 * (tick axis o / 64 - j))

  -- a crossing comes at the fraction reach / span of the line
  abbrev pub reach : ℕ → ℕ → ℕ
  reach axis j = distance (plane axis j) (tick axis o)

  abbrev pub span : ℕ → ℕ
  span axis = distance (tick axis p) (tick axis o)

  -- crossing j of axis a comes before crossing k of axis b: by the smaller fraction, compared by products, and equal ones in the order x, y, z
  unfoldable pub before : ℕ → ℕ → ℕ → ℕ → Bool
  before a j b k = cond (reach a j * span b == reach b k * span a) (nat_lt a b) (nat_lt (reach a j * span b) (reach b k * span a))

  -- how many crossings of axis b come before crossing j of axis a
  unfoldable pub earlier : ℕ → ℕ → ℕ → ℕ
  earlier a j b = count (crossings b) (λ k. before b k a j)

  -- the coordinate after n crossings of an axis
  abbrev pub along : ℕ → ℕ → ℕ
  along axis n = cond (goes_up axis) (tick axis o / 64 + n) (tick axis o / 64 - n)

  -- the voxel that crossing j of axis a leaves: on each axis as far along as there are crossings before it
  abbrev pub leaves : ℕ → ℕ → Voxel
  leaves a j = record { x = along 0 (earlier a j 0); y = along 1 (earlier a j 1); z = along 2 (earlier a j 2) }

  -- a voxel is passed exactly when some crossing leaves it
  unfoldable pub passes : Voxel → Bool
  passes v = some 3 (λ a. some (crossings a) (λ j. same_voxel (leaves a j) v))
