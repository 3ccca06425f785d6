-- A map of depth 1 to 5 is a cube of voxels with 2 ^ depth along each axis; a depth outside that has no voxel.
use Rattle.std.specs.Prelude.{ℕ, ◌+◌, ◌*◌, ◌/◌, ◌%◌, ◌^◌, Bool, cond, ◌&&◌, Some, None, Option, nat_le, nat_lt}
use Rattle.voxels.specs.Bounded.{sum}
use Rattle.voxels.specs.declared.space.Axis.{Axis}
use Rattle.voxels.specs.declared.space.Axis.TheVariants.{X, Y, Z}
use Rattle.voxels.specs.declared.space.Position.{Position}
use Rattle.voxels.specs.declared.space.Voxel.{Voxel}

abbrev pub is_depth : ℕ → Bool
is_depth d = nat_le 1 d && nat_le d 5

-- voxels along an axis
abbrev pub side : ℕ → ℕ
side d = cond (is_depth d) (2 ^ d) 0

-- voxels in the map
abbrev pub voxel_count : ℕ → ℕ
voxel_count d = cond (is_depth d) (8 ^ d) 0

-- a voxel's edge is 64 ticks
abbrev pub voxel_of : Position → Voxel
voxel_of p = record { x = p.x / 64; y = p.y / 64; z = p.z / 64 }

abbrev pub in_map : ℕ → Voxel → Bool
in_map d v = (nat_lt v.x (side d) && nat_lt v.y (side d)) && nat_lt v.z (side d)

-- bit k of n
abbrev pub bit : ℕ → ℕ → ℕ
bit k n = n / 2 ^ k % 2

-- the index's digit of weight 8 ^ k
abbrev pub octant : ℕ → Voxel → ℕ
octant k v = bit k v.x + 2 * bit k v.y + 4 * bit k v.z

-- the index: a digit in base 8 for each level
abbrev pub index_of : ℕ → Voxel → ℕ
index_of d v = sum d (λ k. 8 ^ k * octant k v)

abbrev pub index_in : ℕ → Voxel → Option ℕ
index_in d v = cond (in_map d v) (Some (index_of d v)) None

-- the axes in their order
abbrev pub axis_number : Axis → ℕ
axis_number X = 0
axis_number Y = 1
axis_number Z = 2

-- the coordinate on an axis (0 x, 1 y, 2 z) of the voxel at an index: bit k is that axis's bit of the digit of weight 8 ^ k
abbrev pub coordinate : ℕ → ℕ → ℕ → ℕ
coordinate axis d i = sum d (λ k. 2 ^ k * bit axis (i / 8 ^ k % 8))

abbrev pub voxel_at : ℕ → ℕ → Voxel
voxel_at d i = record { x = coordinate 0 d i; y = coordinate 1 d i; z = coordinate 2 d i }

abbrev pub voxel_in : ℕ → ℕ → Option Voxel
voxel_in d i = cond (nat_lt i (voxel_count d)) (Some (voxel_at d i)) None
