-- The index and the coordinates, digit by digit from the lowest, and that they undo one another.
use Rattle.std.proofs.Common.{◌≡◌, ℕ, zero, suc, ◌+◌, ◌*◌, ◌/◌, ◌%◌, ◌^◌, ◌<◌, ◌≤◌, Bool, true, false, cond, ltb, leb, Some, None, Option, SomeIff, unwrap_or, ⊎_elim, sym, subst, refl, ap, ◌∙◌, mul_assoc, mul-le-mul_left, pow-add, pow-suc, add-one, arith, lit<, pow_pos}
use native.Mathlib.Nat.{pow-succ', div-div-eq-div-mul, pow-le-pow_right, div-eq_of_lt}
use Rattle.std.proofs.lemmas.Grind.{pow_more}
use Rattle.std.proofs.lemmas.Nat.{mul-pow}
use Rattle.std.proofs.lemmas.Bool.{cases_lt, and_parts, and_from, leb-true, lt-ltb, cond-true, cond-false}
use Rattle.voxels.specs.Bounded.{sum}
use Rattle.voxels.specs.Space.{is_depth, side, voxel_count, in_map, bit, octant, index_of, index_in, coordinate, voxel_at, voxel_in}
use Rattle.voxels.specs.declared.space.Voxel.{Voxel}
use Rattle.voxels.proofs.Bounds.{sum_first, sum_same, sum_scale}

-- the voxel of twice the size that holds v
abbrev half : Voxel → Voxel
half v = record { x = v.x / 2; y = v.y / 2; z = v.z / 2 }

pub octant_le : (k : ℕ) (v : Voxel) → octant k v ≤ 7
octant_le k v = omega arith

pub index_below : (d : ℕ) (v : Voxel) → index_of d v < 8 ^ d
unfolding sum
index_below zero v = lit< tt
index_below (suc d) v =
    let rest = index_below d v in
    let here : 8 ^ d * octant d v ≤ 8 ^ d * 7 = mul-le-mul_left (8 ^ d) (octant_le d v) in
    omega (arith, pow-suc 8 d)

-- a number's bits above the lowest are those of its half
bit_up : (k n : ℕ) → bit (suc k) n ≡ bit k (n / 2)
bit_up k n = ap (λ m. n / m % 2) (pow-succ' 2 k) ∙ ap (λ m. m % 2) (sym (div-div-eq-div-mul n 2 (2 ^ k)))

digit_up : (k i : ℕ) → i / 8 ^ suc k % 8 ≡ i / 8 / 8 ^ k % 8
digit_up k i = ap (λ m. i / m % 8) (pow-succ' 8 k) ∙ ap (λ m. m % 8) (sym (div-div-eq-div-mul i 8 (8 ^ k)))

voxel_same : {a b c x y z : ℕ} → a ≡ x → b ≡ y → c ≡ z → ◌≡◌ {A = Voxel} (record { x = a; y = b; z = c }) (record { x = x; y = y; z = z })
voxel_same p q r = cc

-- what is left of a number of base b above its lowest digit
tail_sum : (b d : ℕ) (f g : ℕ → ℕ) → ((k : ℕ) → k < d → f (suc k) ≡ g k) → sum (suc d) (λ k. b ^ k * f k) ≡ b ^ 0 * f 0 + b * sum d (λ k. b ^ k * g k)
tail_sum b d f g up =
    let step : (k : ℕ) → k < d → b ^ suc k * f (suc k) ≡ b * (b ^ k * g k) =
    λ k h. ap (λ w. w * f (suc k)) (pow-succ' b k) ∙ mul_assoc b (b ^ k) (f (suc k)) ∙ ap (λ v. b * (b ^ k * v)) (up k h) in
    sum_first d (λ k. b ^ k * f k) ∙ ap (λ s. b ^ 0 * f 0 + s) (sum_same d (λ k. b ^ suc k * f (suc k)) (λ k. b * (b ^ k * g k)) step ∙ sum_scale d b (λ k. b ^ k * g k))

index_step : (d : ℕ) (v : Voxel) → index_of (suc d) v ≡ octant 0 v + 8 * index_of d (half v)
index_step d v =
    let up : (k : ℕ) → k < d → octant (suc k) v ≡ octant k (half v) =
    λ k h. omega (arith, bit_up k v.x, bit_up k v.y, bit_up k v.z) in
    omega (arith, tail_sum 8 d (λ k. octant k v) (λ k. octant k (half v)) up)

coordinate_step : (axis d i : ℕ) → coordinate axis (suc d) i ≡ bit axis (i % 8) + 2 * coordinate axis d (i / 8)
coordinate_step axis d i =
    let first : i / 8 ^ 0 % 8 ≡ i % 8 = omega arith in
    omega (arith, tail_sum 2 d (λ k. bit axis (i / 8 ^ k % 8)) (λ k. bit axis (i / 8 / 8 ^ k % 8)) (λ k h. ap (bit axis) (digit_up k i)), ap (bit axis) first)

pub coordinate_below : (axis d i : ℕ) → coordinate axis d i < 2 ^ d
unfolding sum
coordinate_below axis zero i = lit< tt
coordinate_below axis (suc d) i =
    let rest = coordinate_below axis d i in
    let here : 2 ^ d * bit axis (i / 8 ^ d % 8) ≤ 2 ^ d * 1 = mul-le-mul_left (2 ^ d) (omega arith) in
    omega (arith, pow-suc 2 d)

half_below : (d n : ℕ) → n < 2 ^ suc d → n / 2 < 2 ^ d
half_below d n h = omega (arith, pow-suc 2 d)

only_voxel : (v : Voxel) → v.x < 1 → v.y < 1 → v.z < 1 → voxel_at 0 (index_of 0 v) ≡ v
unfolding sum
only_voxel v hx hy hz = voxel_same (omega arith) (omega arith) (omega arith)

-- the voxel at a voxel's index is that voxel
pub voxel_index : (d : ℕ) (v : Voxel) → v.x < 2 ^ d → v.y < 2 ^ d → v.z < 2 ^ d → voxel_at d (index_of d v) ≡ v
voxel_index zero v hx hy hz = only_voxel v hx hy hz
voxel_index (suc d) v hx hy hz =
    let o = octant 0 v in
    let i = index_of (suc d) v in
    let step = index_step d v in
    let low : i % 8 ≡ o = omega (arith, octant_le 0 v) in
    let high : i / 8 ≡ index_of d (half v) = omega (arith, octant_le 0 v) in
    let rest = voxel_index d (half v) (half_below d v.x hx) (half_below d v.y hy) (half_below d v.z hz) in
    let part : (axis : ℕ) → coordinate axis (suc d) i ≡ bit axis o + 2 * coordinate axis d (index_of d (half v)) =
    λ axis. coordinate_step axis d i ∙ ap (λ m. bit axis m + 2 * coordinate axis d (i / 8)) low ∙ ap (λ m. bit axis o + 2 * coordinate axis d m) high in
    voxel_same
    (omega (arith, part 0, ap (λ (w : Voxel). w.x) rest))
    (omega (arith, part 1, ap (λ (w : Voxel). w.y) rest))
    (omega (arith, part 2, ap (λ (w : Voxel). w.z) rest))

-- the index of the voxel at an index is that index
pub index_voxel : (d i : ℕ) → i < 8 ^ d → index_of d (voxel_at d i) ≡ i
unfolding sum
index_voxel zero i h = omega arith
index_voxel (suc d) i h =
    let v = voxel_at (suc d) i in
    let rest = index_voxel d (i / 8) (omega (arith, pow-suc 8 d)) in
    let halves : half v ≡ voxel_at d (i / 8) =
    voxel_same (omega (arith, coordinate_step 0 d i)) (omega (arith, coordinate_step 1 d i)) (omega (arith, coordinate_step 2 d i)) in
    let low : octant 0 v ≡ i % 8 = omega (arith, coordinate_step 0 d i, coordinate_step 1 d i, coordinate_step 2 d i) in
    omega (arith, index_step d v, low, ap (index_of d) halves, rest)

-- one level more, as the loops of the code come to it
pub index_more : (d : ℕ) (v : Voxel) → index_of (d + 1) v ≡ index_of d v + 8 ^ d * octant d v
unfolding sum
index_more d v = rw add-one (omega arith)

pub coordinate_more : (axis d i : ℕ) → coordinate axis (d + 1) i ≡ coordinate axis d i + 2 ^ d * bit axis (i / 8 ^ d % 8)
unfolding sum
coordinate_more axis d i = rw add-one (omega arith)

pub quotient_more : (i d : ℕ) → i / 8 ^ (d + 1) ≡ i / 8 ^ d / 8
quotient_more i d = ap (λ m. i / m) (pow_more 8 d) ∙ sym (div-div-eq-div-mul i (8 ^ d) 8)

eight : (d : ℕ) → 2 ^ d * 2 ^ d * 2 ^ d ≡ 8 ^ d
eight d = ap (λ m. m * 2 ^ d) (sym (mul-pow 2 2 d)) ∙ sym (mul-pow 4 2 d)

cubed : (b : Bool) (d : ℕ) → cond b (2 ^ d) 0 * cond b (2 ^ d) 0 * cond b (2 ^ d) 0 ≡ cond b (8 ^ d) 0
cubed true d = eight d
cubed false d = refl

pub side_cubed : (d : ℕ) → side d * side d * side d ≡ voxel_count d
side_cubed d = cubed (is_depth d) d

-- three bits for each level
pub bits_of : (level : ℕ) → 2 ^ (3 * level) ≡ 8 ^ level
bits_of level =
    let thrice : 3 * level ≡ level + level + level = omega arith in
    ap (λ n. 2 ^ n) thrice ∙ pow-add 2 (level + level) level ∙ ap (λ m. m * 2 ^ level) (pow-add 2 level level) ∙ eight level

-- past the last bit nothing is left
pub shifted : (i level : ℕ) → i < 2 ^ 64 → (o : Option ℕ) → SomeIff o (3 * level < 64) (i / 2 ^ (3 * level)) → unwrap_or o 0 ≡ i / 8 ^ level
shifted i level h (Some n) is = is.1 ∙ ap (λ m. i / m) (bits_of level)
shifted i level h None past =
    let deep : 64 ≤ 3 * level = ⊎_elim (λ low. absurd (past low)) (λ p. p) (cases_lt (3 * level) 64) in
    let wide : 2 ^ 64 ≤ 2 ^ (3 * level) = pow-le-pow_right (lit< tt) deep in
    let small : i < 8 ^ level = subst (λ m. i < m) (bits_of level) (omega (arith, h, wide)) in
    sym (div-eq_of_lt small)

-- a power at a level of a map
pub pow_small : (b k : ℕ) → 0 < b → k < 5 → b ^ k ≤ b ^ 4
pow_small b k pos h = pow-le-pow_right pos (omega arith)

-- what has a voxel is of depth 1 to 5
pub side_above : (d n : ℕ) → n < side d → (1 ≤ d) × (d ≤ 5) × (side d ≡ 2 ^ d) × (voxel_count d ≡ 8 ^ d)
side_above d n h = by_depth (is_depth d) refl
  where
    by_depth : (b : Bool) → is_depth d ≡ b → (1 ≤ d) × (d ≤ 5) × (side d ≡ 2 ^ d) × (voxel_count d ≡ 8 ^ d)
    by_depth true e =
        let p = and_parts (leb 1 d) (leb d 5) e in
        (leb-true 1 d p.0, leb-true d 5 p.1, cond-true (is_depth d) (2 ^ d) 0 e, cond-true (is_depth d) (8 ^ d) 0 e)
    by_depth false e = absurd (let none : side d ≡ 0 = cond-false (is_depth d) (2 ^ d) 0 e in omega (arith, none, h))

pub count_above : (d n : ℕ) → n < voxel_count d → (1 ≤ d) × (d ≤ 5) × (side d ≡ 2 ^ d) × (voxel_count d ≡ 8 ^ d)
count_above d n h = by_depth (is_depth d) refl
  where
    by_depth : (b : Bool) → is_depth d ≡ b → (1 ≤ d) × (d ≤ 5) × (side d ≡ 2 ^ d) × (voxel_count d ≡ 8 ^ d)
    by_depth true e = side_above d 0 (let full : side d ≡ 2 ^ d = cond-true (is_depth d) (2 ^ d) 0 e in omega (arith, full, pow_pos d))
    by_depth false e = absurd (let none : voxel_count d ≡ 0 = cond-false (is_depth d) (8 ^ d) 0 e in omega (arith, none, h))

-- coordinates below the side are in the map
pub in_map_lem : (d : ℕ) (v : Voxel) → v.x < side d → v.y < side d → v.z < side d → in_map d v ≡ true
in_map_lem d v hx hy hz = and_from _ _ (and_from _ _ (lt-ltb _ _ hx) (lt-ltb _ _ hy)) (lt-ltb _ _ hz)

-- a voxel of the map has an index, and is the voxel there
pub index_back : (d : ℕ) (v : Voxel) → v.x < side d → v.y < side d → v.z < side d → (index_in d v ≡ Some (index_of d v)) × (voxel_in d (index_of d v) ≡ Some v)
index_back d v hx hy hz =
    let depth = side_above d v.x hx in
    let i = index_of d v in
    let inside : i < voxel_count d = omega (arith, index_below d v, depth.3) in
    let same = voxel_index d v (omega (arith, depth.2)) (omega (arith, depth.2)) (omega (arith, depth.2)) in (
      cond-true (in_map d v) (Some i) None (in_map_lem d v hx hy hz),
      cond-true (ltb i (voxel_count d)) (Some (voxel_at d i)) None (lt-ltb i (voxel_count d) inside) ∙ ap Some same,
    )

-- an index of the map has a voxel, and is that voxel's
pub voxel_back : (d i : ℕ) → i < voxel_count d → (voxel_in d i ≡ Some (voxel_at d i)) × (index_in d (voxel_at d i) ≡ Some i)
voxel_back d i h =
    let depth = count_above d i h in
    let v = voxel_at d i in
    let inside = in_map_lem d v (omega (arith, depth.2, coordinate_below 0 d i)) (omega (arith, depth.2, coordinate_below 1 d i)) (omega (arith, depth.2, coordinate_below 2 d i)) in
    let same = index_voxel d i (omega (arith, depth.3)) in (
      cond-true (ltb i (voxel_count d)) (Some v) None (lt-ltb i (voxel_count d) h),
      cond-true (in_map d v) (Some (index_of d v)) None inside ∙ ap Some same,
    )
