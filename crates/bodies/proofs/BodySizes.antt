-- How many bytes a body has, and what its children's bodies take of it.
use Rattle.std.proofs.Common.{◌≡◌, ℕ, zero, suc, ◌+◌, ◌-◌, ◌*◌, ◌^◌, ◌<◌, ◌≤◌, eqb, List, [], length, ap, ⊎_elim, suc-mul, pow-suc, arith}
use Rattle.std.proofs.lemmas.List.{length-append}
use Rattle.std.proofs.lemmas.Bool.{cases_eq, cond_both}
use Rattle.voxels.proofs.Blocks.{eight_pos}
use Rattle.voxels.specs.declared.cells.State.{State}
use Rattle.bodies.specs.Bodies.{joined, child_first, child_codes, body_of}
use Rattle.bodies.proofs.BodyParts.{body_more, body_up, child_body, joined_none, joined_more}

-- the joined lists grow
joined_le : (n m : ℕ) (f : ℕ → List ℕ) → n ≤ m → length (joined n f) ≤ length (joined m f)
joined_le n zero f h = let none : n ≡ 0 = omega arith in omega (arith, ap (λ k. length (joined k f)) none)
joined_le n (suc m) f h =
    ⊎_elim
    (λ last. omega (arith, ap (λ k. length (joined k f)) last))
    (λ other. omega (arith, joined_le n m f (omega arith), ap length (joined_more m f), length-append (joined m f) (f m)))
    (cases_eq n (suc m))

joined_bound : (n size : ℕ) (f : ℕ → List ℕ) → ((j : ℕ) → length (f j) ≤ size) → length (joined n f) ≤ n * size
joined_bound zero size f each = omega (arith, ap length (joined_none f))
joined_bound (suc n) size f each = omega (arith, joined_bound n size f each, each n, suc-mul n size, ap length (joined_more n f), length-append (joined n f) (f n))

-- fewer bytes than the cube has voxels
pub body_small : (level : ℕ) (states : ℕ → State) (first : ℕ) → length (body_of level states first) < 8 ^ level
unfolding body_of
body_small zero states first = omega arith
body_small (suc level) states first =
    let each : (j : ℕ) → length (child_body level states first j) ≤ 8 ^ level - 1 =
    λ j. cond_both (eqb (child_codes level states first j) 3) (body_of level states (child_first level first j)) [] (λ b. length b ≤ 8 ^ level - 1) (λ three. omega (arith, body_small level states (child_first level first j))) (λ other. omega arith) in
    omega (arith, pow-suc 8 level, eight_pos level, joined_bound 8 (8 ^ level - 1) (child_body level states first) each, ap length (body_more level states first))

-- the pair and the first children's bodies are within the body
pub children_in_body : (level : ℕ) (states : ℕ → State) (first : ℕ) → 1 ≤ level → (n : ℕ) → n ≤ 8 → 2 + length (joined n (child_body (level - 1) states first)) ≤ length (body_of level states first)
children_in_body level states first above n h = omega (arith, joined_le n 8 (child_body (level - 1) states first) h, ap length (body_up level states first above))
