-- The parts of a body: a pair, and behind it the bodies of the children with code 3.
use Rattle.std.proofs.Common.{◌≡◌, ℕ, zero, suc, ◌+◌, ◌-◌, ◌<◌, ◌≤◌, true, false, cond, eqb, List, [], ◌∷◌, ◌++◌, refl, ap, ◌∙◌, ap₂, add-one, arith}
use Rattle.std.proofs.lemmas.List.{append-nil}
use Rattle.std.proofs.lemmas.Bool.{cond-true, cond-false}
use Rattle.voxels.specs.declared.cells.State.{State}
use Rattle.bodies.specs.Bodies.{joined, child_first, child_codes, body_of}
use Rattle.bodies.specs.Codes.{byte_of, cube_code}
use Rattle.bodies.proofs.CubeSizes.{level_up}
use Rattle.bodies.proofs.Packing.{pair_same}
use Rattle.bodies.proofs.UniformCubes.{Same, code_same, same_child}

pub joined_none : (f : ℕ → List ℕ) → joined 0 f ≡ []
unfolding joined
joined_none f = refl

pub joined_more : (n : ℕ) (f : ℕ → List ℕ) → joined (suc n) f ≡ joined n f ++ f n
unfolding joined
joined_more n f = refl

pub joined_same : (n : ℕ) (f g : ℕ → List ℕ) → ((j : ℕ) → j < n → f j ≡ g j) → joined n f ≡ joined n g
unfolding joined
joined_same zero f g same = refl
joined_same (suc n) f g same = ap₂ ◌++◌ (joined_same n f g (λ j h. same j (omega arith))) (same n (omega arith))

-- what a cube adds to the body it is in
abbrev pub part_of : ℕ → (ℕ → State) → ℕ → List ℕ
part_of level states first = cond (eqb (cube_code level states first) 3) (body_of level states first) []

-- what a child adds
abbrev pub child_body : ℕ → (ℕ → State) → ℕ → ℕ → List ℕ
child_body level states first j = part_of level states (child_first level first j)

pub body_more : (level : ℕ) (states : ℕ → State) (first : ℕ) → body_of (suc level) states first ≡ byte_of (child_codes level states first) ∷ byte_of (λ k. child_codes level states first (4 + k)) ∷ joined 8 (child_body level states first)
unfolding body_of
body_more level states first = refl

-- by the level of the children
pub body_up : (level : ℕ) (states : ℕ → State) (first : ℕ) → 1 ≤ level → body_of level states first ≡ byte_of (child_codes (level - 1) states first) ∷ byte_of (λ k. child_codes (level - 1) states first (4 + k)) ∷ joined 8 (child_body (level - 1) states first)
body_up level states first h = ap (λ n. body_of n states first) (level_up level h) ∙ body_more (level - 1) states first

-- cubes with the same states have the same body
part_with : (level : ℕ) (states : ℕ → State) (first : ℕ) (others : ℕ → State) (start : ℕ) → Same level states first others start → body_of level states first ≡ body_of level others start → part_of level states first ≡ part_of level others start
part_with level states first others start same body = ap₂ (λ (code : ℕ) (bytes : List ℕ). cond (eqb code 3) bytes []) (code_same level states first others start same) body

pub body_same : (level : ℕ) (states : ℕ → State) (first : ℕ) (others : ℕ → State) (start : ℕ) → Same level states first others start → body_of level states first ≡ body_of level others start
unfolding body_of
body_same zero states first others start same = refl
body_same (suc level) states first others start same =
    let child = same_child level states first others start same in
    ap₂ ◌++◌
    (pair_same (child_codes level states first) (child_codes level others start) (λ j h. code_same level states (child_first level first j) others (child_first level start j) (child j h)))
    (joined_same 8 _ _ (λ j h. part_with level states (child_first level first j) others (child_first level start j) (child j h) (body_same level states (child_first level first j) others (child_first level start j) (child j h))))

pub part_same : (level : ℕ) (states : ℕ → State) (first : ℕ) (others : ℕ → State) (start : ℕ) → Same level states first others start → part_of level states first ≡ part_of level others start
part_same level states first others start same = part_with level states first others start same (body_same level states first others start same)

-- one child more
module _ (level : ℕ) (states : ℕ → State) (first j : ℕ) where
  joined_child : (bytes : List ℕ) → child_body level states first j ≡ bytes → joined (j + 1) (child_body level states first) ≡ joined j (child_body level states first) ++ bytes
  joined_child bytes is =
      ap (λ n. joined n (child_body level states first)) (add-one j) ∙ joined_more j (child_body level states first) ∙ ap (λ b. joined j (child_body level states first) ++ b) is

  pub joined_mixed : eqb (child_codes level states first j) 3 ≡ true → joined (j + 1) (child_body level states first) ≡ joined j (child_body level states first) ++ body_of level states (child_first level first j)
  joined_mixed three = joined_child _ (cond-true (eqb (child_codes level states first j) 3) (body_of level states (child_first level first j)) [] three)

  pub joined_uniform : eqb (child_codes level states first j) 3 ≡ false → joined (j + 1) (child_body level states first) ≡ joined j (child_body level states first)
  joined_uniform other =
      joined_child [] (cond-false (eqb (child_codes level states first j) 3) (body_of level states (child_first level first j)) [] other)
      ∙ append-nil (joined j (child_body level states first))
