-- The children of a pair that was made of a branch's codes.
use Rattle.std.proofs.Common.{◌≡◌, ℕ, ◌+◌, ◌-◌, ◌^◌, ◌<◌, ◌≤◌, ◌≢◌, Bool, true, false, cond, eqb, MatchBool, List, [], ◌∷◌, ◌++◌, length, get_or, take, drop, Some, None, Option, is_some, sym, ap, ◌∙◌, ap₂, ⊎_elim, arith}
use Rattle.std.specs.List.{AllWithin, HoldsAt}
use Rattle.std.proofs.lemmas.List.{length-append}
use Rattle.std.proofs.lemmas.Bool.{both_ways, cases_Bool, cond-true, cond-false, eq-eqb, eqb-true}
use Rattle.voxels.specs.declared.cells.State.{State}
use Rattle.bodies.specs.Bodies.{joined, child_first, body_of}
use Rattle.bodies.specs.Branch.{branch_body, branch_code}
use Rattle.bodies.specs.Codes.{byte_of, child_code, code_state, cube_code}
use Rattle.bodies.specs.Reads.{code_of}
use Rattle.bodies.specs.Writes.{word_states}
use Rattle.bodies.specs.declared.codes.Pair.{Pair}
use Rattle.bodies.specs.declared.cubes.Cube.{Cube}
use Rattle.bodies.specs.declared.writer.Branch.{Branch}
use Rattle.bodies.proofs.BodyParts.{body_up, child_body, joined_mixed, joined_none, joined_uniform}
use Rattle.bodies.proofs.BodySizes.{children_in_body}
use Rattle.bodies.proofs.CubeSizes.{child_in_cube}
use Rattle.bodies.proofs.UniformCubes.{mixed_above, mixed_from_code}
use Rattle.bodies.proofs.Words.{part_long, words_code}
use Rattle.bodies.proofs.Written.{written_code}

-- what is under the pair of a branch
abbrev pub under : Branch → ℕ → List ℕ
under branch n = joined n (child_body (branch.cube.level - 1) (word_states branch.words.now) branch.cube.first)

pub under_none : (branch : Branch) → under branch 0 ≡ []
under_none branch = joined_none (child_body (branch.cube.level - 1) (word_states branch.words.now) branch.cube.first)

pub pair_body : (branch : Branch) → byte_of (branch_code branch) ∷ byte_of (λ k. branch_code branch (4 + k)) ∷ under branch 8 ≡ branch_body branch
pair_body branch = sym (body_up branch.cube.level (word_states branch.words.now) branch.cube.first branch.above)

pub written_body : (branch : Branch) (pair : Pair) (n : ℕ) → pair.first ≡ byte_of (branch_code branch) → pair.second ≡ byte_of (λ k. branch_code branch (4 + k)) → n ≡ 8 → pair.first ∷ pair.second ∷ under branch n ≡ branch_body branch
written_body branch pair n lower upper whole =
    ap₂ (λ x y. x ∷ y ∷ under branch n) lower upper ∙ ap (λ m. byte_of (branch_code branch) ∷ byte_of (λ k. branch_code branch (4 + k)) ∷ under branch m) whole ∙ pair_body branch

pub child_in_words : (branch : Branch) (cube : Cube) (j : ℕ) → j < 8 → cube.level ≡ branch.cube.level - 1 → cube.first ≡ child_first (branch.cube.level - 1) branch.cube.first j → cube.first + 8 ^ cube.level ≤ length branch.words.now
child_in_words branch cube j h level first = omega (arith, branch.long, ap (λ n. 8 ^ n) level, first, child_in_cube branch.cube.level branch.cube.first j branch.above h)

-- a child's code, by whether all of its words are the first
module _ (branch : Branch) (cube : Cube) (j n : ℕ) (h : j < 8) (level : cube.level ≡ branch.cube.level - 1) (first : cube.first ≡ child_first (branch.cube.level - 1) branch.cube.first j) (size : n ≡ 8 ^ cube.level) where
  abbrev words : List ℕ
  words = take n (drop cube.first branch.words.now)

  within : cube.first + n ≤ length branch.words.now
  within = omega (arith, child_in_words branch cube j h level first, size)

  pub child_long : length words ≡ 8 ^ cube.level
  child_long = part_long branch.words.now branch.coded cube.level cube.first n size within ∙ size

  pub child_told : (all-same : Bool) → MatchBool all-same (AllWithin (λ x. x ≡ get_or words 0 0) words 0 (length words)) ((k : ℕ) × (k < length words) × HoldsAt (λ x. x ≢ get_or words 0 0) words k) → (is : Bool) → all-same ≡ is → cond is (get_or words 0 0) 3 ≡ branch_code branch j
  child_told all-same told is same =
      sym (ap (λ r. cond r (get_or words 0 0) 3) same)
      ∙ words_code branch.words.now branch.coded cube.level cube.first n size within all-same told
      ∙ ap₂ (λ l i. cube_code l (word_states branch.words.now) i) level first

-- a child with code 3 is no voxel
pub branch_above : (branch : Branch) (j : ℕ) → branch_code branch j ≡ 3 → 1 ≤ branch.cube.level - 1
branch_above branch j three =
    let states = word_states branch.words.now in
    mixed_above (branch.cube.level - 1) states _ (mixed_from_code (branch.cube.level - 1) states _ (eq-eqb _ 3 three))

-- a child's code by what its parent's pair says
none_code : (code : ℕ) → is_some (code_of code) ≡ false → code ≡ 3
none_code code none =
    ⊎_elim
    (λ three. eqb-true code 3 three)
    (λ other. absurd (both_ways _ none (ap is_some (cond-false (eqb code 3) None (Some (code_state code)) other))))
    (cases_Bool (eqb code 3))

some_code : (code : ℕ) → is_some (code_of code) ≡ true → eqb code 3 ≡ false
some_code code some =
    ⊎_elim
    (λ three. absurd (both_ways _ (ap is_some (cond-true (eqb code 3) None (Some (code_state code)) three)) some))
    (λ other. other)
    (cases_Bool (eqb code 3))

module _ (branch : Branch) (pair : Pair)
    (lower : pair.first ≡ byte_of (branch_code branch)) (upper : pair.second ≡ byte_of (λ k. branch_code branch (4 + k)))
    (j : ℕ) (h : j < 8) (state : Option State) (is : state ≡ code_of (child_code pair.first pair.second j)) where
  its_state : state ≡ code_of (branch_code branch j)
  its_state = is ∙ ap code_of (ap₂ (λ x y. child_code x y j) lower upper ∙ written_code (branch.cube.level - 1) (word_states branch.words.now) branch.cube.first j h)

  pub mixed_code : is_some state ≡ false → branch_code branch j ≡ 3
  mixed_code none = none_code _ (ap is_some (sym its_state) ∙ none)

  -- a uniform child adds nothing to the body
  pub under_uniform : is_some state ≡ true → under branch (j + 1) ≡ under branch j
  under_uniform some = joined_uniform (branch.cube.level - 1) (word_states branch.words.now) branch.cube.first j (some_code _ (ap is_some (sym its_state) ∙ some))

-- a child with code 3 adds its body
module _ (branch child : Branch) (j : ℕ) (three : branch_code branch j ≡ 3)
    (words : child.words.now ≡ branch.words.now) (level : child.cube.level ≡ branch.cube.level - 1) (first : child.cube.first ≡ child_first (branch.cube.level - 1) branch.cube.first j) where
  child_is : branch_body child ≡ body_of (branch.cube.level - 1) (word_states branch.words.now) (child_first (branch.cube.level - 1) branch.cube.first j)
  child_is = ap (λ w. body_of child.cube.level (word_states w) child.cube.first) words ∙ ap₂ (λ n i. body_of n (word_states branch.words.now) i) level first

  pub under_mixed : under branch (j + 1) ≡ under branch j ++ branch_body child
  under_mixed = joined_mixed (branch.cube.level - 1) (word_states branch.words.now) branch.cube.first j (eq-eqb _ 3 three) ∙ ap (λ b. under branch j ++ b) (sym child_is)

  pub length_mixed : length (under branch (j + 1)) ≡ length (under branch j) + length (branch_body child)
  length_mixed = ap length under_mixed ∙ length-append (under branch j) (branch_body child)

  pub child_room : j < 8 → 2 + length (under branch j) + length (branch_body child) ≤ length (branch_body branch)
  child_room h = omega (arith, length_mixed, children_in_body branch.cube.level (word_states branch.words.now) branch.cube.first branch.above (j + 1) (omega arith))
