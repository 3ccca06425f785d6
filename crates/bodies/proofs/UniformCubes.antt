-- Uniform and mixed cubes: their states and their codes.
use Rattle.std.proofs.Common.{◌≡◌, ℕ, zero, suc, ◌+◌, ◌*◌, ◌/◌, ◌%◌, ◌^◌, ◌<◌, ◌≤◌, Bool, true, false, cond, not, eqb, ◌∷◌, map, replicate, sym, refl, ap, ◌∙◌, ap₂, ⊎_elim, add-zero, add_assoc, zero-mul, arith, lit<}
use Rattle.std.specs.List.{range_with_len}
use Rattle.std.proofs.lemmas.Bool.{both_ways, cases_Bool, cond-true, cond-false, eqb-true, eq-eqb, ne_eqb, not-true, not-false}
use Rattle.voxels.proofs.Blocks.{eight_pos}
use Rattle.voxels.proofs.Bounds.{all_at, all_holds, all_same}
use Rattle.voxels.specs.Bounded.{all}
use Rattle.voxels.specs.declared.cells.State.{State}
use Rattle.voxels.specs.declared.cells.State.TheVariants.{Unknown, Free, Occupied}
use Rattle.bodies.specs.Bodies.{child_first, child_codes}
use Rattle.bodies.specs.Codes.{state_code, code_state, same_state, uniform, cube_code}
use Rattle.bodies.proofs.CubeSizes.{in_child, in_cube}

-- a state comes back out of its code
pub state_back : (s : State) → code_state (state_code s) ≡ s
state_back Unknown = refl
state_back Free = refl
state_back Occupied = refl

pub state_small : (s : State) → state_code s < 3
state_small Unknown = lit< tt
state_small Free = lit< tt
state_small Occupied = lit< tt

pub state_from_code : (a b : State) → state_code a ≡ state_code b → a ≡ b
state_from_code a b e = sym (state_back a) ∙ ap code_state e ∙ state_back b

-- a code that is not 3 comes back out of its state
pub state_code_lem : (code : ℕ) → code < 3 → state_code (code_state code) ≡ code
state_code_lem zero h = refl
state_code_lem (suc zero) h = refl
state_code_lem (suc (suc zero)) h = refl
state_code_lem (suc (suc (suc n))) h = absurd (omega arith)

-- a list of one element
map_one : {X : Type 0} (f : ℕ → X) (x : X) (a n : ℕ) → ((j : ℕ) → j < n → f (a + j) ≡ x) → map f (range_with_len a n) ≡ replicate n x
map_one f x a zero each = refl
map_one f x a (suc n) each =
    let here : f a ≡ x = ap f (sym (add-zero a)) ∙ each 0 (omega arith) in
    let step : (j : ℕ) → j < n → f (a + 1 + j) ≡ x = λ j h. ap f (omega arith) ∙ each (suc j) (omega arith) in
    ap₂ (λ y l. y ∷ l) here (map_one f x (a + 1) n step)

module _ (level : ℕ) (states : ℕ → State) (first : ℕ) where
  pub uniform_each : uniform level states first ≡ true → (j : ℕ) → j < 8 ^ level → states (first + j) ≡ states first
  unfolding uniform
  uniform_each is j h = state_from_code _ _ (eqb-true _ _ (all_at (8 ^ level) (λ k. same_state (states (first + k)) (states first)) is j h))

  pub uniform_from : ((j : ℕ) → j < 8 ^ level → states (first + j) ≡ states first) → uniform level states first ≡ true
  unfolding uniform
  uniform_from each = all_holds (8 ^ level) (λ k. same_state (states (first + k)) (states first)) (λ j h. eq-eqb _ _ (ap state_code (each j h)))

  pub code_uniform : uniform level states first ≡ true → cube_code level states first ≡ state_code (states first)
  unfolding cube_code
  code_uniform is = cond-true (uniform level states first) (state_code (states first)) 3 is

  pub code_mixed : uniform level states first ≡ false → cube_code level states first ≡ 3
  unfolding cube_code
  code_mixed mixed = cond-false (uniform level states first) (state_code (states first)) 3 mixed

  pub code_le : cube_code level states first ≤ 3
  code_le =
      ⊎_elim
      (λ is. omega (arith, code_uniform is, state_small (states first)))
      (λ mixed. omega (arith, code_mixed mixed))
      (cases_Bool (uniform level states first))

  -- the code is 3 just where the cube is mixed
  pub code_test : eqb (cube_code level states first) 3 ≡ not (uniform level states first)
  code_test =
      ⊎_elim
      (λ is. ne_eqb (cube_code level states first) 3 (λ e. omega (arith, e, code_uniform is, state_small (states first))) ∙ sym (ap not is))
      (λ mixed. eq-eqb (cube_code level states first) 3 (code_mixed mixed) ∙ sym (ap not mixed))
      (cases_Bool (uniform level states first))

  pub uniform_from_code : eqb (cube_code level states first) 3 ≡ false → uniform level states first ≡ true
  uniform_from_code e = not-false (uniform level states first) (sym code_test ∙ e)

  pub mixed_from_code : eqb (cube_code level states first) 3 ≡ true → uniform level states first ≡ false
  mixed_from_code e = not-true (uniform level states first) (sym code_test ∙ e)

  -- the states of a uniform cube
  pub uniform_states : uniform level states first ≡ true → map states (range_with_len first (8 ^ level)) ≡ replicate (8 ^ level) (code_state (cube_code level states first))
  uniform_states is =
      map_one states (states first) first (8 ^ level) (uniform_each is)
      ∙ ap (replicate (8 ^ level)) (sym (ap code_state (code_uniform is) ∙ state_back (states first)))

-- a voxel is uniform
pub uniform_voxel : (states : ℕ → State) (first : ℕ) → uniform 0 states first ≡ true
uniform_voxel states first = uniform_from 0 states first (λ j h. ap states (omega arith))

-- a mixed cube is above the voxels
pub mixed_above : (level : ℕ) (states : ℕ → State) (first : ℕ) → uniform level states first ≡ false → 1 ≤ level
mixed_above zero states first mixed = absurd (both_ways _ mixed (uniform_voxel states first))
mixed_above (suc level) states first mixed = omega arith

module _ (level : ℕ) (states : ℕ → State) (first : ℕ) where
  first_child : child_first level first 0 ≡ first
  first_child = omega (arith, zero-mul (8 ^ level))

  -- a child's code that is not 3 is the code of its first voxel's state
  child_state : (j : ℕ) → eqb (child_codes level states first j) 3 ≡ false → child_codes level states first j ≡ state_code (states (child_first level first j))
  child_state j e = code_uniform level states (child_first level first j) (uniform_from_code level states (child_first level first j) e)

  -- children with one code that is not 3 make a uniform cube
  pub uniform_merged : all 8 (λ j. eqb (child_codes level states first j) (child_codes level states first 0)) ≡ true → eqb (child_codes level states first 0) 3 ≡ false → uniform (suc level) states first ≡ true
  uniform_merged every free =
      let codes : (j : ℕ) → j < 8 → child_codes level states first j ≡ child_codes level states first 0 =
      λ j h. eqb-true _ _ (all_at 8 (λ k. eqb (child_codes level states first k) (child_codes level states first 0)) every j h) in
      let free-at : (j : ℕ) → j < 8 → eqb (child_codes level states first j) 3 ≡ false =
      λ j h. ap (λ c. eqb c 3) (codes j h) ∙ free in
      let starts : (j : ℕ) → j < 8 → states (child_first level first j) ≡ states first =
      λ j h. state_from_code _ _ (sym (child_state j (free-at j h)) ∙ codes j h ∙ child_state 0 free) ∙ ap states first_child in
      uniform_from (suc level) states first (λ j h.
      let place = in_child level first j h in
      let q = j / 8 ^ level in
      ap states (sym place.2)
      ∙ uniform_each level states (child_first level first q) (uniform_from_code level states (child_first level first q) (free-at q place.0)) (j % 8 ^ level) place.1
      ∙ starts q place.0)

  -- the children of a uniform cube begin with its state
  child_start : uniform (suc level) states first ≡ true → (j : ℕ) → j < 8 → states (child_first level first j) ≡ states first
  child_start is j h = uniform_each (suc level) states first is (j * 8 ^ level) (omega (arith, in_cube level j 0 h (eight_pos level)))

  -- and are uniform
  child_uniform : uniform (suc level) states first ≡ true → (j : ℕ) → j < 8 → uniform level states (child_first level first j) ≡ true
  child_uniform is j h = uniform_from level states (child_first level first j) (λ k below.
      ap states (omega arith) ∙ uniform_each (suc level) states first is (j * 8 ^ level + k) (in_cube level j k h below) ∙ sym (child_start is j h))

  -- with its code
  pub child_code_lem : uniform (suc level) states first ≡ true → (j : ℕ) → j < 8 → child_codes level states first j ≡ state_code (states first)
  child_code_lem is j h = code_uniform level states (child_first level first j) (child_uniform is j h) ∙ ap state_code (child_start is j h)

-- two cubes with the same states, wherever they stand
abbrev pub Same : ℕ → (ℕ → State) → ℕ → (ℕ → State) → ℕ → Type 0
Same level states first others start = (i : ℕ) → i < 8 ^ level → states (first + i) ≡ others (start + i)

pub same_child : (level : ℕ) (states : ℕ → State) (first : ℕ) (others : ℕ → State) (start : ℕ) → Same (suc level) states first others start → (j : ℕ) → j < 8 → Same level states (child_first level first j) others (child_first level start j)
same_child level states first others start same j h i k =
    ap states (add_assoc first (j * 8 ^ level) i) ∙ same (j * 8 ^ level + i) (in_cube level j i h k) ∙ ap others (sym (add_assoc start (j * 8 ^ level) i))

module _ (level : ℕ) (states : ℕ → State) (first : ℕ) (others : ℕ → State) (start : ℕ) (same : Same level states first others start) where
  same_first : states first ≡ others start
  same_first = ap states (sym (add-zero first)) ∙ same 0 (eight_pos level) ∙ ap others (add-zero start)

  uniform_same : uniform level states first ≡ uniform level others start
  unfolding uniform
  uniform_same = all_same (8 ^ level) _ _ (λ j h. ap₂ same_state (same j h) same_first)

  pub code_same : cube_code level states first ≡ cube_code level others start
  unfolding cube_code
  code_same = ap₂ (λ (b : Bool) (s : State). cond b (state_code s) 3) uniform_same same_first
