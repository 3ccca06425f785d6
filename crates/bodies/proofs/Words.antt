-- The cubes that coded words say.
use Rattle.std.proofs.Common.{◌≡◌, ℕ, ◌+◌, ◌^◌, ◌<◌, ◌≤◌, ◌≢◌, Bool, true, false, cond, MatchBool, List, length, get_or, take, drop, sym, ap, ◌∙◌, ⊎_elim, arith}
use Rattle.std.specs.List.{AllWithin, HoldsAt}
use Rattle.std.proofs.lemmas.Bool.{cases_Bool}
use Rattle.std.proofs.lemmas.List.{get_or-drop, get_or-take, length-drop, length-take-le}
use Rattle.bodies.specs.Codes.{cube_code, state_code, uniform}
use Rattle.bodies.specs.Writes.{Coded, word_states}
use Rattle.bodies.proofs.UniformCubes.{code_mixed, code_uniform, state_code_lem, state_from_code, uniform_each, uniform_from}
use Rattle.voxels.proofs.Blocks.{eight_pos}

-- a word is the code of its state
word_code : (words : List ℕ) → Coded words → (i : ℕ) → state_code (word_states words i) ≡ get_or words i 0
word_code words coded i = state_code_lem (get_or words i 0) (omega (arith, coded i))

module _ (words : List ℕ) (coded : Coded words) (level first : ℕ) where
  -- equal words are a uniform cube's
  words_uniform : (code : ℕ) → ((j : ℕ) → j < 8 ^ level → get_or words (first + j) 0 ≡ code) → cube_code level (word_states words) first ≡ code
  words_uniform code same =
      let here : get_or words first 0 ≡ code = ap (λ k. get_or words k 0) (omega arith) ∙ same 0 (eight_pos level) in
      code_uniform level (word_states words) first (uniform_from level (word_states words) first (λ j h. state_from_code _ _ (word_code words coded (first + j) ∙ same j h ∙ sym (word_code words coded first ∙ here))))
      ∙ word_code words coded first
      ∙ here

  -- a word that differs from the first makes it a mixed one
  words_mixed : (j : ℕ) → j < 8 ^ level → get_or words (first + j) 0 ≢ get_or words first 0 → cube_code level (word_states words) first ≡ 3
  words_mixed j h other =
      ⊎_elim
      (λ is. absurd (other (sym (word_code words coded (first + j)) ∙ ap state_code (uniform_each level (word_states words) first is j h) ∙ word_code words coded first)))
      (λ mixed. code_mixed level (word_states words) first mixed)
      (cases_Bool (uniform level (word_states words) first))

  -- whether all of the cube's words are the first
  module _ (n : ℕ) (size : n ≡ 8 ^ level) (within : first + n ≤ length words) where
    abbrev part : List ℕ
    part = take n (drop first words)

    pub part_long : length part ≡ n
    part_long = length-take-le n (drop first words) (omega (arith, length-drop first words))

    part_at : (j : ℕ) → j < n → get_or part j 0 ≡ get_or words (first + j) 0
    part_at j h = get_or-take n (drop first words) j 0 h ∙ get_or-drop first words j 0

    pub words_code : (r : Bool) → MatchBool r (AllWithin (λ x. x ≡ get_or part 0 0) part 0 (length part)) ((k : ℕ) × (k < length part) × HoldsAt (λ x. x ≢ get_or part 0 0) part k) → cond r (get_or part 0 0) 3 ≡ cube_code level (word_states words) first
    words_code true same = sym (words_uniform (get_or part 0 0) (λ j h. sym (part_at j (omega arith)) ∙ same j 0 (omega arith) (omega (arith, part_long))))
    words_code false other =
        let k = other.0 in
        let inside : k < n = omega (arith, other.1, part_long) in
        let here : get_or part 0 0 ≡ get_or words first 0 = part_at 0 (omega arith) ∙ ap (λ i. get_or words i 0) (omega arith) in
        sym (words_mixed k (omega arith) (λ same. other.2 0 (part_at k inside ∙ same ∙ sym here)))
