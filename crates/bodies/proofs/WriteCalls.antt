-- The write call: the words that keep a map's states, and its answer.
use Rattle.std.proofs.Common.{◌≡◌, ℕ, ◌+◌, ◌^◌, ◌<◌, ◌≤◌, ltb, List, length, get_or, take, ap, ◌∙◌, ap₂, ⊎_elim, arith}
use Rattle.std.proofs.lemmas.List.{get_or_past, length-take-le}
use Rattle.std.proofs.lemmas.Bool.{cases_lt, cond-false, cond-true, le-ltb, lt-ltb}
use Rattle.voxels.proofs.Blocks.{count_depth, map_depth}
use Rattle.voxels.specs.Cells.{state_of}
use Rattle.voxels.specs.Refusals.{taken, refused}
use Rattle.voxels.specs.Space.{voxel_count}
use Rattle.voxels.specs.declared.cells.Cell.{Cell}
use Rattle.bodies.specs.Bodies.{body_of, map_body}
use Rattle.bodies.specs.Codes.{code_state, state_code}
use Rattle.bodies.specs.Writes.{Coded, room_answer, word_states}
use Rattle.bodies.specs.declared.cubes.Cube.{Cube}
use Rattle.bodies.proofs.BodyParts.{body_same}
use Rattle.bodies.proofs.UniformCubes.{state_back, state_small}

-- words that say a map's states, with the cube of the whole map
pub record RootWords (depth : ℕ) (cells : ℕ → Cell) (words : List ℕ) (root : Cube) : Type 0 where
  pub coded : Coded words
  pub long : root.first + 8 ^ root.level ≤ length words
  pub above : 1 ≤ root.level
  pub body : body_of root.level (word_states words) root.first ≡ map_body depth cells

module _ (depth held count : ℕ) (cells : ℕ → Cell) (before words : List ℕ) (same : held ≡ depth) (voxels : count ≡ voxel_count held) (whole : length words ≡ length (take count before)) (room : voxel_count depth ≤ length before)
    (codes : (i : ℕ) → i < length words → get_or words i 0 ≡ state_code (state_of (cells i))) where
  kept_coded : Coded words
  kept_coded i =
      ⊎_elim
      (λ inside. omega (arith, codes i inside, state_small (state_of (cells i))))
      (λ past. omega (arith, get_or_past words i 0 (omega arith)))
      (cases_lt i (length words))

  kept_state : (i : ℕ) → i < length words → word_states words i ≡ state_of (cells i)
  kept_state i h = ap code_state (codes i h) ∙ state_back (state_of (cells i))

  pub root_words : (root : Cube) → 1 ≤ depth → depth ≤ 5 → root.level ≡ held → root.first ≡ 0 → RootWords depth cells words root
  root_words root some shallow level-is first-is =
      let states = word_states words in
      let counts : count ≡ voxel_count depth = voxels ∙ ap voxel_count same in
      let size : length words ≡ 8 ^ depth = whole ∙ length-take-le count before (omega (arith, counts)) ∙ counts ∙ count_depth depth (map_depth depth some shallow) in
      let level : root.level ≡ depth = level-is ∙ same in
      record {
        coded = kept_coded;
        long = omega (arith, first-is, ap (λ n. 8 ^ n) level, size);
        above = omega (arith, some, level);
        body = ap₂ (λ n i. body_of n states i) level first-is ∙ body_same depth states 0 (λ i. state_of (cells i)) 0 (λ j h. kept_state (0 + j) (omega (arith, size)));
      }

-- the answer by the output's length
module _ (depth : ℕ) (cells : ℕ → Cell) (room : ℕ) where
  pub room_short : room < length (map_body depth cells) → room_answer depth cells room ≡ refused 18 0
  room_short short = cond-true (ltb room (length (map_body depth cells))) _ _ (lt-ltb room (length (map_body depth cells)) short)

  pub room_enough : length (map_body depth cells) ≤ room → room_answer depth cells room ≡ taken (length (map_body depth cells))
  room_enough enough = cond-false (ltb room (length (map_body depth cells))) _ _ (le-ltb room (length (map_body depth cells)) enough)
