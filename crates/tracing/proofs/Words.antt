-- The word of one voxel, marked.
use Rattle.std.proofs.Common.{◌≡◌, ℕ, ◌<◌, true, false, cond, ◌&&◌, eqb, ltb, List, length, get_or, set, Some, None, arith}
use Rattle.std.proofs.lemmas.Bool.{cases_eq, cases_lt}
use Rattle.std.proofs.lemmas.Bool.Decides.{nat_tests}
use Rattle.std.proofs.lemmas.List.{get_or-set_same, get_or-set_other}
use Rattle.voxels.specs.Space.{voxel_at, voxel_in, index_in, voxel_count}
use Rattle.voxels.specs.declared.space.Voxel.{Voxel}
use Rattle.voxels.proofs.Indices.{voxel_back}
use Rattle.tracing.specs.Lines.{same_voxel}
use Rattle.tracing.proofs.Passed.{same_voxel_lem, voxel_same}

module _ (depth : ℕ) (v : Voxel) where
  -- an index of the map whose voxel is v is the index of v
  found_index : (i : ℕ) → (ltb i (voxel_count depth) && same_voxel v (voxel_at depth i)) ≡ true → index_in depth v ≡ Some i
  found_index i h = grind (arith, nat_tests, same_voxel_lem v (voxel_at depth i), voxel_back depth i)

  -- no word is that of a voxel outside
  pub marked_nowhere : index_in depth v ≡ None → (i : ℕ) → (ltb i (voxel_count depth) && same_voxel v (voxel_at depth i)) ≡ false
  marked_nowhere outside i = grind (arith, nat_tests, found_index i)

  module _ (index : ℕ) (value : index_in depth v ≡ Some index) (back : voxel_in depth index ≡ Some v) where
    pub index_inside : index < voxel_count depth
    index_inside = grind (arith, nat_tests, cases_lt index (voxel_count depth))

    -- just the word at the index is the voxel's
    pub marked_at : (i : ℕ) → (ltb i (voxel_count depth) && same_voxel v (voxel_at depth i)) ≡ eqb i index
    marked_at i = grind (arith, nat_tests, found_index i, voxel_same v (voxel_at depth i), index_inside, cases_eq i index)

-- a word written
pub word_set : (page : List ℕ) (index word i : ℕ) → index < length page → get_or (set page index word) i 0 ≡ cond (eqb i index) word (get_or page i 0)
word_set page index word i within = grind (arith, nat_tests, get_or-set_same, get_or-set_other, cases_eq i index)
