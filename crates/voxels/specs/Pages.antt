-- A lent work page, of which a call uses a word for each voxel.
use Rattle.std.specs.Prelude.{ℕ, cond, List, ◌++◌, length, drop, replicate, ◌==◌, nat_le, nat_lt}
use Rattle.voxels.specs.Refusals.{Told, refused}
use Rattle.voxels.specs.Space.{voxel_count}

-- the words that a guard wipes: one a voxel, or none where the page is too short
abbrev pub guarded : ℕ → List ℕ → ℕ
guarded depth page = cond (nat_le (voxel_count depth) (length page)) (voxel_count depth) 0

-- the first n words zero, the rest as they were
abbrev pub wiped : ℕ → List ℕ → List ℕ
wiped n page = replicate n 0 ++ drop n page

-- what a call with a page of so many words tells: 1 without a map, 2 where some voxel has no word, else what it comes to
unfoldable pub over_page : {A : Type 0} → ℕ → ℕ → Told A → Told A
over_page depth words answer = cond (depth == 0) (refused 1 0) (cond (nat_lt words (voxel_count depth)) (refused 2 0) answer)
