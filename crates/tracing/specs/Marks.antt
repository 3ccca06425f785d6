-- Marks on a work page: a word for each voxel, 0 where nothing was seen of it.
use Rattle.std.specs.Prelude.{ℕ, Bool, cond, ◌&&◌, List, length, ◌==◌, nat_le, nat_lt, slice_index}
use Rattle.voxels.specs.Space.{in_map, voxel_at, voxel_count, voxel_of}
use Rattle.voxels.specs.declared.space.Position.{Position}
use Rattle.tracing.specs.Lines.{passes, same_voxel}

abbrev pub miss_mark : ℕ
miss_mark = 1

abbrev pub hit_mark : ℕ
hit_mark = 2

-- a voxel that is passed is missed, unless it was hit
abbrev pub passed_mark : ℕ → ℕ
passed_mark w = cond (w == hit_mark) hit_mark miss_mark

module _ (depth : ℕ) (o p : Position) (page : List ℕ) where
  -- a line is traced where both of its ends lie in the map and the page has a word for each voxel
  abbrev pub traceable : Bool
  traceable = (in_map depth (voxel_of o) && in_map depth (voxel_of p)) && nat_le (voxel_count depth) (length page)

  -- the word at an index after a trace
  abbrev pub traced_word : ℕ → ℕ
  traced_word i = cond (traceable && (nat_lt i (voxel_count depth) && passes o p (voxel_at depth i))) (passed_mark (slice_index page i)) (slice_index page i)

-- the word at an index after the voxel of a position was marked as hit
abbrev pub ended_word : ℕ → Position → List ℕ → ℕ → ℕ
ended_word depth p page i = cond (nat_le (voxel_count depth) (length page) && (nat_lt i (voxel_count depth) && same_voxel (voxel_of p) (voxel_at depth i))) hit_mark (slice_index page i)
