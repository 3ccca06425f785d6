-- What nothing changes of a store: its depth, its closed voxels, and the blocks that its cells may need.
use Rattle.std.specs.Prelude.{ℕ, Bool}

pub record Shape : Type 0 where
  pub depth : ℕ
  pub closed : ℕ → Bool
  pub limit : ℕ
