-- A store that has room for the root's block alone.
use Rattle.std.specs.Prelude.{ℕ, ◌≤◌, false, refl}
use Rattle.std.proofs.Common.{lit≤, arith}
use Rattle.voxels.specs.Bounded.{all, count, sum}
use Rattle.voxels.specs.Cubes.{blocks_needed, mixed, mixed_cubes}
use Rattle.voxels.specs.declared.cells.Cell.{Cell}
use Rattle.voxels.specs.declared.cells.Cell.TheVariants.{Unknown}
use Rattle.stores.specs.Laws.{Lawful}
use Rattle.stores.specs.Shapes.{Shape}

abbrev pub nothing : ℕ → Cell
nothing i = Unknown

pub nothing_needed : blocks_needed 2 nothing ≤ 1
unfolding blocks_needed mixed_cubes mixed count sum all
nothing_needed = lit≤ tt

abbrev pub full_shape : Shape
full_shape = record { depth = 2; closed = λ _. false; limit = 1 }

pub full_lawful : {S : Type 0} → Lawful {S = S} (λ s. full_shape) (λ s. nothing)
full_lawful = record {
  shallow = λ s. lit≤ tt;
  outside = λ s i past. refl;
  ranged = λ s i. refl;
  none = λ s e. absurd (omega arith);
  enough = λ s some. nothing_needed;
}
