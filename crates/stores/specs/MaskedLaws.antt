-- What is lawful stays so under a mask.
use Rattle.std.specs.Prelude.{ℕ, Bool}
use Rattle.voxels.specs.declared.cells.Cell.{Cell}
use Rattle.stores.specs.Laws.{Lawful}
use Rattle.stores.specs.Masks.{masked_shape}
use Rattle.stores.specs.Shapes.{Shape}

module _ {S M : Type 0} {shape : S → Shape} {cell : S → ℕ → Cell} (below : M → S) (mask : M → ℕ → Bool) (laws : Lawful shape cell) where
  pub masked_lawful : Lawful (λ m. masked_shape (shape (below m)) (mask m)) (λ m. cell (below m))
  masked_lawful = record {
    shallow = λ m. laws.shallow (below m);
    outside = λ m. laws.outside (below m);
    ranged = λ m. laws.ranged (below m);
    none = λ m. laws.none (below m);
    enough = λ m. laws.enough (below m);
  }
