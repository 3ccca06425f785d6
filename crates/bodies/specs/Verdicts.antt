-- The answer of a check as a number.
use Rattle.std.specs.Prelude.{◌≡◌, ℕ, ◌≤◌, true, false, ◌⊎◌, List}
use Rattle.bodies.specs.Theorems.{Writable}
use Rattle.voxels.specs.Refusals.{Told, taken, refused}
use Rattle.voxels.specs.Space.{is_depth}

-- 0 for taken, else the refusal's number
abbrev pub number_told : Told (Unit {0}) → ℕ
number_told (taken answer) = 0
number_told (refused number place) = number

-- the answer is 0 exactly when some map of the depth writes the bytes
abbrev pub ZeroForMaps : ℕ → List ℕ → ℕ → Type 0
ZeroForMaps depth body number = (Writable depth body → number ≡ 0) × (number ≡ 0 → Writable depth body)

-- it is 1 where no map has the depth, and else 0 or 9 to 12
abbrev pub NumbersTold : ℕ → ℕ → Type 0
NumbersTold depth number = (is_depth depth ≡ false → number ≡ 1) × (is_depth depth ≡ true → (number ≡ 0) ⊎ ((9 ≤ number) × (number ≤ 12)))
