-- Reading a body. Its pairs are taken from the front, and the first that is wrong decides.
use Rattle.std.specs.Prelude.{ℕ, zero, suc, ◌+◌, ◌^◌, Bool, true, false, cond, not, ◌&&◌, List, [], ◌∷◌, ◌++◌, replicate, Some, None, Option, ◌==◌, nat_eq}
use Rattle.bodies.specs.Codes.{child_code, code_state}
use Rattle.voxels.specs.Bounded.{all, some}
use Rattle.voxels.specs.Refusals.{Told, taken, refused}
use Rattle.voxels.specs.declared.cells.State.{State}

-- states in rising index, with the place and the bytes behind what they were read from; or what is wrong, by number, and where
pub data Reading : Type 0 where
  read : (states : List State) (next : ℕ) (rest : List ℕ) → Reading
  wrong : (number place : ℕ) → Reading

abbrev pub prepend : List State → Reading → Reading
prepend states (read more next rest) = read (states ++ more) next rest
prepend states (wrong number place) = wrong number place

-- reads on from where a reading ended
abbrev pub and_then : Reading → (ℕ → List ℕ → Reading) → Reading
and_then (read states next rest) f = prepend states (f next rest)
and_then (wrong number place) f = wrong number place

-- why a pair is refused: 10 where it has a code 3 and its children are voxels, 11 where it is not the root's and its codes say that the cube is uniform
unfoldable pub pair_fault : ℕ → Bool → (ℕ → ℕ) → Option ℕ
pair_fault level root code =
    cond (level == 1 && some 8 (λ j. nat_eq (code j) 3)) (Some 10)
    (cond (not root && (not (code 0 == 3) && all 8 (λ j. nat_eq (code j) (code 0)))) (Some 11)
    None)

abbrev pub fault_or : Option ℕ → ℕ → Reading → Reading
fault_or None place reading = reading
fault_or (Some number) place reading = wrong number place

-- a child: a pair where its code is 3, else so many voxels of the code's state
abbrev pub read_child : (ℕ → List ℕ → Reading) → ℕ → ℕ → ℕ → List ℕ → Reading
read_child below size code at bytes = cond (code == 3) (below at bytes) (read (replicate size (code_state code)) at bytes)

-- the first n children
unfoldable pub read_children : (ℕ → List ℕ → Reading) → ℕ → (ℕ → ℕ) → ℕ → ℕ → List ℕ → Reading
read_children below size code zero at bytes = read [] at bytes
read_children below size code (suc n) at bytes = and_then (read_children below size code n at bytes) (read_child below size (code n))

-- a pair of a cube one level above its children, of whom those with code 3 are read by `below`
abbrev pub read_pair_over : (ℕ → List ℕ → Reading) → ℕ → Bool → ℕ → List ℕ → Reading
read_pair_over below level root at [] = wrong 9 at
read_pair_over below level root at (first ∷ []) = wrong 9 at
read_pair_over below level root at (first ∷ second ∷ rest) = fault_or (pair_fault (suc level) root (child_code first second)) at (read_children below (8 ^ level) (child_code first second) 8 (at + 2) rest)

-- the pair of a cube and all that is under it; a voxel has none
unfoldable pub read_pair : ℕ → Bool → ℕ → List ℕ → Reading
read_pair zero root at bytes = wrong 10 at
read_pair (suc level) root at bytes = read_pair_over (read_pair level false) level root at bytes

-- nothing may follow the last pair
abbrev pub whole_of : Reading → Told (List State)
whole_of (read states next []) = taken states
whole_of (read states next (b ∷ bs)) = refused 12 next
whole_of (wrong number place) = refused number place

-- the states that a body says, or why it is malformed
unfoldable pub read_body : ℕ → List ℕ → Told (List State)
read_body depth body = whole_of (read_pair depth true 0 body)
