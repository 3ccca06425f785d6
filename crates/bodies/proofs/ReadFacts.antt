-- How far a reading goes, how many states it gives, and by which numbers it is refused.
use Rattle.std.proofs.Common.{◌≡◌, ℕ, zero, suc, ◌+◌, ◌-◌, ◌*◌, ◌^◌, ◌<◌, ◌≤◌, Bool, true, false, cond, not, ◌&&◌, eqb, List, [], ◌∷◌, length, replicate, Some, None, Option, sym, refl, ap, subst, ap₂, pow-suc, arith, lit≤, length-append}
use lib.ListN.{length-replicate}
use Rattle.std.proofs.lemmas.Bool.{cond_both}
use Rattle.voxels.proofs.Blocks.{eight_pos}
use Rattle.voxels.specs.Bounded.{all, some}
use Rattle.voxels.specs.Refusals.{refused}
use Rattle.voxels.specs.declared.cells.State.{State}
use Rattle.bodies.specs.Codes.{child_code, code_state}
use Rattle.bodies.specs.Readings.{Reading, read, wrong, prepend, and_then, pair_fault, fault_or, read_child, read_children, read_pair, read_pair_over, whole_of, read_body}

-- one step of a reading
pub read_more : (level : ℕ) (root : Bool) (at : ℕ) (bytes : List ℕ) → read_pair (suc level) root at bytes ≡ read_pair_over (read_pair level false) level root at bytes
unfolding read_pair
read_more level root at bytes = refl

pub children_none : (below : ℕ → List ℕ → Reading) (size : ℕ) (code : ℕ → ℕ) (at : ℕ) (bytes : List ℕ) → read_children below size code 0 at bytes ≡ read [] at bytes
unfolding read_children
children_none below size code at bytes = refl

pub children_more : (below : ℕ → List ℕ → Reading) (size : ℕ) (code : ℕ → ℕ) (n at : ℕ) (bytes : List ℕ) → read_children below size code (suc n) at bytes ≡ and_then (read_children below size code n at bytes) (read_child below size (code n))
unfolding read_children
children_more below size code n at bytes = refl

-- only the codes of those children count
pub children_same : (below : ℕ → List ℕ → Reading) (size : ℕ) (code other : ℕ → ℕ) (n at : ℕ) (bytes : List ℕ) → ((j : ℕ) → j < n → code j ≡ other j) → read_children below size code n at bytes ≡ read_children below size other n at bytes
unfolding read_children
children_same below size code other zero at bytes same = refl
children_same below size code other (suc n) at bytes same =
    ap₂ and_then (children_same below size code other n at bytes (λ j h. same j (omega arith))) (ap (read_child below size) (same n (omega arith)))

-- so many states, and no place from `end` on; a number of a body's faults
abbrev pub Within : ℕ → ℕ → Reading → Type 0
Within long end (read states next rest) = (length states ≡ long) × (next < end)
Within long end (wrong number place) = (9 ≤ number) × (number ≤ 11) × (place < end)

abbrev Fault : Option ℕ → Type 0
Fault None = Unit {0}
Fault (Some number) = (9 ≤ number) × (number ≤ 11)

ten_or_eleven : (below merged : Bool) → Fault (cond below (Some 10) (cond merged (Some 11) None))
ten_or_eleven true merged = (lit≤ tt, lit≤ tt)
ten_or_eleven false true = (lit≤ tt, lit≤ tt)
ten_or_eleven false false = tt

fault_number : (level : ℕ) (root : Bool) (code : ℕ → ℕ) → Fault (pair_fault level root code)
unfolding pair_fault
fault_number level root code =
    ten_or_eleven (eqb level 1 && some 8 (λ j. eqb (code j) 3)) (not root && (not (eqb (code 0) 3) && all 8 (λ j. eqb (code j) (code 0))))

fault_within : (fault : Option ℕ) (long end place : ℕ) (reading : Reading) → Fault fault → place < end → Within long end reading → Within long end (fault_or fault place reading)
fault_within None long end place reading f h w = w
fault_within (Some number) long end place reading f h w = (f.0, f.1, h)

-- behind what was read
prepend_within : (states : List State) (long more end : ℕ) (reading : Reading) → length states ≡ long → Within more end reading → Within (long + more) end (prepend states reading)
prepend_within states long more end (read others next rest) h w = (omega (arith, length-append states others), w.1)
prepend_within states long more end (wrong number place) h w = w

-- a later end does as well
further : (long end later : ℕ) (reading : Reading) → end ≤ later → Within long end reading → Within long later reading
further long end later (read states next rest) h w = (w.0, omega arith)
further long end later (wrong number place) h w = (w.0, w.1, omega arith)

-- a child fills its cube, and takes fewer bytes than it has voxels
pub child_within : (below : ℕ → List ℕ → Reading) (size : ℕ) → 0 < size → ((at : ℕ) (bytes : List ℕ) → Within size (at + size) (below at bytes)) → (code at : ℕ) (bytes : List ℕ) → Within size (at + size) (read_child below size code at bytes)
child_within below size some each code at bytes =
    cond_both (eqb code 3) (below at bytes) (read (replicate size (code_state code)) at bytes) (Within size (at + size)) (λ mixed. each at bytes) (λ uniform. (length-replicate size (code_state code), omega (arith, some)))

module _ (below : ℕ → List ℕ → Reading) (less : ℕ) (each : (at : ℕ) (bytes : List ℕ) → Within (suc less) (at + suc less) (below at bytes)) where
  then_within : (code : ℕ) (long end : ℕ) (reading : Reading) → Within long (suc end) reading → Within (long + suc less) (suc (end + less)) (and_then reading (read_child below (suc less) code))
  then_within code long end (read states next rest) w =
      prepend_within states long (suc less) (suc (end + less)) _ w.0
      (further (suc less) (next + suc less) (suc (end + less)) _ (omega arith) (child_within below (suc less) (omega arith) each code next rest))
  then_within code long end (wrong number place) w = (w.0, w.1, omega arith)

  children_within : (code : ℕ → ℕ) (n at : ℕ) (bytes : List ℕ) → Within (n * suc less) (suc (at + n * less)) (read_children below (suc less) code n at bytes)
  unfolding read_children
  children_within code zero at bytes = (omega arith, omega arith)
  children_within code (suc n) at bytes =
      let rest = then_within (code n) (n * suc less) (at + n * less) (read_children below (suc less) code n at bytes) (children_within code n at bytes) in
      let P : ℕ → Type 0 = λ long. Within long (suc (at + suc n * less)) (read_children below (suc less) code (suc n) at bytes) in
      let Q : ℕ → Type 0 = λ end. Within (n * suc less + suc less) end (read_children below (suc less) code (suc n) at bytes) in
      subst P (omega arith) (subst Q (omega arith) rest)

children_of : (below : ℕ → List ℕ → Reading) (size less : ℕ) → size ≡ suc less → ((at : ℕ) (bytes : List ℕ) → Within size (at + size) (below at bytes)) → (code : ℕ → ℕ) (n at : ℕ) (bytes : List ℕ) → Within (n * size) (suc (at + n * less)) (read_children below size code n at bytes)
children_of below size less e each code n at bytes =
    let P : ℕ → Type 0 = λ k. ((at : ℕ) (bytes : List ℕ) → Within k (at + k) (below at bytes)) → Within (n * k) (suc (at + n * less)) (read_children below k code n at bytes) in
    subst P (sym e) (λ all_of. children_within below less all_of code n at bytes) each

over_within : (level : ℕ) (root : Bool) (at : ℕ) (bytes : List ℕ) → ((at : ℕ) (bytes : List ℕ) → Within (8 ^ level) (at + 8 ^ level) (read_pair level false at bytes)) → Within (8 ^ suc level) (at + 8 ^ suc level) (read_pair_over (read_pair level false) level root at bytes)
over_within level root at [] each = (lit≤ tt, lit≤ tt, omega (arith, eight_pos (suc level)))
over_within level root at (a ∷ []) each = (lit≤ tt, lit≤ tt, omega (arith, eight_pos (suc level)))
over_within level root at (a ∷ b ∷ rest) each =
    let less : ℕ = 8 ^ level - 1 in
    let size : 8 ^ level ≡ suc less = omega (arith, eight_pos level) in
    let more = pow-suc 8 level in
    let children = read_children (read_pair level false) (8 ^ level) (child_code a b) 8 (at + 2) rest in
    let inner : Within (8 * 8 ^ level) (suc (at + 2 + 8 * less)) children = children_of (read_pair level false) (8 ^ level) less size each (child_code a b) 8 (at + 2) rest in
    let P : ℕ → Type 0 = λ long. Within long (at + 8 ^ suc level) children in
    let outer : Within (8 ^ suc level) (at + 8 ^ suc level) children = subst P (omega arith) (further (8 * 8 ^ level) (suc (at + 2 + 8 * less)) (at + 8 ^ suc level) children (omega arith) inner) in
    fault_within (pair_fault (suc level) root (child_code a b)) (8 ^ suc level) (at + 8 ^ suc level) at children (fault_number (suc level) root (child_code a b)) (omega arith) outer

pub pair_within : (level : ℕ) (root : Bool) (at : ℕ) (bytes : List ℕ) → Within (8 ^ level) (at + 8 ^ level) (read_pair level root at bytes)
unfolding read_pair
pair_within zero root at bytes = (lit≤ tt, lit≤ tt, omega arith)
pair_within (suc level) root at bytes = over_within level root at bytes (pair_within level false)

pub states_long : (level : ℕ) (root : Bool) (at : ℕ) (bytes : List ℕ) (states : List State) (next : ℕ) (rest : List ℕ) → read_pair level root at bytes ≡ read states next rest → length states ≡ 8 ^ level
states_long level root at bytes states next rest e = (subst (Within (8 ^ level) (at + 8 ^ level)) e (pair_within level root at bytes)).0

whole_number : (reading : Reading) (long end number place : ℕ) → Within long end reading → whole_of reading ≡ refused number place → (9 ≤ number) × (number ≤ 12)
whole_number (read states next []) long end number place w e = let z : ◌≡◌ {A = ℕ} 0 1 = cc in absurd (omega arith)
whole_number (read states next (b ∷ bs)) long end number place w e = let twelve : 12 ≡ number = cc in (omega arith, omega arith)
whole_number (wrong n p) long end number place w e = let same : n ≡ number = cc in (omega (arith, w.0), omega (arith, w.1))

-- a body is refused by a number from 9 to 12
pub refused_number : (depth : ℕ) (body : List ℕ) (number place : ℕ) → read_body depth body ≡ refused number place → (9 ≤ number) × (number ≤ 12)
unfolding read_body
refused_number depth body number place e = whole_number (read_pair depth true 0 body) (8 ^ depth) (0 + 8 ^ depth) number place (pair_within depth true 0 body) e
