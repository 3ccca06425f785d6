-- Reading what was written gives the states back.
use Rattle.std.proofs.Common.{◌≡◌, ℕ, zero, suc, ◌+◌, ◌*◌, ◌^◌, ◌<◌, ◌≤◌, Bool, true, false, not, ◌&&◌, eqb, List, [], ◌∷◌, ◌++◌, map, length, None, sym, refl, ap, ◌∙◌, ap₂, ⊎_elim, suc-mul, pow-suc, zero-mul, arith}
use Rattle.std.specs.List.{range_with_len}
use Rattle.std.proofs.lemmas.List.FromFn.{length-map-range_with_len, get_or-map-range_with_len}
use Rattle.std.proofs.lemmas.List.{append-nil, append_assoc, map-append, length-append}
use Rattle.std.proofs.lemmas.Bool.{and_parts, both_ways, cases_Bool, cond-false, cond-true, cond_both, false_from_ne_true, not-true, true≢false}
use Rattle.voxels.proofs.Blocks.{count_depth, count_none, depth_above}
use Rattle.voxels.proofs.Bounds.{some_none}
use Rattle.voxels.specs.Bounded.{all, some}
use Rattle.voxels.specs.Cells.{state_of}
use Rattle.voxels.specs.Refusals.{taken}
use Rattle.voxels.specs.Space.{is_depth}
use Rattle.voxels.specs.declared.cells.Cell.{Cell}
use Rattle.voxels.specs.declared.cells.State.{State}
use Rattle.bodies.specs.Bodies.{joined, child_first, child_codes, body_of}
use Rattle.bodies.specs.Codes.{byte_of, child_code, uniform}
use Rattle.bodies.specs.Readings.{read, and_then, prepend, pair_fault, fault_or, read_child, read_children, read_pair, whole_of, read_body}
use Rattle.bodies.specs.Theorems.{ReadsBack, OnlyStates, listed}
use Rattle.bodies.proofs.BodyParts.{body_more, child_body, joined_none, joined_more}
use Rattle.bodies.proofs.Packing.{code_back}
use Rattle.bodies.proofs.PairFaults.{fault_none, fault_same, not_deep_codes, not_deep_level}
use Rattle.bodies.proofs.ReadFacts.{children_more, children_none, children_same, read_more}
use Rattle.bodies.proofs.UniformCubes.{code_le, code_test, mixed_above, mixed_from_code, uniform_from_code, uniform_merged, uniform_states, uniform_voxel}

-- a list of the indices, cut in two
counting_append : (a n m : ℕ) → range_with_len a (n + m) ≡ range_with_len a n ++ range_with_len (a + n) m
counting_append a zero m = ap₂ range_with_len (omega arith) (omega arith)
counting_append a (suc n) m =
    let on : suc n + m ≡ suc (n + m) = omega arith in
    ap (range_with_len a) on ∙ ap (λ l. a ∷ l) (counting_append (a + 1) n m ∙ ap (λ k. range_with_len (a + 1) n ++ range_with_len k m) (omega arith))

map_counting_append : {X : Type 0} (f : ℕ → X) (a n m : ℕ) → map f (range_with_len a (n + m)) ≡ map f (range_with_len a n) ++ map f (range_with_len (a + n) m)
map_counting_append f a n m = ap (map f) (counting_append a n m) ∙ map-append f (range_with_len a n) (range_with_len (a + n) m)

-- a voxel's code is not 3
voxel_codes : (states : ℕ → State) (first j : ℕ) → eqb (child_codes 0 states first j) 3 ≡ false
voxel_codes states first j = code_test 0 states (child_first 0 first j) ∙ ap not (uniform_voxel states (child_first 0 first j))

-- a pair above voxels has no code 3
written_threes : (level : ℕ) (states : ℕ → State) (first : ℕ) → (eqb (suc level) 1 && some 8 (λ j. eqb (child_codes level states first j) 3)) ≡ false
written_threes zero states first = not_deep_codes 1 true (child_codes 0 states first) (some_none 8 _ (λ j h. voxel_codes states first j))
written_threes (suc level) states first = not_deep_level (suc (suc level)) true (child_codes (suc level) states first) (λ e. omega arith)

-- the codes of a cube that is not uniform do not merge
written_merges : (level : ℕ) (states : ℕ → State) (first : ℕ) → uniform (suc level) states first ≡ false → (not (eqb (child_codes level states first 0) 3) && all 8 (λ j. eqb (child_codes level states first j) (child_codes level states first 0))) ≡ false
written_merges level states first mixed =
    let free = eqb (child_codes level states first 0) 3 in
    let equal = all 8 (λ j. eqb (child_codes level states first j) (child_codes level states first 0)) in
    false_from_ne_true (not free && equal) (λ is. let parts = and_parts (not free) equal is in both_ways _ mixed (uniform_merged level states first parts.1 (not-true free parts.0)))

-- no pair of a written body is at fault
written_fault : (level : ℕ) (states : ℕ → State) (first : ℕ) (root : Bool) → (root ≡ false → uniform (suc level) states first ≡ false) → pair_fault (suc level) root (child_codes level states first) ≡ None
written_fault level states first true mixed = fault_none (suc level) true (child_codes level states first) (written_threes level states first) refl
written_fault level states first false mixed = fault_none (suc level) false (child_codes level states first) (written_threes level states first) (written_merges level states first (mixed refl))

-- a written pair's codes
pub written_code : (level : ℕ) (states : ℕ → State) (first j : ℕ) → j < 8 → child_code (byte_of (child_codes level states first)) (byte_of (λ k. child_codes level states first (4 + k))) j ≡ child_codes level states first j
written_code level states first = code_back (child_codes level states first) (λ j h. omega (arith, code_le level states (child_first level first j)))

read_same : {s t : List State} {a b : ℕ} {k l : List ℕ} → s ≡ t → a ≡ b → k ≡ l → read s a k ≡ read t b l
read_same p q r = cc

-- a mixed cube of that level is read back from its body
abbrev ReadsMixed : ℕ → (ℕ → State) → Type 0
ReadsMixed level states = (first at : ℕ) (more : List ℕ) → uniform level states first ≡ false → read_pair level false at (body_of level states first ++ more) ≡ read (map states (range_with_len first (8 ^ level))) (at + length (body_of level states first)) more

module _ (level : ℕ) (states : ℕ → State) (first : ℕ) (mixed-read : ReadsMixed level states) where
  -- a child is read back
  child_read : (j at : ℕ) (more : List ℕ) → read_child (read_pair level false) (8 ^ level) (child_codes level states first j) at (child_body level states first j ++ more) ≡ read (map states (range_with_len (child_first level first j) (8 ^ level))) (at + length (child_body level states first j)) more
  child_read j at more =
      let code = child_codes level states first j in
      let start = child_first level first j in
      let body = body_of level states start in
      let P : List ℕ → Type 0 = λ b. read_child (read_pair level false) (8 ^ level) code at (b ++ more) ≡ read (map states (range_with_len start (8 ^ level))) (at + length b) more in
      cond_both (eqb code 3) body [] P
      (λ three. cond-true (eqb code 3) _ _ three ∙ mixed-read start at more (mixed_from_code level states start three))
      (λ other. cond-false (eqb code 3) _ _ other ∙ read_same (sym (uniform_states level states start (uniform_from_code level states start other))) (omega arith) refl)

  -- the first n children are read back
  written_children : (n at : ℕ) (more : List ℕ) → read_children (read_pair level false) (8 ^ level) (child_codes level states first) n at (joined n (child_body level states first) ++ more) ≡ read (map states (range_with_len first (n * 8 ^ level))) (at + length (joined n (child_body level states first))) more
  written_children zero at more =
      let below = read_pair level false in
      let f = child_body level states first in
      let none = joined_none f in
      children_none below (8 ^ level) (child_codes level states first) at (joined 0 f ++ more)
      ∙ read_same (sym (ap (λ k. map states (range_with_len first k)) (zero-mul (8 ^ level)))) (omega (arith, ap length none)) (ap (λ l. l ++ more) none)
  written_children (suc n) at more =
      let below = read_pair level false in
      let size = 8 ^ level in
      let code = child_codes level states first in
      let f = child_body level states first in
      let last = joined_more n f in
      let bytes : joined (suc n) f ++ more ≡ joined n f ++ (f n ++ more) = ap (λ l. l ++ more) last ∙ append_assoc (joined n f) (f n) more in
      let front = written_children n at (f n ++ more) in
      let at_n = at + length (joined n f) in
      ap (read_children below size code (suc n) at) bytes
      ∙ children_more below size code n at (joined n f ++ (f n ++ more))
      ∙ ap (λ r. and_then r (read_child below size (code n))) front
      ∙ ap (prepend (map states (range_with_len first (n * size)))) (child_read n at_n more)
      ∙ read_same
      (sym (map_counting_append states first (n * size) size) ∙ ap (λ k. map states (range_with_len first k)) (sym (suc-mul n size)))
      (omega (arith, ap length last, length-append (joined n f) (f n)))
      refl

  -- a pair and all that is under it is read back
  written_pair : (root : Bool) (at : ℕ) (more : List ℕ) → (root ≡ false → uniform (suc level) states first ≡ false) → read_pair (suc level) root at (body_of (suc level) states first ++ more) ≡ read (map states (range_with_len first (8 ^ suc level))) (at + length (body_of (suc level) states first)) more
  written_pair root at more mixed =
      let below = read_pair level false in
      let size = 8 ^ level in
      let code = child_codes level states first in
      let packed = child_code (byte_of code) (byte_of (λ k. code (4 + k))) in
      let f = child_body level states first in
      let body = body_more level states first in
      let same = written_code level states first in
      let unfault : pair_fault (suc level) root packed ≡ None = fault_same (suc level) root packed code same ∙ written_fault level states first root mixed in
      let children = children_same below size packed code 8 (at + 2) (joined 8 f ++ more) same ∙ written_children 8 (at + 2) more in
      ap (λ b. read_pair (suc level) root at (b ++ more)) body
      ∙ read_more level root at (byte_of code ∷ byte_of (λ k. code (4 + k)) ∷ (joined 8 f ++ more))
      ∙ ap₂ (λ o r. fault_or o at r) unfault children
      ∙ read_same (ap (λ k. map states (range_with_len first k)) (omega (arith, pow-suc 8 level))) (omega (arith, ap length body)) refl

-- a written body, with more behind it, reads as the states of its cube
written_read : (level : ℕ) (states : ℕ → State) (first : ℕ) (root : Bool) (at : ℕ) (more : List ℕ) → 1 ≤ level → (root ≡ false → uniform level states first ≡ false) → read_pair level root at (body_of level states first ++ more) ≡ read (map states (range_with_len first (8 ^ level))) (at + length (body_of level states first)) more
written_read zero states first root at more above mixed = absurd (omega arith)
written_read (suc level) states first root at more above mixed =
    written_pair level states first (λ start place rest is. written_read level states start false place rest (mixed_above level states start is) (λ e. is)) root at more mixed

-- a written body reads as the states
written_whole : (depth : ℕ) (states : ℕ → State) → 1 ≤ depth → read_body depth (body_of depth states 0) ≡ taken (map states (range_with_len 0 (8 ^ depth)))
unfolding read_body
written_whole depth states above =
    let body = body_of depth states 0 in
    ap (λ b. whole_of (read_pair depth true 0 b)) (sym (append-nil body))
    ∙ ap whole_of (written_read depth states 0 true 0 [] above (λ e. absurd (true≢false e)))

pub reads_back : (depth : ℕ) (cells : ℕ → Cell) → ReadsBack depth cells
reads_back depth cells ok =
    let states : ℕ → State = λ i. state_of (cells i) in
    let long = count_depth depth ok in (
      map states (range_with_len 0 (8 ^ depth)),
      written_whole depth states (depth_above depth ok),
      record {
        long = length-map-range_with_len states 0 (8 ^ depth) ∙ sym long;
        each = λ i h. get_or-map-range_with_len states 0 (8 ^ depth) i i State.Unknown (omega arith) (omega arith);
      },
    )

pub only_states : (depth : ℕ) (cells : ℕ → Cell) → OnlyStates depth cells
only_states depth cells others e i h =
    ⊎_elim
    (λ ok.
    let mine = reads_back depth cells ok in
    let its = reads_back depth others ok in
    let same : taken its.0 ≡ taken mine.0 = sym its.1 ∙ ap (read_body depth) e ∙ mine.1 in
    let lists : its.0 ≡ mine.0 = cc in
    sym (its.2.each i h) ∙ ap (λ l. listed l i) lists ∙ mine.2.each i h)
    (λ no-map. absurd (omega (arith, count_none depth no-map)))
    (cases_Bool (is_depth depth))
