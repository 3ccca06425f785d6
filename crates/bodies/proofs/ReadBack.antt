-- What was read, written, is what was read from.
use Rattle.std.proofs.Common.{◌≡◌, ℕ, zero, suc, ◌+◌, ◌*◌, ◌^◌, ◌<◌, Bool, true, false, eqb, List, [], ◌∷◌, ◌++◌, length, replicate, Some, None, Option, sym, refl, ap, ◌∙◌, subst, ap₂, ⊎_elim, append_assoc, zero-add, arith, length-append}
use lib.ListN.{get_or-replicate, length-replicate}
use Rattle.std.proofs.lemmas.Nat.{mul-add-lt}
use Rattle.std.proofs.lemmas.List.{get_or_append_left, get_or-append-add}
use Rattle.std.proofs.lemmas.Bool.{cases_eq, cond-false, cond-true, cond_both, eq-eqb, eqb-false, eqb-true, false_from_ne_true}
use Rattle.voxels.proofs.Blocks.{eight_pos}
use Rattle.voxels.specs.declared.cells.State.{State}
use Rattle.bodies.specs.Bodies.{joined, child_first, child_codes, body_of}
use Rattle.bodies.specs.Codes.{child_code, code_state, cube_code, pair_of, state_code, uniform}
use Rattle.bodies.specs.Readings.{Reading, read, wrong, prepend, and_then, pair_fault, fault_or, read_child, read_children, read_pair, read_pair_over}
use Rattle.bodies.specs.Theorems.{listed}
use Rattle.bodies.proofs.BodyParts.{body_more, child_body, joined_more, joined_same, part_same, part_of}
use Rattle.bodies.proofs.Packing.{Bytes, child_small, pair_again, pair_same}
use Rattle.bodies.proofs.PairFaults.{not_merged}
use Rattle.bodies.proofs.ReadFacts.{Within, pair_within}
use Rattle.bodies.proofs.UniformCubes.{Same, code_mixed, code_same, code_uniform, state_code_lem, state_small, child_code_lem, uniform_from}

-- a child's states, written, are the bytes it was read from
abbrev Child : ℕ → ℕ → List ℕ → Reading → Type 0
Child level code bytes (read states next rest) = (bytes ≡ part_of level (listed states) 0 ++ rest) × Bytes rest × (length states ≡ 8 ^ level) × (cube_code level (listed states) 0 ≡ code)
Child level code bytes (wrong number place) = Unit {0}

-- so are those of the first n children
abbrev Children : ℕ → (ℕ → ℕ) → ℕ → List ℕ → Reading → Type 0
Children level code n bytes (read states next rest) = (bytes ≡ joined n (child_body level (listed states) 0) ++ rest) × Bytes rest × (length states ≡ n * 8 ^ level) × ((j : ℕ) → j < n → cube_code level (listed states) (child_first level 0 j) ≡ code j)
Children level code n bytes (wrong number place) = Unit {0}

-- and those of a cube, which is not uniform unless it is the root
abbrev Pair : ℕ → Bool → List ℕ → Reading → Type 0
Pair level root bytes (read states next rest) = (bytes ≡ body_of level (listed states) 0 ++ rest) × Bytes rest × (root ≡ false → uniform level (listed states) 0 ≡ false)
Pair level root bytes (wrong number place) = Unit {0}

replicate_code : (level code : ℕ) → code < 3 → cube_code level (listed (replicate (8 ^ level) (code_state code))) 0 ≡ code
replicate_code level code h =
    let states = replicate (8 ^ level) (code_state code) in
    let each : (i : ℕ) → i < 8 ^ level → listed states i ≡ code_state code = λ i k. get_or-replicate (8 ^ level) i (code_state code) State.Unknown k in
    let here : listed states 0 ≡ code_state code = each 0 (eight_pos level) in
    let one : uniform level (listed states) 0 ≡ true = uniform_from level (listed states) 0 (λ i k. ap (listed states) (zero-add i) ∙ each i k ∙ sym here) in
    code_uniform level (listed states) 0 one ∙ ap state_code here ∙ state_code_lem code h

child_plain : (level code at : ℕ) (bytes : List ℕ) → code < 4 → eqb code 3 ≡ false → Bytes bytes → Child level code bytes (read (replicate (8 ^ level) (code_state code)) at bytes)
child_plain level code at bytes h other b =
    let states = replicate (8 ^ level) (code_state code) in
    let is = replicate_code level code (omega (arith, eqb-false code 3 other)) in
    let none : part_of level (listed states) 0 ≡ [] = cond-false _ (body_of level (listed states) 0) [] (ap (λ c. eqb c 3) is ∙ other) in
    (ap (λ bs. bs ++ bytes) (sym none), b, length-replicate (8 ^ level) (code_state code), is)

child_mixed : (level code at : ℕ) (bytes : List ℕ) (reading : Reading) → eqb code 3 ≡ true → Within (8 ^ level) (at + 8 ^ level) reading → Pair level false bytes reading → Child level code bytes reading
child_mixed level code at bytes (read states next rest) is w p =
    let three = code_mixed level (listed states) 0 (p.2 refl) in
    let whole : part_of level (listed states) 0 ≡ body_of level (listed states) 0 = cond-true _ (body_of level (listed states) 0) [] (eq-eqb _ 3 three) in
    (p.0 ∙ ap (λ bs. bs ++ rest) (sym whole), p.1, w.0, three ∙ sym (eqb-true code 3 is))
child_mixed level code at bytes (wrong number place) is w p = tt

module _ (level n : ℕ) (done child : List State) (long : length done ≡ n * 8 ^ level) where
  -- a cube before the seam
  early : (j : ℕ) → j < n → Same level (listed (done ++ child)) (child_first level 0 j) (listed done) (child_first level 0 j)
  early j h i k = get_or_append_left done child State.Unknown (child_first level 0 j + i) (omega (arith, mul-add-lt j (8 ^ level) i n h k))

  -- the cube behind it
  late : Same level (listed (done ++ child)) (child_first level 0 n) (listed child) 0
  late i k =
      let place : 0 + n * 8 ^ level + i ≡ length done + i = omega arith in
      ap (listed (done ++ child)) place ∙ get_or-append-add done child i State.Unknown ∙ ap (listed child) (sym (zero-add i))

  grown_code : (code : ℕ → ℕ) → ((j : ℕ) → j < n → cube_code level (listed done) (child_first level 0 j) ≡ code j) → cube_code level (listed child) 0 ≡ code n → (j : ℕ) → j < suc n → cube_code level (listed (done ++ child)) (child_first level 0 j) ≡ code j
  grown_code code before here j h =
      ⊎_elim
      (λ last. ap (λ m. cube_code level (listed (done ++ child)) (child_first level 0 m)) last ∙ code_same level (listed (done ++ child)) (child_first level 0 n) (listed child) 0 late ∙ here ∙ ap code (sym last))
      (λ other. let k : j < n = omega arith in code_same level (listed (done ++ child)) (child_first level 0 j) (listed done) (child_first level 0 j) (early j k) ∙ before j k)
      (cases_eq j n)

  grown_body : joined (suc n) (child_body level (listed (done ++ child)) 0) ≡ joined n (child_body level (listed done) 0) ++ part_of level (listed child) 0
  grown_body =
      let whole = child_body level (listed (done ++ child)) 0 in
      joined_more n whole
      ∙ ap₂ ◌++◌
      (joined_same n whole (child_body level (listed done) 0) (λ j h. part_same level (listed (done ++ child)) (child_first level 0 j) (listed done) (child_first level 0 j) (early j h)))
      (part_same level (listed (done ++ child)) (child_first level 0 n) (listed child) 0 late)

-- one child more
grow : (level : ℕ) (code : ℕ → ℕ) (n : ℕ) (bytes : List ℕ) (done : List State) (next : ℕ) (mid : List ℕ) → Children level code n bytes (read done next mid) → (reading : Reading) → Child level (code n) mid reading → Children level code (suc n) bytes (prepend done reading)
grow level code n bytes done next mid c (wrong number place) k = tt
grow level code n bytes done next mid c (read child after rest) k =
    let front = joined n (child_body level (listed done) 0) in
    let here = part_of level (listed child) 0 in
    let long : length done ≡ n * 8 ^ level = c.2 in
    let seam : front ++ mid ≡ (front ++ here) ++ rest = ap (λ bs. front ++ bs) k.0 ∙ sym (append_assoc front here rest) in
    (c.0 ∙ seam ∙ ap (λ bs. bs ++ rest) (sym (grown_body level n done child long)), k.1, omega (arith, length-append done child, k.2, long), grown_code level n done child long code c.3 k.3)

module _ (level : ℕ) (each : (at : ℕ) (bytes : List ℕ) → Bytes bytes → Pair level false bytes (read_pair level false at bytes)) where
  child_back : (code at : ℕ) (bytes : List ℕ) → code < 4 → Bytes bytes → Child level code bytes (read_child (read_pair level false) (8 ^ level) code at bytes)
  child_back code at bytes h b =
      cond_both (eqb code 3) _ _ (Child level code bytes)
      (λ is. child_mixed level code at bytes (read_pair level false at bytes) is (pair_within level false at bytes) (each at bytes b))
      (λ other. child_plain level code at bytes h other b)

  then_back : (code : ℕ → ℕ) (n : ℕ) (bytes : List ℕ) (reading : Reading) → code n < 4 → Children level code n bytes reading → Children level code (suc n) bytes (and_then reading (read_child (read_pair level false) (8 ^ level) (code n)))
  then_back code n bytes (read done next mid) h c = grow level code n bytes done next mid c (read_child (read_pair level false) (8 ^ level) (code n) next mid) (child_back (code n) next mid h c.1)
  then_back code n bytes (wrong number place) h c = tt

  children_back : (code : ℕ → ℕ) → ((j : ℕ) → code j < 4) → (n at : ℕ) (bytes : List ℕ) → Bytes bytes → Children level code n bytes (read_children (read_pair level false) (8 ^ level) code n at bytes)
  unfolding read_children joined
  children_back code small zero at bytes b = (refl, b, omega arith, λ j h. absurd (omega arith))
  children_back code small (suc n) at bytes b = then_back code n bytes (read_children (read_pair level false) (8 ^ level) code n at bytes) (small n) (children_back code small n at bytes b)

whole_back : (level : ℕ) (root : Bool) (a b : ℕ) (bytes : List ℕ) (states : List State) (next : ℕ) (rest : List ℕ) → a < 256 → b < 256 → pair_fault (suc level) root (child_code a b) ≡ None → Children level (child_code a b) 8 bytes (read states next rest) → Pair (suc level) root (a ∷ b ∷ bytes) (read states next rest)
whole_back level root a b bytes states next rest h k fine c =
    let code = child_code a b in
    let codes = child_codes level (listed states) 0 in
    let pair : a ∷ b ∷ [] ≡ pair_of codes = sym (pair_same codes code c.3 ∙ pair_again a b h k) in
    let under = joined 8 (child_body level (listed states) 0) in
    let one : a ∷ b ∷ bytes ≡ body_of (suc level) (listed states) 0 ++ rest = ap₂ ◌++◌ pair c.0 ∙ sym (append_assoc (pair_of codes) under rest) ∙ ap (λ bs. bs ++ rest) (sym (body_more level (listed states) 0)) in
    (one, c.1, λ below. false_from_ne_true _ (λ is. not_merged (suc level) root code (state_code (listed states 0)) fine below (state_small (listed states 0)) (λ j l. sym (c.3 j l) ∙ child_code_lem level (listed states) 0 is j l)))

fault_back : (level : ℕ) (root : Bool) (at a b : ℕ) (bytes : List ℕ) (fault : Option ℕ) (reading : Reading) → a < 256 → b < 256 → pair_fault (suc level) root (child_code a b) ≡ fault → Children level (child_code a b) 8 bytes reading → Pair (suc level) root (a ∷ b ∷ bytes) (fault_or fault at reading)
fault_back level root at a b bytes None (read states next rest) h k e c = whole_back level root a b bytes states next rest h k e c
fault_back level root at a b bytes None (wrong number place) h k e c = tt
fault_back level root at a b bytes (Some number) reading h k e c = tt

over_back : (level : ℕ) (root : Bool) (at : ℕ) (bytes : List ℕ) → ((at : ℕ) (bytes : List ℕ) → Bytes bytes → Pair level false bytes (read_pair level false at bytes)) → Bytes bytes → Pair (suc level) root bytes (read_pair_over (read_pair level false) level root at bytes)
over_back level root at [] each b = tt
over_back level root at (x ∷ []) each b = tt
over_back level root at (x ∷ y ∷ bytes) each b =
    fault_back level root at x y bytes (pair_fault (suc level) root (child_code x y)) (read_children (read_pair level false) (8 ^ level) (child_code x y) 8 (at + 2) bytes) b.0 b.1.0 refl
    (children_back level each (child_code x y) (child_small x y) 8 (at + 2) bytes b.1.1)

pair_back : (level : ℕ) (root : Bool) (at : ℕ) (bytes : List ℕ) → Bytes bytes → Pair level root bytes (read_pair level root at bytes)
unfolding read_pair
pair_back zero root at bytes b = tt
pair_back (suc level) root at bytes b = over_back level root at bytes (pair_back level false) b

pub read_written : (level : ℕ) (root : Bool) (at : ℕ) (bytes : List ℕ) (states : List State) (next : ℕ) (rest : List ℕ) → Bytes bytes → read_pair level root at bytes ≡ read states next rest → (bytes ≡ body_of level (listed states) 0 ++ rest) × Bytes rest × (root ≡ false → uniform level (listed states) 0 ≡ false)
read_written level root at bytes states next rest b e = subst (Pair level root bytes) e (pair_back level root at bytes b)
