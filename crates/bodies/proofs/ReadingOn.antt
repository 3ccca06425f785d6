-- A pair's children read one by one, with the states in their words.
use Rattle.std.proofs.Common.{◌≡◌, ℕ, zero, suc, ◌+◌, ◌-◌, ◌*◌, ◌^◌, ◌<◌, ◌≤◌, Bool, false, eqb, List, [], ◌∷◌, ◌++◌, length, get_or, take, drop, replicate, Some, None, Ok, Err, Option, Result, sym, refl, ap, ◌∙◌, subst, ap₂, ⊎_elim, mul-le-mul_right, suc-mul, one-mul, zero-mul, add-one, arith, length-append}
use Rattle.std.proofs.lemmas.List.{length-drop, take_all}
use Rattle.std.proofs.lemmas.Bool.{cases_Bool, cases_eq, cond_both, cond-true, cond-false, eq-eqb, and_from}
use Rattle.bodies.specs.Bodies.{child_first}
use Rattle.bodies.specs.Codes.{child_code, code_state}
use Rattle.bodies.specs.Readings.{Reading, read, wrong, prepend, and_then, pair_fault, fault_or, read_child, read_children, read_pair}
use Rattle.bodies.specs.Reads.{AboveVoxels, Kept, ReadTo, Spared, code_of, read_code}
use Rattle.bodies.specs.declared.reader.Rest.{Rest}
use Rattle.voxels.specs.Refusals.{number_of}
use Rattle.voxels.specs.declared.cells.State.{State}
use Rattle.voxels.specs.declared.refusals.Refusal.{Refusal}
use Rattle.voxels.proofs.Blocks.{eight_pos}
use Rattle.voxels.proofs.Bounds.{some_has}
use Rattle.bodies.proofs.CubeSizes.{level_up, size_up}
use Rattle.bodies.proofs.KeptStates.{kept_more, kept_none, kept_spares, spared_more, spared_none, spared_wider}
use Rattle.bodies.proofs.PairFaults.{fault_deep, none_some}
use Rattle.bodies.proofs.ReadFacts.{Within, child_within, children_more, children_none, pair_within, read_more}

-- n children are read: their states and what is left
pub record Reached (below : ℕ → List ℕ → Reading) (size : ℕ) (code : ℕ → ℕ) (at : ℕ) (bytes before now : List ℕ) (first n left_at : ℕ) (left : List ℕ) : Type 0 where
  pub states : List State
  pub reading : read_children below size code n at bytes ≡ read states left_at left
  pub kept : Kept before now first states
  pub long : length states ≡ n * size
  -- a child takes fewer bytes than it has voxels
  pub near : left_at + n ≤ at + n * size

pub reached_none : (below : ℕ → List ℕ → Reading) (size : ℕ) (code : ℕ → ℕ) (at : ℕ) (bytes words : List ℕ) (first : ℕ) → Reached below size code at bytes words words first 0 at bytes
reached_none below size code at bytes words first = record {
  states = [];
  reading = children_none below size code at bytes;
  kept = kept_none words first;
  long = sym (zero-mul size);
  near = omega (arith, zero-mul size);
}

-- by the code or by its number
code_read : (below : ℕ → List ℕ → Reading) (size code at : ℕ) (bytes : List ℕ) → read_code below size (code_of code) at bytes ≡ read_child below size code at bytes
code_read below size code at bytes =
    ⊎_elim
    (λ mixed. ap (λ c. read_code below size c at bytes) (cond-true (eqb code 3) None (Some (code_state code)) mixed) ∙ sym (cond-true (eqb code 3) (below at bytes) (read (replicate size (code_state code)) at bytes) mixed))
    (λ other. ap (λ c. read_code below size c at bytes) (cond-false (eqb code 3) None (Some (code_state code)) other) ∙ sym (cond-false (eqb code 3) (below at bytes) (read (replicate size (code_state code)) at bytes) other))
    (cases_Bool (eqb code 3))

pub taken_as : (reading : Reading) (before after : List ℕ) (level first : ℕ) (left : Rest) → ReadTo reading before after level first (Ok left) → (states : List State) × (reading ≡ read states left.at left.bytes.now) × Kept before after first states
taken_as (read states next rest) before after level first left done = (states, ap₂ (read states) (sym done.0) (sym done.1), done.2)
taken_as (wrong number place) before after level first left done = absurd done

pub refused_as : (reading : Reading) (before after : List ℕ) (level first : ℕ) (e : Refusal) → ReadTo reading before after level first (Err e) → (reading ≡ wrong (number_of e.reason) e.place) × Spared before after (first + 8 ^ level)
refused_as (read states next rest) before after level first e done = absurd done
refused_as (wrong number place) before after level first e done = (ap₂ wrong (sym done.0) (sym done.1), done.2)

child_near : (level code at : ℕ) (bytes : List ℕ) (states : List State) (next : ℕ) (rest : List ℕ) → read_child (read_pair level false) (8 ^ level) code at bytes ≡ read states next rest → (length states ≡ 8 ^ level) × (next < at + 8 ^ level)
child_near level code at bytes states next rest e = subst (Within (8 ^ level) (at + 8 ^ level)) e (child_within (read_pair level false) (8 ^ level) (eight_pos level) (pair_within level false) code at bytes)

-- the next child is read by a cube and a code that are those of child n
module _ (level : ℕ) (code : ℕ → ℕ) (at : ℕ) (bytes before now after : List ℕ) (first n left_at : ℕ) (left : List ℕ) (so_far : Reached (read_pair level false) (8 ^ level) code at bytes before now first n left_at left) (r : Result Rest Refusal) (child_level child_at : ℕ) (its_code : Option State) (levels : child_level ≡ level) (places : child_at ≡ child_first level first n) (codes : its_code ≡ code_of (code n)) where
  abbrev size : ℕ
  size = 8 ^ level

  as_child : ReadTo (read_code (read_pair child_level false) (8 ^ child_level) its_code left_at left) now after child_level child_at r → ReadTo (read_child (read_pair level false) size (code n) left_at left) now after level (child_first level first n) r
  as_child done =
      let P : ℕ → Type 0 = λ l. ReadTo (read_code (read_pair l false) (8 ^ l) its_code left_at left) now after l child_at r in
      let Q : ℕ → Type 0 = λ f. ReadTo (read_code (read_pair level false) size its_code left_at left) now after level f r in
      let R : Option State → Type 0 = λ c. ReadTo (read_code (read_pair level false) size c left_at left) now after level (child_first level first n) r in
      let S : Reading → Type 0 = λ x. ReadTo x now after level (child_first level first n) r in
      subst S (code_read (read_pair level false) size (code n) left_at left) (subst R codes (subst Q places (subst P levels done)))

  step : read_children (read_pair level false) size code (suc n) at bytes ≡ prepend so_far.states (read_child (read_pair level false) size (code n) left_at left)
  step = children_more (read_pair level false) size code n at bytes ∙ ap (λ x. and_then x (read_child (read_pair level false) size (code n))) so_far.reading

  -- the cube of child n begins where the states so far end
  starts : child_first level first n ≡ first + length so_far.states
  starts = omega (arith, so_far.long)

pub reached_more : (level : ℕ) (code : ℕ → ℕ) (at : ℕ) (bytes before now after : List ℕ) (first n left_at : ℕ) (left : List ℕ) (so_far : Reached (read_pair level false) (8 ^ level) code at bytes before now first n left_at left) (next : Rest) (child_level child_at : ℕ) (child : Option State) → child_level ≡ level → child_at ≡ child_first level first n → child ≡ code_of (code n) → ReadTo (read_code (read_pair child_level false) (8 ^ child_level) child left_at left) now after child_level child_at (Ok next) → Reached (read_pair level false) (8 ^ level) code at bytes before after first (n + 1) next.at next.bytes.now
reached_more level code at bytes before now after first n left_at left so_far next child_level child_at child levels places codes done =
    let size = 8 ^ level in
    let got = taken_as (read_child (read_pair level false) size (code n) left_at left) now after level (child_first level first n) next (as_child level code at bytes before now after first n left_at left so_far (Ok next) child_level child_at child levels places codes done) in
    let near = child_near level (code n) left_at left got.0 next.at next.bytes.now got.1 in
    record {
      states = so_far.states ++ got.0;
      reading = ap (λ m. read_children (read_pair level false) size code m at bytes) (add-one n)
          ∙ step level code at bytes before now after first n left_at left so_far (Ok next) child_level child_at child levels places codes
          ∙ ap (prepend so_far.states) got.1;
      kept = kept_more before now after first (child_first level first n) so_far.states got.0 (starts level code at bytes before now after first n left_at left so_far (Ok next) child_level child_at child levels places codes) so_far.kept got.2;
      long = omega (arith, length-append so_far.states got.0, near.0, so_far.long, suc-mul n size, ap (λ m. m * size) (add-one n));
      near = omega (arith, near.1, so_far.near, suc-mul n size, ap (λ m. m * size) (add-one n));
    }

-- what went wrong with a child stays so
wrong_on : (below : ℕ → List ℕ → Reading) (size : ℕ) (code : ℕ → ℕ) (at : ℕ) (bytes : List ℕ) (n number place k : ℕ) → read_children below size code n at bytes ≡ wrong number place → read_children below size code (k + n) at bytes ≡ wrong number place
wrong_on below size code at bytes n number place zero e = ap (λ m. read_children below size code m at bytes) (omega arith) ∙ e
wrong_on below size code at bytes n number place (suc k) e =
    let more : suc k + n ≡ suc (k + n) = omega arith in
    ap (λ m. read_children below size code m at bytes) more ∙ children_more below size code (k + n) at bytes ∙ ap (λ x. and_then x (read_child below size (code (k + n)))) (wrong_on below size code at bytes n number place k e)

pub reached_wrong : (level : ℕ) (code : ℕ → ℕ) (at : ℕ) (bytes before now after : List ℕ) (first n left_at : ℕ) (left : List ℕ) (so_far : Reached (read_pair level false) (8 ^ level) code at bytes before now first n left_at left) (e : Refusal) (child_level child_at : ℕ) (child : Option State) → n < 8 → child_level ≡ level → child_at ≡ child_first level first n → child ≡ code_of (code n) → ReadTo (read_code (read_pair child_level false) (8 ^ child_level) child left_at left) now after child_level child_at (Err e) → (read_children (read_pair level false) (8 ^ level) code 8 at bytes ≡ wrong (number_of e.reason) e.place) × Spared before after (first + 8 ^ level * 8)
reached_wrong level code at bytes before now after first n left_at left so_far e child_level child_at child few levels places codes done =
    let size = 8 ^ level in
    let got = refused_as (read_child (read_pair level false) size (code n) left_at left) now after level (child_first level first n) e (as_child level code at bytes before now after first n left_at left so_far (Err e) child_level child_at child levels places codes done) in
    let here : read_children (read_pair level false) size code (suc n) at bytes ≡ wrong (number_of e.reason) e.place = step level code at bytes before now after first n left_at left so_far (Err e) child_level child_at child levels places codes ∙ ap (prepend so_far.states) got.0 in
    let eight : 8 ≡ 7 - n + suc n = omega arith in
    let within : suc n * size ≤ 8 * size = mul-le-mul_right size few in
    let ends : first + length so_far.states ≤ first + size * 8 = omega (arith, so_far.long, within, suc-mul n size) in (
      ap (λ m. read_children (read_pair level false) size code m at bytes) eight ∙ wrong_on (read_pair level false) size code at bytes (suc n) (number_of e.reason) e.place (7 - n) here,
      spared_more before now after (first + size * 8) (kept_spares before now first (first + size * 8) so_far.states ends so_far.kept) (spared_wider now after (child_first level first n + size) (first + size * 8) (omega (arith, within, suc-mul n size)) got.1),
    )

-- a pair with two bytes at hand
pair_at : (level : ℕ) (root : Bool) (at : ℕ) (bytes : List ℕ) → 2 ≤ length bytes → read_pair (suc level) root at bytes ≡ fault_or (pair_fault (suc level) root (child_code (get_or bytes 0 0) (get_or bytes 1 0))) at (read_children (read_pair level false) (8 ^ level) (child_code (get_or bytes 0 0) (get_or bytes 1 0)) 8 (at + 2) (drop 2 bytes))
pair_at level root at [] long = absurd (omega arith)
pair_at level root at (a ∷ []) long = absurd (omega arith)
pair_at level root at (a ∷ b ∷ rest) long = read_more level root at (a ∷ b ∷ rest)

pair_missing : (level : ℕ) (root : Bool) (at : ℕ) (bytes : List ℕ) → length bytes < 2 → read_pair (suc level) root at bytes ≡ wrong 9 at
pair_missing level root at [] short = read_more level root at []
pair_missing level root at (a ∷ []) short = read_more level root at (a ∷ [])
pair_missing level root at (a ∷ b ∷ rest) short = absurd (omega arith)

module _ (upper : ℕ) (root : Bool) (at : ℕ) (bytes before after : List ℕ) (first : ℕ) (above : 1 ≤ upper) where
  abbrev pair_code : ℕ → ℕ
  pair_code = child_code (get_or bytes 0 0) (get_or bytes 1 0)

  abbrev children : Reading
  children = read_children (read_pair (upper - 1) false) (8 ^ (upper - 1)) pair_code 8 (at + 2) (drop 2 bytes)

  as_pair : 2 ≤ length bytes → read_pair upper root at bytes ≡ fault_or (pair_fault upper root pair_code) at children
  as_pair long =
      ap (λ l. read_pair l root at bytes) (level_up upper above) ∙ pair_at (upper - 1) root at bytes long ∙ ap (λ l. fault_or (pair_fault l root pair_code) at children) (sym (level_up upper above))

  pub pair_short : (e : Refusal) → length bytes < 2 → number_of e.reason ≡ 9 → e.place ≡ at → ReadTo (read_pair upper root at bytes) before before upper first (Err e)
  pair_short e short number place =
      let P : Reading → Type 0 = λ x. ReadTo x before before upper first (Err e) in
      subst P (sym (ap (λ l. read_pair l root at bytes) (level_up upper above) ∙ pair_missing (upper - 1) root at bytes short)) (number, place, spared_none before (first + 8 ^ upper))

  pub pair_faulty : (e : Refusal) → 2 ≤ length bytes → Some (number_of e.reason) ≡ pair_fault upper root pair_code → e.place ≡ at → ReadTo (read_pair upper root at bytes) before before upper first (Err e)
  pair_faulty e long fault place =
      let P : Reading → Type 0 = λ x. ReadTo x before before upper first (Err e) in
      let is : read_pair upper root at bytes ≡ wrong (number_of e.reason) at = as_pair long ∙ ap (λ f. fault_or f at children) (sym fault) in
      subst P (sym is) (refl, place, spared_none before (first + 8 ^ upper))

  pub pair_wrong : (e : Refusal) → 2 ≤ length bytes → None ≡ pair_fault upper root pair_code → (children ≡ wrong (number_of e.reason) e.place) × Spared before after (first + 8 ^ (upper - 1) * 8) → ReadTo (read_pair upper root at bytes) before after upper first (Err e)
  pair_wrong e long fault done =
      let P : Reading → Type 0 = λ x. ReadTo x before after upper first (Err e) in
      let is : read_pair upper root at bytes ≡ wrong (number_of e.reason) e.place = as_pair long ∙ ap (λ f. fault_or f at children) (sym fault) ∙ done.0 in
      subst P (sym is) (refl, refl, spared_wider before after (first + 8 ^ (upper - 1) * 8) (first + 8 ^ upper) (omega (arith, size_up upper above)) done.1)

  pub pair_read : (left : Rest) → 2 ≤ length bytes → None ≡ pair_fault upper root pair_code → Reached (read_pair (upper - 1) false) (8 ^ (upper - 1)) pair_code (at + 2) (drop 2 bytes) before after first 8 left.at left.bytes.now → ReadTo (read_pair upper root at bytes) before after upper first (Ok left)
  pair_read left long fault all_read =
      let P : Reading → Type 0 = λ x. ReadTo x before after upper first (Ok left) in
      let is : read_pair upper root at bytes ≡ read all_read.states left.at left.bytes.now = as_pair long ∙ ap (λ f. fault_or f at children) (sym fault) ∙ all_read.reading in
      subst P (sym is) (refl, refl, all_read.kept)

  -- the next child is near enough
  pub child_ahead : (n left_at size : ℕ) → n < 8 → size ≡ 8 ^ (upper - 1) → at + 8 ^ upper ≤ 32768 → left_at + n ≤ at + 2 + n * size → left_at + size ≤ 32768
  child_ahead n left_at size few is near so_far =
      let one : 1 ≤ size = omega (arith, eight_pos (upper - 1)) in
      let more : suc n * size ≤ 8 * size = mul-le-mul_right size few in
      ⊎_elim
      (λ none. let zeroth : n * size ≡ 0 = ap (λ m. m * size) none ∙ zero-mul size in omega (arith, size_up upper above, zeroth))
      (λ some_read. ⊎_elim
      (λ single. let alone : n * size ≡ size = ap (λ m. m * size) single ∙ one-mul size in omega (arith, size_up upper above, alone))
      (λ several. omega (arith, size_up upper above, suc-mul n size, more))
      (cases_eq n 1))
      (cases_eq n 0)

-- a child with a pair of its own is no voxel
pub above_voxels : (upper : ℕ) (root : Bool) (code : ℕ → ℕ) (j : ℕ) → 1 ≤ upper → j < 8 → None ≡ pair_fault upper root code → AboveVoxels (code_of (code j)) (upper - 1)
above_voxels upper root code j above few fault =
    cond_both (eqb (code j) 3) None (Some (code_state (code j))) (λ c. AboveVoxels c (upper - 1))
    (λ mixed. ⊎_elim
    (λ low. absurd (none_some 10 (fault ∙ fault_deep upper root code (and_from _ _ (eq-eqb upper 1 low) (some_has 8 (λ k. eqb (code k) 3) j few mixed)))))
    (λ high. omega arith)
    (cases_eq upper 1))
    (λ uniform. tt)

-- what is behind the two bytes
pub behind_two : (bytes : List ℕ) → take (length bytes - 2) (drop 2 bytes) ≡ drop 2 bytes
behind_two bytes = take_all (length bytes - 2) (drop 2 bytes) (omega (arith, length-drop 2 bytes))
