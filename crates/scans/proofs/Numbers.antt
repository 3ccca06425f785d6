-- Numbers and positions, by their digits and pieces.
use Rattle.std.proofs.Common.{◌≡◌, ◌≢◌, ℕ, ◌<◌, ◌≤◌, Bool, true, false, cond, not, ◌&&◌, ◌||◌, eqb, leb, List, [], ◌∷◌, ◌++◌, length, get_or, Some, None, Option, sym, refl, ap, ◌∙◌, ⊎_elim, append_assoc, append-nil, arith}
use Rattle.std.specs.List.{All}
use Rattle.std.proofs.lemmas.Bool.{and_left, and_right, cases_eq, cond-false, eq-eqb, le-leb, ne_eqb, not_from_false, or_left, or_right}
use Rattle.voxels.specs.declared.space.Position.{Position}
use Rattle.scans.specs.Lines.{CutAt, number_in}
use Rattle.scans.specs.Texts.{all_digits, decimal, is_digit, is_number, pieces_from, position_of}
use Rattle.scans.proofs.Pieces.{first_piece, pieces_cut, pieces_end, pieces_none, pieces_past}

both_true : (p q r : Bool) → q ≡ true → r ≡ true → ((p && q) && r) ≡ p
both_true true q r e f = rw (e, f)
both_true false q r e f = refl

-- of one to four bytes that do not begin with a 0 in front of others only the digits are left to ask
pub is_number_lem : (digits : List ℕ) → (length digits ≡ 0 → ⊥) → length digits ≤ 4 → (1 < length digits → get_or digits 0 0 ≡ 48 → ⊥) → is_number digits ≡ all_digits digits
is_number_lem [] some few lead = absurd (some refl)
is_number_lem (c ∷ cs) some few lead =
    both_true (all_digits (c ∷ cs)) (leb (length cs) 3) (not (eqb c 48) || eqb (length cs) 0)
    (le-leb (length cs) 3 (omega arith))
    (⊎_elim
    (λ none. or_right (not (eqb c 48)) (eqb (length cs) 0) (eq-eqb (length cs) 0 none))
    (λ more. or_left (not (eqb c 48)) (eqb (length cs) 0) (not_from_false (eqb c 48) (ne_eqb c 48 (λ zero. lead (omega (arith, more)) zero))))
    (cases_eq (length cs) 0))

-- three numbers, where each is one
abbrev pub together : Option ℕ → Option ℕ → Option ℕ → Option Position
together None v w = None
together (Some x) None w = None
together (Some x) (Some y) None = None
together (Some x) (Some y) (Some z) = Some record { x = x; y = y; z = z }

by_tests : (p q r : Bool) (x y z : ℕ) → cond ((p && q) && r) (Some record { x = x; y = y; z = z }) None ≡ together (cond p (Some x) None) (cond q (Some y) None) (cond r (Some z) None)
by_tests false q r x y z = refl
by_tests true false r x y z = refl
by_tests true true false x y z = refl
by_tests true true true x y z = refl

without_last : (u v : Option ℕ) → together u v None ≡ None
without_last None v = refl
without_last (Some x) None = refl
without_last (Some x) (Some y) = refl

-- bytes with a space among them are no number
digits_spaced : (front rest : List ℕ) → all_digits (front ++ 32 ∷ rest) ≡ false
digits_spaced [] rest = refl
digits_spaced (c ∷ cs) rest = and_right (is_digit c) (all_digits (cs ++ 32 ∷ rest)) (digits_spaced cs rest)

number_spaced : (bytes : List ℕ) → all_digits bytes ≡ false → number_in bytes ≡ None
number_spaced [] none = refl
number_spaced (c ∷ cs) none = let is_not : is_number (c ∷ cs) ≡ false = and_left _ _ (and_left _ _ none) in cond-false (is_number (c ∷ cs)) (Some (decimal (c ∷ cs))) None is_not

-- a position has nothing in front of its first space
position_ahead : (b : ℕ) (more : List ℕ) (others : List (List ℕ)) → position_of ((b ∷ more) ∷ others) ≡ None
position_ahead b more [] = refl
position_ahead b more (x ∷ []) = refl
position_ahead b more (x ∷ y ∷ []) = refl
position_ahead b more (x ∷ y ∷ z ∷ []) = cond-false _ _ None (and_left _ _ (ne_eqb (length (b ∷ more)) 0 (λ none. omega arith)))
position_ahead b more (x ∷ y ∷ z ∷ another ∷ rest) = refl

-- a last piece that spaces cut further is no number, so that there are three numbers or no position
three : (x y done z : List ℕ) → position_of ([] ∷ x ∷ y ∷ pieces_from 32 done z) ≡ together (number_in x) (number_in y) (number_in (done ++ z))
unfolding pieces_from
three x y done [] =
    by_tests (is_number x) (is_number y) (is_number done) (decimal x) (decimal y) (decimal done)
    ∙ ap (λ d. together (number_in x) (number_in y) (number_in d)) (sym (append-nil done))
three x y done (b ∷ bs) =
    ⊎_elim
    (λ (space : b ≡ 32).
    let next = first_piece 32 [] bs in
    let cut = ap (λ c. pieces_from 32 done (c ∷ bs)) space ∙ pieces_end 32 done bs ∙ ap (λ ps. done ∷ ps) next.2 in
    let none : number_in (done ++ b ∷ bs) ≡ None = ap (λ c. number_in (done ++ c ∷ bs)) space ∙ number_spaced (done ++ 32 ∷ bs) (digits_spaced done bs) in
    ap (λ ps. position_of ([] ∷ x ∷ y ∷ ps)) cut ∙ sym (ap (together (number_in x) (number_in y)) none ∙ without_last (number_in x) (number_in y)))
    (λ (other : b ≢ 32).
    ap (λ ps. position_of ([] ∷ x ∷ y ∷ ps)) (pieces_past 32 done bs b other)
    ∙ three x y (done ++ b ∷ []) bs
    ∙ ap (λ d. together (number_in x) (number_in y) (number_in d)) (append_assoc done (b ∷ []) bs))
    (cases_eq b 32)

-- bytes that begin with anything but a space
pub not_behind_space : (numbers : List ℕ) → ((rest : List ℕ) → numbers ≢ 32 ∷ rest) → position_of (pieces_from 32 [] numbers) ≡ None
unfolding pieces_from
not_behind_space [] other = refl
not_behind_space (b ∷ bs) other =
    let first = first_piece 32 (b ∷ []) bs in
    ap position_of (pieces_past 32 [] bs b (λ space. other bs (ap (λ c. c ∷ bs) space)) ∙ first.2) ∙ position_ahead b first.0 first.1

module _ (numbers rest : List ℕ) (behind : numbers ≡ 32 ∷ rest) where
  space_first : pieces_from 32 [] numbers ≡ [] ∷ pieces_from 32 [] rest
  space_first = ap (pieces_from 32 []) behind ∙ pieces_end 32 [] rest

  pub one_piece : All (λ b. b ≢ 32) rest → position_of (pieces_from 32 [] numbers) ≡ None
  one_piece other = ap position_of (space_first ∙ ap (λ ps. [] ∷ ps) (pieces_none 32 rest other))

  module _ (x behind_x : List ℕ) (first : CutAt 32 rest x behind_x) where
    pub two_pieces : All (λ b. b ≢ 32) behind_x → position_of (pieces_from 32 [] numbers) ≡ None
    two_pieces other = ap position_of (space_first ∙ ap (λ ps. [] ∷ ps) (pieces_cut 32 rest x behind_x first ∙ ap (λ ps. x ∷ ps) (pieces_none 32 behind_x other)))

    pub three_pieces : (y z : List ℕ) → CutAt 32 behind_x y z → position_of (pieces_from 32 [] numbers) ≡ together (number_in x) (number_in y) (number_in z)
    three_pieces y z second =
        ap position_of (space_first ∙ ap (λ ps. [] ∷ ps) (pieces_cut 32 rest x behind_x first ∙ ap (λ ps. x ∷ ps) (pieces_cut 32 behind_x y z second)))
        ∙ three x y [] z
