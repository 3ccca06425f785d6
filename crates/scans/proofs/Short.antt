-- A line that has the form is short: a letter, and three numbers of up to four digits each after a space.
use Rattle.std.proofs.Common.{◌≡◌, ℕ, ◌+◌, ◌≤◌, Bool, true, false, not, ◌&&◌, ◌||◌, eqb, leb, List, [], ◌∷◌, ◌++◌, length, Some, None, Option, sym, refl, ◌∙◌, ⊎_elim, arith, length-append}
use Rattle.std.proofs.lemmas.Bool.{and_parts, cases_Bool, cond_both, cond-false, eqb-true, leb-true}
use Rattle.voxels.specs.declared.space.Position.{Position}
use Rattle.scans.specs.Texts.{Said, origin, hit, far, end, all_digits, is_number, pieces_from, position_of, said, with_numbers}

-- the bytes of pieces with one for each
abbrev piece_bytes : List (List ℕ) → ℕ
piece_bytes [] = 0
piece_bytes (piece ∷ rest) = length piece + 1 + piece_bytes rest

piece_bytes_lem : (c : ℕ) (done rest : List ℕ) → piece_bytes (pieces_from c done rest) ≡ length done + length rest + 1
unfolding pieces_from
piece_bytes_lem c done [] = omega arith
piece_bytes_lem c done (b ∷ rest) = by_test (eqb b c) (piece_bytes_lem c [] rest) (piece_bytes_lem c (done ++ b ∷ []) rest)
  where
    by_test : (t : Bool) → piece_bytes (pieces_from c [] rest) ≡ 0 + length rest + 1 → piece_bytes (pieces_from c (done ++ b ∷ []) rest) ≡ length (done ++ b ∷ []) + length rest + 1 → piece_bytes (elim t [ true ↦ done ∷ pieces_from c [] rest | false ↦ pieces_from c (done ++ b ∷ []) rest ]) ≡ length done + length (b ∷ rest) + 1
    by_test true begun on = omega (arith, begun)
    by_test false begun on = omega (arith, on, length-append done (b ∷ []))

never : {A : Type 0} {x : A} {P : Type 0} → ◌≡◌ {A = Option A} None (Some x) → P
never e = absurd (cc)

number_short : (digits : List ℕ) → is_number digits ≡ true → length digits ≤ 4
number_short [] is = absurd (cc)
number_short (c ∷ cs) is =
    let few = (and_parts (all_digits (c ∷ cs)) (leb (length cs) 3) (and_parts (all_digits (c ∷ cs) && leb (length cs) 3) (not (eqb c 48) || eqb (length cs) 0) is).0).1 in
    omega (arith, leb-true (length cs) 3 few)

position_short : (pieces : List (List ℕ)) (p : Position) → position_of pieces ≡ Some p → piece_bytes pieces ≤ 16
position_short [] p e = never e
position_short (a ∷ []) p e = never e
position_short (a ∷ x ∷ []) p e = never e
position_short (a ∷ x ∷ y ∷ []) p e = never e
position_short (a ∷ x ∷ y ∷ z ∷ []) p e =
    let form = eqb (length a) 0 && ((is_number x && is_number y) && is_number z) in
    ⊎_elim
    (λ (is : form ≡ true).
    let parts = and_parts (eqb (length a) 0) ((is_number x && is_number y) && is_number z) is in
    let numbers = and_parts (is_number x && is_number y) (is_number z) parts.1 in
    let two = and_parts (is_number x) (is_number y) numbers.0 in
    omega (arith, eqb-true (length a) 0 parts.0, number_short x two.0, number_short y two.1, number_short z numbers.1))
    (λ (no-form : form ≡ false). never (sym (cond-false form _ None no-form) ∙ e))
    (cases_Bool form)
position_short (a ∷ x ∷ y ∷ z ∷ more ∷ rest) p e = never e

numbers_short : (says : Position → Said) (rest : List ℕ) (s : Said) → with_numbers says rest ≡ Some s → length rest ≤ 15
numbers_short says rest s e = by_position (position_of (pieces_from 32 [] rest)) refl e
  where
    by_position : (o : Option Position) → position_of (pieces_from 32 [] rest) ≡ o → elim o as (λ _. Option Said) [ Some p ↦ Some (says p) | None ↦ None ] ≡ Some s → length rest ≤ 15
    by_position None is e = never e
    by_position (Some p) is e = omega (arith, piece_bytes_lem 32 [] rest, position_short (pieces_from 32 [] rest) p is)

pub said_short : (line : List ℕ) (s : Said) → said line ≡ Some s → length line ≤ 16
unfolding said
said_short [] s e = never e
said_short (c ∷ rest) s e =
    let P : Option Said → Type 0 = λ o. (t : Said) → o ≡ Some t → length rest ≤ 15 in
    let tail : length rest ≤ 15 =
    cond_both (eqb c 79) (with_numbers origin rest) _ P (λ is t. numbers_short origin rest t)
    (λ not-o. cond_both (eqb c 72) (with_numbers hit rest) _ P (λ is t. numbers_short hit rest t)
    (λ not-h. cond_both (eqb c 70) (with_numbers far rest) _ P (λ is t. numbers_short far rest t)
    (λ not_f. cond_both (eqb c 69 && eqb (length rest) 0) (Some end) None P (λ is t h. omega (arith, eqb-true (length rest) 0 (and_parts (eqb c 69) (eqb (length rest) 0) is).1)) (λ no_end t h. never h))))
    s e in
    omega (arith, tail)
