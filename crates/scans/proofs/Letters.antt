-- What a line says, by its letter.
use Rattle.std.proofs.Common.{◌≡◌, ℕ, true, false, cond, eqb, List, [], ◌∷◌, length, Some, None, Option, MatchOption, option_map, sym, ap, ◌∙◌}
use Rattle.std.proofs.lemmas.List.{nil_from_length}
use Rattle.std.proofs.lemmas.Bool.{ne_eqb}
use Rattle.voxels.specs.declared.space.Position.{Position}
use Rattle.scans.specs.Lines.{said_by}
use Rattle.scans.specs.Texts.{Said, said, origin, hit, far, end, pieces_from, position_of, with_numbers}
use Rattle.scans.specs.declared.lines.Line.{Line}

pub said_empty : (line : List ℕ) → length line ≡ 0 → said line ≡ None
unfolding said
said_empty line e = ap said (nil_from_length line e)

-- a line that is made of the position behind its letter
pub numbers_said : (says : Position → Said) (made : Position → Line) → ((p : Position) → said_by (made p) ≡ says p) → (rest : List ℕ) (o : Option Position) (r : Option Line) → o ≡ position_of (pieces_from 32 [] rest) → MatchOption o (r ≡ None) (λ p. r ≡ Some (made p)) → with_numbers says rest ≡ option_map said_by r
numbers_said says made same rest None r is gives = ap (λ o. elim o as (λ _. Option Said) [ Some p ↦ Some (says p) | None ↦ None ]) (sym is) ∙ sym (ap (option_map said_by) gives)
numbers_said says made same rest (Some p) r is gives = ap (λ o. elim o as (λ _. Option Said) [ Some p ↦ Some (says p) | None ↦ None ]) (sym is) ∙ sym (ap (option_map said_by) gives ∙ ap Some (same p))

module _ (line rest : List ℕ) where
  pub said_origin : line ≡ 79 ∷ rest → said line ≡ with_numbers origin rest
  unfolding said
  said_origin e = ap said e

  pub said_hit : line ≡ 72 ∷ rest → said line ≡ with_numbers hit rest
  unfolding said
  said_hit e = ap said e

  pub said_far : line ≡ 70 ∷ rest → said line ≡ with_numbers far rest
  unfolding said
  said_far e = ap said e

  pub said_end : line ≡ 69 ∷ rest → eqb (length rest) 0 ≡ true → said line ≡ Some end
  unfolding said
  said_end e alone = ap said e ∙ ap (λ t. cond t (Some end) None) alone

  pub said_end_not : line ≡ 69 ∷ rest → eqb (length rest) 0 ≡ false → said line ≡ None
  unfolding said
  said_end_not e more = ap said e ∙ ap (λ t. cond t (Some end) None) more

  pub said_other : (c : ℕ) → line ≡ c ∷ rest → (c ≡ 79 → ⊥) → (c ≡ 72 → ⊥) → (c ≡ 70 → ⊥) → (c ≡ 69 → ⊥) → said line ≡ None
  unfolding said
  said_other c e o h f n =
      let no-o = ne_eqb c 79 o in
      let no-h = ne_eqb c 72 h in
      let no-f = ne_eqb c 70 f in
      let no-e = ne_eqb c 69 n in
      ap said e ∙ rw (said, no-o, no-h, no-f, no-e)
