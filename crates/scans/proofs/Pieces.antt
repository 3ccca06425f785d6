-- The lines and the pieces of bytes that are cut at their first line feed or space.
use Rattle.std.proofs.Common.{◌≡◌, ◌≢◌, ℕ, List, [], ◌∷◌, ◌++◌, sym, refl, ap, ◌∙◌, ⊎_elim, append_assoc, append-nil}
use Rattle.std.specs.List.{All}
use Rattle.std.proofs.lemmas.Bool.{cases_eq, eq-eqb, ne_eqb}
use Rattle.std.proofs.lemmas.List.Elements.{All-head, All-tail}
use Rattle.scans.specs.Lines.{CutAt}
use Rattle.scans.specs.Texts.{lines_from, lines_of, pieces_from}

-- what ends a part at each byte c, and goes on over any other
module _ (c : ℕ) (parts : List ℕ → List ℕ → List (List ℕ))
    (ends : (done rest : List ℕ) → parts done (c ∷ rest) ≡ done ∷ parts [] rest)
    (past : (done rest : List ℕ) (b : ℕ) → b ≢ c → parts done (b ∷ rest) ≡ parts (done ++ b ∷ []) rest) where
  parts_cut : (done before behind : List ℕ) → All (λ b. b ≢ c) before → parts done (before ++ c ∷ behind) ≡ (done ++ before) ∷ parts [] behind
  parts_cut done [] behind other = ends done behind ∙ ap (λ d. d ∷ parts [] behind) (sym (append-nil done))
  parts_cut done (b ∷ bs) behind other =
      past done (bs ++ c ∷ behind) b (All-head (λ b. b ≢ c) b bs other)
      ∙ parts_cut (done ++ b ∷ []) bs behind (All-tail (λ b. b ≢ c) b bs other)
      ∙ ap (λ d. d ∷ parts [] behind) (append_assoc done (b ∷ []) bs)

  parts_whole : (done bytes : List ℕ) → All (λ b. b ≢ c) bytes → parts done bytes ≡ parts (done ++ bytes) []
  parts_whole done [] other = ap (λ d. parts d []) (sym (append-nil done))
  parts_whole done (b ∷ bs) other =
      past done bs b (All-head (λ b. b ≢ c) b bs other)
      ∙ parts_whole (done ++ b ∷ []) bs (All-tail (λ b. b ≢ c) b bs other)
      ∙ ap (λ d. parts d []) (append_assoc done (b ∷ []) bs)

lines_end : (done rest : List ℕ) → lines_from done (10 ∷ rest) ≡ done ∷ lines_from [] rest
unfolding lines_from
lines_end done rest = refl

lines_past : (done rest : List ℕ) (b : ℕ) → b ≢ 10 → lines_from done (b ∷ rest) ≡ lines_from (done ++ b ∷ []) rest
unfolding lines_from
lines_past done rest b other = let e = ne_eqb b 10 other in rw (e, lines_from)

pub lines_cut : (bytes before behind : List ℕ) → CutAt 10 bytes before behind → lines_of bytes ≡ before ∷ lines_of behind
lines_cut bytes before behind cut = ap lines_of cut.0 ∙ parts_cut 10 lines_from lines_end lines_past [] before behind cut.1

pub lines_none : (bytes : List ℕ) → All (λ b. b ≢ 10) bytes → lines_of bytes ≡ []
unfolding lines_from
lines_none bytes other = parts_whole 10 lines_from lines_end lines_past [] bytes other

module _ (c : ℕ) where
  pub pieces_end : (done rest : List ℕ) → pieces_from c done (c ∷ rest) ≡ done ∷ pieces_from c [] rest
  unfolding pieces_from
  pieces_end done rest = let e = eq-eqb c c refl in rw (e, pieces_from)

  pub pieces_past : (done rest : List ℕ) (b : ℕ) → b ≢ c → pieces_from c done (b ∷ rest) ≡ pieces_from c (done ++ b ∷ []) rest
  unfolding pieces_from
  pieces_past done rest b other = let e = ne_eqb b c other in rw (e, pieces_from)

  pub pieces_cut : (bytes before behind : List ℕ) → CutAt c bytes before behind → pieces_from c [] bytes ≡ before ∷ pieces_from c [] behind
  pieces_cut bytes before behind cut = ap (pieces_from c []) cut.0 ∙ parts_cut c (pieces_from c) pieces_end pieces_past [] before behind cut.1

  pub pieces_none : (bytes : List ℕ) → All (λ b. b ≢ c) bytes → pieces_from c [] bytes ≡ bytes ∷ []
  unfolding pieces_from
  pieces_none bytes other = parts_whole c (pieces_from c) pieces_end pieces_past [] bytes other

  -- there is a first piece, and it goes on where what is done ends
  pub first_piece : (done bytes : List ℕ) → (more : List ℕ) × (others : List (List ℕ)) × (pieces_from c done bytes ≡ (done ++ more) ∷ others)
  unfolding pieces_from
  first_piece done [] = ([], [], ap (λ d. d ∷ []) (sym (append-nil done)))
  first_piece done (b ∷ bs) =
      ⊎_elim
      (λ (is : b ≡ c). ([], pieces_from c [] bs, ap (λ a. pieces_from c done (a ∷ bs)) is ∙ pieces_end done bs ∙ ap (λ d. d ∷ pieces_from c [] bs) (sym (append-nil done))))
      (λ (other : b ≢ c).
      let rest = first_piece (done ++ b ∷ []) bs in
      (b ∷ rest.0, rest.1, pieces_past done bs b other ∙ rest.2 ∙ ap (λ d. d ∷ rest.1) (append_assoc done (b ∷ []) rest.0)))
      (cases_eq b c)
