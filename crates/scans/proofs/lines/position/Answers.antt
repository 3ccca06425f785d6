use Rattle.std.proofs.Common.{◌≡◌, [], ◌∷◌, sym, ◌∙◌}
use Rattle.std.proofs.lemmas.Bool.Decides.{Decides-eqb}
use Rattle.std.proofs.lemmas.Option.{MatchOption-at_none, MatchOption-at_some}
use Rattle.std.proofs.lemmas.Slice.Eq.{strip_prefix_is}
use Rattle.scans.specs.Lines.{number_in}
use Rattle.scans.specs.Texts.{pieces_from, position_of}
use Rattle.scans.proofs.Numbers.{not_behind_space, one_piece, three_pieces, together, two_pieces}
use Rattle.scans.proofs.lines.position.Goals as goal
use Rattle.scans.proofs.lines.position.Goals.{In_ok-numbers, In_ok-y}

pub returns-in_err-numbers : goal.returns-in_err-numbers
returns-in_err-numbers c =
    c.from_residual.ensures
    ∙ sym (not_behind_space c.args.numbers.now (MatchOption-at_none _ _ c.in_err-numbers.was (strip_prefix_is Decides-eqb c.args.numbers.now (32 ∷ []) c.strip_prefix.result c.strip_prefix.ensures.cases)))

-- the numbers stand behind a space
behind : (c : goal.In_ok-numbers) → c.args.numbers.now ≡ 32 ∷ c.in_ok-numbers.numbers.now
behind c = MatchOption-at_some _ _ c.in_ok-numbers.numbers c.in_ok-numbers.was (strip_prefix_is Decides-eqb c.args.numbers.now (32 ∷ []) c.strip_prefix.result c.strip_prefix.ensures.cases)

pub returns-in_err-x : goal.returns-in_err-x
returns-in_err-x c =
    c.from_residual-in_err-x.ensures ∙ sym (one_piece c.args.numbers.now c.in_ok-numbers.numbers.now (behind (goal.at.returns-in_err-x c).In_ok-numbers) c.in_err-x.ensures)

pub returns-in_err-y : goal.returns-in_err-y
returns-in_err-y c =
    c.from_residual-in_err-y.ensures
    ∙ sym (two_pieces c.args.numbers.now c.in_ok-numbers.numbers.now (behind (goal.at.returns-in_err-y c).In_ok-numbers) c.in_ok-x.x.now c.in_ok-x.rest.now c.in_ok-x.ensures c.in_err-y.ensures)

three : (c : goal.In_ok-y) → position_of (pieces_from 32 [] c.args.numbers.now) ≡ together (number_in c.in_ok-x.x.now) (number_in c.in_ok-y.y.now) (number_in c.in_ok-y.z.now)
three c =
    three_pieces c.args.numbers.now c.in_ok-numbers.numbers.now (behind (goal.at.In_ok-y c).In_ok-numbers) c.in_ok-x.x.now c.in_ok-x.rest.now c.in_ok-x.ensures c.in_ok-y.y.now c.in_ok-y.z.now c.in_ok-y.ensures

pub returns-in_err-number : goal.returns-in_err-number
returns-in_err-number c = c.from_residual-in_err-number.ensures ∙ sym (three (goal.at.returns-in_err-number c).In_ok-y ∙ rw (← c.in_err-number.ensures))

pub returns-in_err-number-2 : goal.returns-in_err-number-2
returns-in_err-number-2 c =
    c.from_residual-in_err-number-2.ensures
    ∙ sym (three (goal.at.returns-in_err-number-2 c).In_ok-y ∙ rw (← c.in_ok-number.ensures, ← c.in_err-number-2.ensures))

pub returns-in_err-number-3 : goal.returns-in_err-number-3
returns-in_err-number-3 c =
    c.from_residual-in_err-number-3.ensures
    ∙ sym (three (goal.at.returns-in_err-number-3 c).In_ok-y ∙ rw (← c.in_ok-number.ensures, ← c.in_ok-number-2.ensures, ← c.in_err-number-3.ensures))

pub returns : goal.returns
returns c =
    sym (three (goal.at.returns c).In_ok-y ∙ rw (← c.in_ok-number.ensures, ← c.in_ok-number-2.ensures, ← c.in_ok-number-3.ensures))
