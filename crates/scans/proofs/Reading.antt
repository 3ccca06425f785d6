-- The reading of a text over its first line.
use Rattle.std.proofs.Common.{◌≡◌, ◌≢◌, ℕ, ◌+◌, Bool, true, false, List, ◌∷◌, length, Some, None, Err, Option, Result, sym, refl, ap, ◌∙◌, subst, arith, length-append}
use Rattle.std.specs.List.{All}
use Rattle.std.specs.Option.{ok_or}
use Rattle.voxels.specs.Refusals.{Told, taken, refused, number_of}
use Rattle.voxels.specs.declared.refusals.Reason.{Reason}
use Rattle.voxels.specs.declared.space.Position.{Position}
use Rattle.scans.specs.Lines.{CutAt, return_said, said_by}
use Rattle.scans.specs.Steps.{GoesOn, Stands, Stepped, Took, tells}
use Rattle.scans.specs.Texts.{Said, origin, end, Return, Progress, nothing, since, ScanText, said, line_fault, ended, advanced, read_from, lines_of}
use Rattle.scans.specs.declared.lines.Line.{Line}
use Rattle.scans.specs.declared.lines.Line as the_line
use Rattle.scans.specs.declared.reader.Reader.{Reader}
use Rattle.scans.proofs.Pieces.{lines_cut, lines_none}
use Rattle.scans.proofs.Short.{said_short}

abbrev on_ended : ℕ → ℕ → Progress → List (List ℕ) → Said → Option ScanText → Told ScanText
on_ended depth next progress rest s o = elim o [ Some text ↦ taken text | None ↦ read_from depth next (advanced progress s) rest ]

abbrev on_fault : ℕ → ℕ → ℕ → Progress → List (List ℕ) → Said → Option ℕ → Told ScanText
on_fault depth place next progress rest s o = elim o [ Some number ↦ refused number place | None ↦ on_ended depth next progress rest s (ended next progress s) ]

abbrev on_said : ℕ → ℕ → ℕ → Progress → List (List ℕ) → Option Said → Told ScanText
on_said depth place next progress rest o = elim o [ None ↦ refused 4 place | Some s ↦ on_fault depth place next progress rest s (line_fault depth progress s) ]

read_line : (depth place : ℕ) (progress : Progress) (line : List ℕ) (rest : List (List ℕ)) → read_from depth place progress (line ∷ rest) ≡ on_said depth place (place + length line + 1) progress rest (said line)
unfolding read_from
read_line depth place progress line rest = refl

end_stands : (depth : ℕ) (progress : Progress) → line_fault depth progress end ≡ None → (start : Position) × (returns : List Return) × (progress ≡ since start returns)
end_stands depth nothing right = absurd (cc)
end_stands depth (since start returns) right = (start, returns, refl)

origin_goes : (used : ℕ) (progress : Progress) (p : Position) → ended used progress (origin p) ≡ None
origin_goes used nothing p = refl
origin_goes used (since start returns) p = refl

return_goes : (used : ℕ) (progress : Progress) (is_hit : Bool) (p : Position) → ended used progress (return_said is_hit p) ≡ None
return_goes used nothing true p = refl
return_goes used nothing false p = refl
return_goes used (since start returns) true p = refl
return_goes used (since start returns) false p = refl

module _ (reader : Reader) (progress : Progress) where
  pub no_line : All (λ b. b ≢ 10) reader.rest.now → tells reader progress ≡ refused 3 reader.place
  unfolding read_from
  no_line other = ap (read_from reader.depth reader.place progress) (lines_none reader.rest.now other)

  module _ (line behind : List ℕ) (cut : CutAt 10 reader.rest.now line behind) where
    over_line : tells reader progress ≡ on_said reader.depth reader.place (reader.place + length line + 1) progress (lines_of behind) (said line)
    over_line =
        ap (read_from reader.depth reader.place progress) (lines_cut reader.rest.now line behind cut) ∙ read_line reader.depth reader.place progress line (lines_of behind)

    pub no_form : said line ≡ None → tells reader progress ≡ refused 4 reader.place
    no_form none = over_line ∙ ap (on_said reader.depth reader.place (reader.place + length line + 1) progress (lines_of behind)) none

    module _ (s : Said) (says : said line ≡ Some s) where
      on_line : tells reader progress ≡ on_fault reader.depth reader.place (reader.place + length line + 1) progress (lines_of behind) s (line_fault reader.depth progress s)
      on_line = over_line ∙ ap (on_said reader.depth reader.place (reader.place + length line + 1) progress (lines_of behind)) says

      pub wrong_line : (number : ℕ) → line_fault reader.depth progress s ≡ Some number → tells reader progress ≡ refused number reader.place
      wrong_line number wrong = on_line ∙ ap (on_fault reader.depth reader.place (reader.place + length line + 1) progress (lines_of behind) s) wrong

-- behind a line that is taken
module _ (before after : Reader) (progress : Progress) (line : List ℕ) (cut : CutAt 10 before.rest.now line after.rest.now) (long : after.place ≡ before.place + length line + 1) (same : after.depth ≡ before.depth) where
  right_line : (s : Said) → said line ≡ Some s → line_fault before.depth progress s ≡ None → tells before progress ≡ on_ended after.depth after.place progress (lines_of after.rest.now) s (ended after.place progress s)
  right_line s says right =
      on_line before progress line after.rest.now cut s says
      ∙ ap (on_fault before.depth before.place (before.place + length line + 1) progress (lines_of after.rest.now) s) right
      ∙ ap (λ n. on_ended before.depth n progress (lines_of after.rest.now) s (ended n progress s)) (sym long)
      ∙ ap (λ d. on_ended d after.place progress (lines_of after.rest.now) s (ended after.place progress s)) (sym same)

  goes_on : (what : Line) → said line ≡ Some (said_by what) → line_fault before.depth progress (said_by what) ≡ None → GoesOn before after progress what
  goes_on (the_line.TheVariants.Origin p) says right =
      right_line (origin p) says right ∙ ap (on_ended after.depth after.place progress (lines_of after.rest.now) (origin p)) (origin_goes after.place progress p)
  goes_on (the_line.TheVariants.Return is_hit p) says right =
      right_line (return_said is_hit p) says right
      ∙ ap (on_ended after.depth after.place progress (lines_of after.rest.now) (return_said is_hit p)) (return_goes after.place progress is_hit p)
  goes_on the_line.TheVariants.End says right =
      let here = end_stands before.depth progress right in (
        here.0,
        here.1,
        here.2,
        right_line end says right ∙ ap (on_ended after.depth after.place progress (lines_of after.rest.now) end) (ap (λ q. ended after.place q end) here.2),
      )

pub step_took : {before after : Reader} {progress : Progress} {what : Line} (line : List ℕ) → CutAt 10 before.rest.now line after.rest.now → after.place ≡ before.place + (length line + 1) → after.depth ≡ before.depth → said line ≡ Some (said_by what) → line_fault before.depth progress (said_by what) ≡ None → Stands after (advanced progress (said_by what)) → Took before after progress what
step_took {before} {after} {progress} {what} line cut long same says right stands =
    let cut_length = ap length cut.0 ∙ length-append line (10 ∷ after.rest.now) in
    record {
      depth = same;
      further = omega (arith, cut_length);
      short = omega (arith, said_short line (said_by what) says);
      right = right;
      stands = stands;
      goes_on = goes_on before after progress line cut (omega arith) same what says right;
    }

-- a refusal leaves the reader as it was
pub step_refused : (reader : Reader) (progress : Progress) (reason : Reason) (r : Result Line Reason) → tells reader progress ≡ refused (number_of reason) reader.place → (y : Reason) × (r ≡ Err y) × (y ≡ reason) → Stepped reader reader progress r
step_refused reader progress reason r told is =
    subst (Stepped reader reader progress) (sym (is.1 ∙ ap Err is.2)) (refl, told)

-- what `ok_or` gives where there is nothing
pub ok_or_none : {A : Type 0} (o : Option A) (e x : Reason) → o ≡ None → ◌≡◌ {A = Result A Reason} (Err x) (ok_or o e) → x ≡ e
ok_or_none {A} o e x none is = let same : ◌≡◌ {A = Result A Reason} (Err x) (Err e) = is ∙ ap (λ p. ok_or p e) none in cc
