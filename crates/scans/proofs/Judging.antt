-- A return line in its place.
use Rattle.std.proofs.Common.{◌≡◌, ℕ, ◌+◌, ◌<◌, Bool, true, false, cond, leb, List, ◌∷◌, length, Some, None, Option, refl, ap, ◌∙◌, subst, arith}
use Rattle.std.proofs.lemmas.Bool.{cond-false, lt-leb}
use Rattle.voxels.specs.declared.space.Position.{Position}
use Rattle.scans.specs.Lines.{return_said, said_by}
use Rattle.scans.specs.Steps.{Holds}
use Rattle.scans.specs.Texts.{Return, Progress, since, outside, line_fault, return_fault, advanced}
use Rattle.scans.specs.declared.lines.Line.{Line}
use Rattle.scans.specs.declared.lines.Line as line
use Rattle.scans.specs.declared.reader.Since.{Since}

module _ (depth : ℕ) (origin : Position) (returns : List Return) (p : Position) where
  pub return_fault_lem : (is_hit : Bool) → line_fault depth (since origin returns) (return_said is_hit p) ≡ return_fault depth p returns
  return_fault_lem true = refl
  return_fault_lem false = refl

  pub return_more : (is_hit : Bool) → advanced (since origin returns) (return_said is_hit p) ≡ since origin (record { is_hit = is_hit; end = p } ∷ returns)
  return_more true = refl
  return_more false = refl

-- a return line more where fewer than 512 stand
pub return_taken : {is_hit : Bool} {p : Position} (depth : ℕ) (held : Option Since) (s : Since) (what : Line) (progress : Progress) → held ≡ Some s → what ≡ line.TheVariants.Return is_hit p → Holds depth held progress → outside depth p ≡ false → s.returns < 512 → (line_fault depth progress (said_by what) ≡ None) × Holds depth (Some record { origin = s.origin; returns = s.returns + 1 }) (advanced progress (said_by what))
return_taken {is_hit} {p} depth held s what progress at is stands inside few =
    let here : Holds depth (Some s) progress = subst (λ o. Holds depth o progress) at stands in
    let returns = here.0 in (
      ap (λ q. line_fault depth q (said_by what)) here.1
          ∙ ap (λ l. line_fault depth (since s.origin returns) (said_by l)) is
          ∙ return_fault_lem depth s.origin returns p is_hit
          ∙ cond-false (outside depth p) (Some 6) (cond (leb 512 (length returns)) (Some 7) None) inside
          ∙ cond-false (leb 512 (length returns)) (Some 7) None (lt-leb 512 (length returns) (omega (arith, here.2))),
      (
        record { is_hit = is_hit; end = p } ∷ returns,
        ap (λ q. advanced q (said_by what)) here.1
            ∙ ap (λ l. advanced (since s.origin returns) (said_by l)) is
            ∙ return_more depth s.origin returns p is_hit,
        omega (arith, here.2),
        here.3,
      ),
    )
