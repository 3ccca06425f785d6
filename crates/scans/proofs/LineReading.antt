-- A reading with its marks, one line further.
use Rattle.std.proofs.Common.{◌≡◌, ℕ, ◌<◌, Bool, true, false, leb, List, [], ◌∷◌, length, Some, None, Ok, Err, MatchResult, Option, Result, sym, refl, ap, ◌∙◌, subst, ⊎_elim, arith}
use Rattle.std.specs.Result.{IsErrAnd}
use Rattle.std.proofs.lemmas.Bool.{cases_Bool, cond-true, cond-false, leb-false}
use Rattle.voxels.specs.declared.refusals.Reason.{Reason}
use Rattle.voxels.specs.declared.refusals.Refusal.{Refusal}
use Rattle.voxels.specs.declared.space.Position.{Position}
use Rattle.scans.specs.LineMarks.{MarkedBy, ReadMarks, ReadTo, Reached}
use Rattle.scans.specs.Lines.{return_said}
use Rattle.scans.specs.Steps.{Holds, Stands, Stepped, Took, tells}
use Rattle.scans.specs.Texts.{Progress, nothing, since, Return, advanced, line_fault, outside, read_text, return_fault}
use Rattle.scans.specs.declared.lines.Line.{Line}
use Rattle.scans.specs.declared.lines.Line as line
use Rattle.scans.specs.declared.reader.Reader.{Reader}
use Rattle.scans.specs.declared.reader.Since.{Since}
use Rattle.scans.proofs.Judging.{return_fault_lem, return_more}

never : {A : Type 0} {x : A} {P : Type 0} → ◌≡◌ {A = Option A} (Some x) None → P
never e = absurd (cc)

-- words of zeroes have the marks of no line, and of an origin alone
origin_marked : (depth : ℕ) (o : Position) (words : List ℕ) → MarkedBy depth nothing words → MarkedBy depth (since o []) words
origin_marked depth o words blank = blank

-- what a return line without a fault says of the map, and of those that stand already
return_right : (depth : ℕ) (p : Position) (rs : List Return) → return_fault depth p rs ≡ None → (outside depth p ≡ false) × (length rs < 512)
return_right depth p rs right =
    ⊎_elim
    (λ out. never (sym (cond-true (outside depth p) (Some 6) _ out) ∙ right))
    (λ inside.
    ⊎_elim
    (λ full. never (sym (cond-false (outside depth p) (Some 6) _ inside ∙ cond-true (leb 512 (length rs)) (Some 7) None full) ∙ right))
    (λ free. (inside, leb-false 512 (length rs) free))
    (cases_Bool (leb 512 (length rs))))
    (cases_Bool (outside depth p))

no_return_first : (depth : ℕ) (p : Position) (is_hit : Bool) {P : Type 0} → line_fault depth nothing (return_said is_hit p) ≡ None → P
no_return_first depth p true right = never right
no_return_first depth p false right = never right

module _ (depth : ℕ) (text : List ℕ) (before after : Reader) (words : List ℕ) where
  pub read_origin : (p : Position) (progress : Progress) → before.depth ≡ depth → tells before progress ≡ read_text depth text → MarkedBy depth progress words → Reached progress before.place → Took before after progress (line.TheVariants.Origin p) → ReadTo depth text after words
  read_origin p nothing same told marked reached took =
      record {
        progress = since p [];
        depth_is = took.depth ∙ same;
        stands = took.stands;
        tells = sym took.goes_on ∙ told;
        marked = origin_marked depth p words marked;
        reached = (omega arith, omega (arith, took.short, reached));
      }
  read_origin p (since o rs) same told marked reached took = never took.right

  module _ (is_hit : Bool) (p : Position) where
    -- what a return line that is taken says: it stands behind an origin, and both lie in the map
    pub record Returns (progress : Progress) (s : Since) : Type 0 where
      pub returns : List Return
      pub progress_is : progress ≡ since s.origin returns
      pub few : length returns < 512
      pub from : outside depth s.origin ≡ false
      pub to : outside depth p ≡ false

    pub read_returns : (progress : Progress) (s : Since) → before.depth ≡ depth → after.since ≡ Some s → Took before after progress (line.TheVariants.Return is_hit p) → Returns progress s
    read_returns nothing s same at took = no_return_first before.depth p is_hit took.right
    read_returns (since o rs) s same at took =
        let here : Holds after.depth (Some s) (advanced (since o rs) (return_said is_hit p)) = subst (λ h. Holds after.depth h (advanced (since o rs) (return_said is_hit p))) at took.stands in
        let grown : since o (record { is_hit = is_hit; end = p } ∷ rs) ≡ since s.origin here.0 = sym (return_more before.depth o rs p is_hit) ∙ here.1 in
        let origin : o ≡ s.origin = cc in
        let right = return_right before.depth p rs (sym (return_fault_lem before.depth o rs p is_hit) ∙ took.right) in
        record {
          returns = rs;
          progress_is = ap (λ q. since q rs) origin;
          few = right.1;
          from = ap (λ d. outside d s.origin) (sym (took.depth ∙ same)) ∙ here.3;
          to = ap (λ d. outside d p) (sym same) ∙ right.0;
        }

    on_return : (words' : List ℕ) (s : Since) (rs : List Return) → length rs < 512 → before.depth ≡ depth → (tells before (since s.origin rs) ≡ read_text depth text) × Reached (since s.origin rs) before.place × Took before after (since s.origin rs) (line.TheVariants.Return is_hit p) → MarkedBy depth (since s.origin (record { is_hit = is_hit; end = p } ∷ rs)) words' → ReadTo depth text after words'
    on_return words' s rs few same so marked =
        let took = so.2 in
        let grown = return_more before.depth s.origin rs p is_hit in
        record {
          progress = since s.origin (record { is_hit = is_hit; end = p } ∷ rs);
          depth_is = took.depth ∙ same;
          stands = subst (Stands after) grown took.stands;
          tells = ap (tells after) (sym grown) ∙ sym took.goes_on ∙ so.0;
          marked = marked;
          reached = (omega (arith, few), omega (arith, took.short, so.1.1));
        }

    pub read_return : (words' : List ℕ) (s : Since) (read : ReadTo depth text before words) (took : Took before after read.progress (line.TheVariants.Return is_hit p)) → Returns read.progress s → ((returns : List Return) → MarkedBy depth (since s.origin returns) words → MarkedBy depth (since s.origin (record { is_hit = is_hit; end = p } ∷ returns)) words') → ReadTo depth text after words'
    read_return words' s read took here marks =
        on_return words' s here.returns here.few read.depth_is
        (subst (λ q. (tells before q ≡ read_text depth text) × Reached q before.place × Took before after q (line.TheVariants.Return is_hit p)) here.progress_is (read.tells, read.reached, took))
        (marks here.returns (subst (λ q. MarkedBy depth q words) here.progress_is read.marked))

    -- behind a return line the reader holds an origin
    pub returns_hold : (progress : Progress) → after.since ≡ None → Took before after progress (line.TheVariants.Return is_hit p) → ⊥
    returns_hold nothing at took = no_return_first before.depth p is_hit took.right
    returns_hold (since o rs) at took =
        let none : since o (record { is_hit = is_hit; end = p } ∷ rs) ≡ nothing =
        sym (return_more before.depth o rs p is_hit) ∙ subst (λ h. Holds after.depth h (advanced (since o rs) (return_said is_hit p))) at took.stands in
        cc

  -- at the end line everything is read
  pub read_end : (read : ReadTo depth text before words) → Took before after read.progress line.TheVariants.End → ReadMarks depth text words (Ok after.place)
  read_end read took =
      let ends = took.goes_on in (
        record { used = after.place; origin = ends.0; returns = ends.1 },
        sym read.tells ∙ ends.3,
        refl,
        subst (λ q. MarkedBy depth q words) ends.2 read.marked,
      )

  -- where a step is refused, the text is refused at the reader's place, which a `map_err` adds
  pub read_refused : (read : ReadTo depth text before words) (s : Result Line Reason) (q : Result Line Refusal) (e : Refusal) (r : Result ℕ Refusal) → Stepped before after read.progress s → MatchResult s (λ x. q ≡ Ok x) (λ reason. IsErrAnd q (λ z. z ≡ record { reason = reason; place = before.place })) → q ≡ Err e → r ≡ Err e → ReadMarks depth text words r
  read_refused read (Ok x) q e r stepped gives is out = absurd (let same : Err e ≡ Ok x = sym is ∙ gives in cc)
  read_refused read (Err reason) q e r stepped gives is out =
      let z = subst (λ p. IsErrAnd p (λ z. z ≡ record { reason = reason; place = before.place })) is gives in
      subst (ReadMarks depth text words) (sym (out ∙ ap Err z)) (sym read.tells ∙ stepped.1)
