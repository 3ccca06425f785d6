-- A sweep from voxel to voxel, forth and back, with the page that keeps the old cells.
use Rattle.std.proofs.Common.{◌≡◌, ℕ, suc, ◌+◌, ◌-◌, ◌<◌, ◌≤◌, Bool, true, false, cond, not, ◌≢◌, List, [], ◌∷◌, ◌++◌, length, get_or, set, take, is_some, Some, None, Ok, Err, Option, sym, refl, ap, ◌∙◌, subst, ap₂, ⊎_elim, add-one, arith, below_more}
use Rattle.std.proofs.lemmas.List.{get_or-set_same, get_or-set_other, get_or_append_left, get_or-append_right, get_or-take, length-take-le}
use Rattle.std.proofs.lemmas.Bool.{and_from, and_left, and_parts, and_right, cases_Bool, cases_lt, cond-true, cond-false, not_from_true, not_from_false}
use Rattle.voxels.specs.Bounded.{count, sum}
use Rattle.voxels.specs.Cells.{cell_word, in_range, put, word_cell}
use Rattle.voxels.specs.Cubes.{blocks_needed}
use Rattle.voxels.specs.Refusals.{Told, taken, refused, number_of}
use Rattle.voxels.specs.Space.{voxel_count}
use Rattle.voxels.specs.declared.cells.Cell.{Cell}
use Rattle.voxels.specs.declared.refusals.Refusal.{Refusal}
use Rattle.voxels.proofs.Updates.{word_back}
use Rattle.voxels.proofs.Bounds.{count_beyond, count_more}
use Rattle.stores.specs.Sets.{SetDone, cells_after, is_open}
use Rattle.stores.specs.Shapes.{Shape}
use Rattle.stores.specs.Sweeps.{became, is_set, is_skipped, passes_limit, sweep_answer, swept}
use Rattle.stores.specs.Visits.{Midway, Sweeping, VisitDone, set_by, skipped_by, visit_word}
use Rattle.stores.specs.declared.visits.Swept.{Swept}
use Rattle.stores.specs.declared.visits.Visit.{Visit}
use Rattle.stores.specs.declared.visits.Visit.TheVariants.{Nothing, Skipped, Set}
use Rattle.stores.proofs.SetAnswers.{answer_taken, set_fits, set_past}
use Rattle.stores.proofs.Sweeps.{figures_same, fitted_forth, fitted_starts, fitted_stays, past_refused, reached_cell, reached_forth, same_blocks, same_put, sweep_taken, swept_ahead, swept_back, swept_beyond, swept_stays, unset_within, within_limit}

module _ (shape : Shape) (wanted : ℕ → Option Cell) (cells now : ℕ → Cell) (page : List ℕ) (n : ℕ) (mid : Midway shape wanted cells now page (suc n)) where
  abbrev set_at : Bool
  set_at = is_set shape wanted cells n

  -- what the kept word says of the voxel
  kept_some : 0 < get_or page n 0 → (set_at ≡ true) × (word_cell (get_or page n 0 - 1) ≡ cells n)
  kept_some some_word =
      let word = mid.kept n (omega arith) in
      let is : set_at ≡ true = ⊎_elim (λ yes'. yes') (λ none. absurd (let e = cond-false set_at (cell_word (cells n) + 1) 0 none in omega (arith, word, e, some_word))) (cases_Bool set_at) in
      let at : get_or page n 0 ≡ cell_word (cells n) + 1 = word ∙ cond-true set_at (cell_word (cells n) + 1) 0 is in
      let less : get_or page n 0 - 1 ≡ cell_word (cells n) = omega (arith, at) in
      (is, ap word_cell less ∙ word_back (cells n) (mid.ranged n))

  -- a set of the cell that the word keeps is taken, and one voxel is taken back
  pub back_set : (after : ℕ → Cell) (r : Told (Unit {0})) (c : Cell) → 0 < get_or page n 0 → c ≡ word_cell (get_or page n 0 - 1) → SetDone shape now n c r after → Midway shape wanted cells after page n
  back_set after r c some_word is_kept done =
      let kept = kept_some some_word in
      let old : c ≡ cells n = is_kept ∙ kept.1 in
      let at = swept shape wanted cells in
      let back : (i : ℕ) → put now n c i ≡ at n i =
      λ i. ap (λ v. put now n v i) old ∙ same_put now (at (suc n)) n (cells n) mid.reached i ∙ swept_back shape wanted cells n i in
      let fits : blocks_needed shape.depth (put now n c) ≤ shape.limit = omega (arith, same_blocks shape.depth (put now n c) (at n) back, mid.fitted n (omega arith)) in
      let free = (and_parts (is_open shape n) (is_some (wanted n)) kept.0).0 in
      let ranged : in_range c ≡ true = ap in_range old ∙ mid.ranged n in
      let taken? : r ≡ taken tt = done.tells ∙ answer_taken shape now n c free ranged fits in
      let P : Told (Unit {0}) → Type 0 = λ t. (j : ℕ) → after j ≡ cells_after t now n c j in
      let left : (j : ℕ) → after j ≡ put now n c j = subst P taken? done.leaves in
      record {
        ranged = mid.ranged;
        reached = λ i. left i ∙ back i;
        fitted = λ m h. mid.fitted m (omega arith);
        kept = λ k h. mid.kept k (omega arith);
      }

-- one turn back: the page ends in the word of the voxel that is gone back over
module _ (shape : Shape) (wanted : ℕ → Option Cell) (cells now : ℕ → Cell) (page front : List ℕ) (word : ℕ) (is : page ≡ front ++ word ∷ []) (long : length front + 1 ≡ length page) (mid : Midway shape wanted cells now page (length page)) where
  at_last : Midway shape wanted cells now page (suc (length front))
  at_last = let whole : length page ≡ suc (length front) = omega (arith, long) in subst (Midway shape wanted cells now page) whole mid

  last_word : get_or page (length front) 0 ≡ word
  last_word =
      let none : length front - length front ≡ 0 = omega arith in
      ap (λ ws. get_or ws (length front) 0) is ∙ get_or-append_right front (word ∷ []) (length front) (length front) 0 refl (omega arith) ∙ ap (λ k. get_or (word ∷ []) k 0) none

  shorter : (after : ℕ → Cell) → Midway shape wanted cells after page (length front) → Midway shape wanted cells after front (length front)
  shorter after behind = record {
    ranged = behind.ranged;
    reached = behind.reached;
    fitted = behind.fitted;
    kept = λ k h. sym (ap (λ ws. get_or ws k 0) is ∙ get_or_append_left front (word ∷ []) 0 k h) ∙ behind.kept k h;
  }

  pub turn_set : (after : ℕ → Cell) (r : Told (Unit {0})) (c : Cell) → 1 ≤ word → c ≡ word_cell (word - 1) → SetDone shape now (length front) c r after → Midway shape wanted cells after front (length front)
  turn_set after r c some_word kept done =
      shorter after (back_set shape wanted cells now page (length front) at_last after r c (omega (arith, last_word, some_word)) (kept ∙ ap (λ w. word_cell (w - 1)) (sym last_word)) done)

-- one turn forth
module _ (shape : Shape) (wanted : ℕ → Option Cell) (cells now after : ℕ → Cell) (marks page : List ℕ) (n : ℕ) (figures next : Swept) (visit : Visit) (room : n < length page) (counted : next.set ≡ figures.set + set_by visit) (skipped : next.skipped ≡ figures.skipped + skipped_by visit) (so_far : Sweeping shape wanted cells now marks page n figures) where
  abbrev is_set' : ℕ → Bool
  is_set' = is_set shape wanted cells

  abbrev is_skipped' : ℕ → Bool
  is_skipped' = is_skipped shape wanted cells

  -- the parts that do not hang on what the visit came to
  forth : cond (is_set' n) 1 0 ≡ set_by visit → cond (is_skipped' n) 1 0 ≡ skipped_by visit → visit_word visit ≡ cond (is_set' n) (cell_word (cells n) + 1) 0 → ((i : ℕ) → after i ≡ swept shape wanted cells (suc n) i) → blocks_needed shape.depth (swept shape wanted cells (suc n)) ≤ shape.limit → Sweeping shape wanted cells after marks (set page n (visit_word visit)) (n + 1) next
  forth sets skips word reached fits = record {
    mid = record {
      ranged = so_far.mid.ranged;
      reached = λ i. reached i ∙ ap (λ m. swept shape wanted cells m i) (sym (add-one n));
      fitted = λ m h. fitted_forth shape wanted cells n so_far.mid.fitted fits m (omega arith);
      kept = below_more _ _
          (λ k h. let ne : k ≢ n = omega arith in get_or-set_other page n k (visit_word visit) 0 ne ∙ so_far.mid.kept k h)
          (get_or-set_same page n (visit_word visit) 0 room ∙ word);
    };
    ahead = λ k h. let ne : k ≢ n = omega arith in get_or-set_other page n k (visit_word visit) 0 ne ∙ so_far.ahead k (omega arith);
    sets = omega (arith, counted, so_far.sets, count_more n is_set', sets);
    skips = omega (arith, skipped, so_far.skips, count_more n is_skipped', skips);
  }

  pub not_set : is_set' n ≡ false → set_by visit ≡ 0 → cond (is_skipped' n) 1 0 ≡ skipped_by visit → visit_word visit ≡ 0 → ((i : ℕ) → after i ≡ now i) → Sweeping shape wanted cells after marks (set page n (visit_word visit)) (n + 1) next
  not_set none sets skips word same =
      forth
      (cond-false (is_set' n) 1 0 none ∙ sym sets)
      skips
      (word ∙ sym (cond-false (is_set' n) (cell_word (cells n) + 1) 0 none))
      (λ i. same i ∙ so_far.mid.reached i ∙ sym (swept_stays shape wanted cells n i none))
      (fitted_stays shape wanted cells n none (so_far.mid.fitted n (omega arith)))

  pub is_set_to : (c old : Cell) → visit ≡ Set old → wanted n ≡ Some c → is_open shape n ≡ true → old ≡ now n → ((i : ℕ) → after i ≡ put now n c i) → blocks_needed shape.depth (put now n c) ≤ shape.limit → Sweeping shape wanted cells after marks (set page n (visit_word visit)) (n + 1) next
  is_set_to c old was is_wanted free read put_at fits =
      let is : is_set' n ≡ true = and_from (is_open shape n) (is_some (wanted n)) free (ap is_some is_wanted) in
      let here : now n ≡ cells n = reached_cell shape wanted cells now n so_far.mid.reached in
      let one : (i : ℕ) → put now n c i ≡ swept shape wanted cells (suc n) i =
      reached_forth shape wanted cells now n so_far.mid.reached c (sym (ap (λ w. became w (cells n)) is_wanted)) is in
      forth
      (cond-true _ 1 0 is ∙ sym (ap set_by was))
      (cond-false _ 1 0 (and_left (not (is_open shape n)) (is_some (wanted n)) (not_from_true (is_open shape n) free)) ∙ sym (ap skipped_by was))
      (ap visit_word was ∙ ap (λ v. cell_word v + 1) (read ∙ here) ∙ sym (cond-true (is_set' n) (cell_word (cells n) + 1) 0 is))
      (λ i. put_at i ∙ one i)
      (omega (arith, same_blocks shape.depth (put now n c) (swept shape wanted cells (suc n)) one, fits))

-- one turn forth, by what is wanted and what the visit came to
pub turn_forth : (shape : Shape) (wanted : ℕ → Option Cell) (cells now after : ℕ → Cell) (marks page : List ℕ) (n : ℕ) (figures next : Swept) (visit : Visit) (w : Option Cell) → wanted n ≡ w → n < length page → next.set ≡ figures.set + set_by visit → next.skipped ≡ figures.skipped + skipped_by visit → Sweeping shape wanted cells now marks page n figures → VisitDone shape now after n w (Ok visit) → Sweeping shape wanted cells after marks (set page n (visit_word visit)) (n + 1) next
turn_forth shape wanted cells now after marks page n figures next Nothing None is room counted skipped so_far done =
    let none = ap is_some is in
    not_set shape wanted cells now after marks page n figures next Nothing room counted skipped so_far
    (and_right (is_open shape n) (is_some (wanted n)) none) refl (cond-false _ 1 0 (and_right (not (is_open shape n)) (is_some (wanted n)) none)) refl done
turn_forth shape wanted cells now after marks page n figures next Skipped None is room counted skipped so_far done = absurd done
turn_forth shape wanted cells now after marks page n figures next (Set old) None is room counted skipped so_far done = absurd done
turn_forth shape wanted cells now after marks page n figures next Nothing (Some c) is room counted skipped so_far done = absurd done
turn_forth shape wanted cells now after marks page n figures next Skipped (Some c) is room counted skipped so_far done =
    not_set shape wanted cells now after marks page n figures next Skipped room counted skipped so_far
    (and_left (is_open shape n) (is_some (wanted n)) done.0) refl (cond-true _ 1 0 (and_from (not (is_open shape n)) (is_some (wanted n)) (not_from_false (is_open shape n) done.0) (ap is_some is))) refl done.1
turn_forth shape wanted cells now after marks page n figures next (Set old) (Some c) is room counted skipped so_far done =
    is_set_to shape wanted cells now after marks page n figures next (Set old) room counted skipped so_far c old refl is done.0 done.1 done.2 done.3

-- the voxel whose set was refused is the first that passes the limit
pub turn_refused : (shape : Shape) (wanted : ℕ → Option Cell) (cells now after : ℕ → Cell) (marks page : List ℕ) (n : ℕ) (figures : Swept) (r : Refusal) (w : Option Cell) → wanted n ≡ w → n < voxel_count shape.depth → Sweeping shape wanted cells now marks page n figures → VisitDone shape now after n w (Err r) → (refused (number_of r.reason) r.place ≡ sweep_answer shape wanted cells) × ((i : ℕ) → after i ≡ now i)
turn_refused shape wanted cells now after marks page n figures r None is inside so_far done = absurd done
turn_refused shape wanted cells now after marks page n figures r (Some c) is inside so_far done =
    let sets : is_set shape wanted cells n ≡ true = and_from (is_open shape n) (is_some (wanted n)) done.0 (ap is_some is) in
    let one : (i : ℕ) → put now n c i ≡ swept shape wanted cells (suc n) i =
    reached_forth shape wanted cells now n so_far.mid.reached c (sym (ap (λ w. became w (cells n)) is)) sets in
    let more : shape.limit < blocks_needed shape.depth (swept shape wanted cells (suc n)) = omega (arith, same_blocks shape.depth (put now n c) (swept shape wanted cells (suc n)) one, done.4) in
    (ap₂ refused done.1 done.2 ∙ sym (past_refused shape wanted cells n inside sets so_far.mid.fitted more), done.3)

-- before the first voxel
pub sweep_starts : (shape : Shape) (wanted : ℕ → Option Cell) (cells : ℕ → Cell) (marks : List ℕ) → ((i : ℕ) → in_range (cells i) ≡ true) → blocks_needed shape.depth cells ≤ shape.limit → Sweeping shape wanted cells cells marks marks 0 (record { set = 0; skipped = 0 })
unfolding count sum
sweep_starts shape wanted cells marks ranged fits = record {
  mid = record {
    ranged = ranged;
    reached = λ i. sym (swept_ahead shape wanted cells 0 i (omega arith));
    fitted = λ m h. fitted_starts shape wanted cells fits m h;
    kept = λ k h. absurd (omega arith);
  };
  ahead = λ k h. refl;
  sets = refl;
  skips = refl;
}

-- what a set of an open voxel to a cell in the range comes to
module _ (shape : Shape) (before after : ℕ → Cell) (i : ℕ) (c : Cell) (w : Option Cell) (is : w ≡ Some c) (free : is_open shape i ≡ true) (ranged : in_range c ≡ true) where
  pub visited_set : (old : Cell) → old ≡ before i → SetDone shape before i c (taken tt) after → VisitDone shape before after i w (Ok (Set old))
  visited_set old read done =
      let P : Option Cell → Type 0 = λ o. VisitDone shape before after i o (Ok (Set old)) in
      subst P (sym is) (free, read, done.leaves, set_fits shape before i c free ranged done.tells)

  pub visited_past : (r : Refusal) → SetDone shape before i c (refused (number_of r.reason) r.place) after → VisitDone shape before after i w (Err r)
  visited_past r done =
      let P : Option Cell → Type 0 = λ o. VisitDone shape before after i o (Err r) in
      let past = set_past shape before i c free ranged (number_of r.reason) r.place done.tells in
      subst P (sym is) (free, past.0, past.1, done.leaves, past.2)

-- a sweep that has come to the last voxel of which anything is said
module _ (shape : Shape) (wanted : ℕ → Option Cell) (cells now : ℕ → Cell) (marks page : List ℕ) (n : ℕ) (figures : Swept) (low : n ≤ voxel_count shape.depth) (so_far : Sweeping shape wanted cells now marks page n figures) (quiet : (k : ℕ) → n ≤ k → k < voxel_count shape.depth → wanted k ≡ None) where
  unset : (k : ℕ) → n ≤ k → k < voxel_count shape.depth → is_set shape wanted cells k ≡ false
  unset k past inside = and_right (is_open shape k) (is_some (wanted k)) (ap is_some (quiet k past inside))

  unskipped : (k : ℕ) → n ≤ k → k < voxel_count shape.depth → is_skipped shape wanted cells k ≡ false
  unskipped k past inside = and_right (not (is_open shape k)) (is_some (wanted k)) (ap is_some (quiet k past inside))

  pub sweep_ends : taken figures ≡ sweep_answer shape wanted cells
  sweep_ends =
      let all = voxel_count shape.depth in
      let within : (k : ℕ) → k < all → passes_limit shape wanted cells k ≡ false =
      λ k inside. ⊎_elim (λ before. within_limit shape wanted cells k (so_far.mid.fitted (suc k) (omega arith))) (λ past. unset_within shape wanted cells k (unset k past inside)) (cases_lt k n) in
      ap taken (figures_same figures.set figures.skipped _ _
      (so_far.sets ∙ sym (count_beyond n all (is_set shape wanted cells) low unset))
      (so_far.skips ∙ sym (count_beyond n all (is_skipped shape wanted cells) low unskipped)))
      ∙ sym (sweep_taken shape wanted cells within)

  pub ends_swept : (i : ℕ) → now i ≡ swept shape wanted cells (voxel_count shape.depth) i
  ends_swept i = so_far.mid.reached i ∙ swept_beyond shape wanted cells n (voxel_count shape.depth) low unset i

-- a map without voxels
module _ (shape : Shape) (wanted : ℕ → Option Cell) (cells : ℕ → Cell) (none : shape.depth ≡ 0) where
  no_voxel : voxel_count shape.depth ≡ 0
  no_voxel = ap voxel_count none

  pub nothing_swept : (i : ℕ) → cells i ≡ swept shape wanted cells (voxel_count shape.depth) i
  nothing_swept i = sym (swept_ahead shape wanted cells (voxel_count shape.depth) i (omega (arith, no_voxel)))

  pub nothing_told : taken (record { set = 0; skipped = 0 }) ≡ sweep_answer shape wanted cells
  unfolding count sum
  nothing_told =
      ap taken (figures_same 0 0 _ _ (sym (ap (λ m. count m (is_set shape wanted cells)) no_voxel)) (sym (ap (λ m. count m (is_skipped shape wanted cells)) no_voxel)))
      ∙ sym (sweep_taken shape wanted cells (λ k h. absurd (omega (arith, h, no_voxel))))

-- the words before a voxel keep what the page keeps
pub kept_before : (shape : Shape) (wanted : ℕ → Option Cell) (cells now : ℕ → Cell) (page : List ℕ) (n : ℕ) → n ≤ length page → Midway shape wanted cells now page n → Midway shape wanted cells now (take n page) (length (take n page))
kept_before shape wanted cells now page n room mid =
    let long : length (take n page) ≡ n = length-take-le n page room in
    let P : ℕ → Type 0 = Midway shape wanted cells now (take n page) in
    subst P (sym long) (record {
      ranged = mid.ranged;
      reached = mid.reached;
      fitted = mid.fitted;
      kept = λ k h. get_or-take n page k 0 h ∙ mid.kept k h;
    })
