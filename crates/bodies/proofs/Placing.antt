-- The turns of a load that sets each voxel to what it is to become.
use Rattle.std.proofs.Common.{◌≡◌, ℕ, suc, ◌+◌, ◌<◌, ◌≤◌, Bool, true, false, cond, not, is_some, Some, None, Ok, Err, Option, sym, refl, ap, ◌∙◌, subst, ap₂, add-one, arith}
use Rattle.std.proofs.lemmas.Bool.{and_from, and_left, and_right, cond-true, cond-false, not_from_true, not_from_false}
use Rattle.voxels.specs.Bounded.{count, sum}
use Rattle.voxels.specs.Cells.{in_range, put}
use Rattle.voxels.specs.Cubes.{blocks_needed}
use Rattle.voxels.specs.Refusals.{taken, refused, number_of}
use Rattle.voxels.specs.Space.{voxel_count}
use Rattle.voxels.specs.declared.cells.Cell.{Cell}
use Rattle.voxels.specs.declared.cells.State.{State}
use Rattle.voxels.specs.declared.cells.State as state
use Rattle.voxels.specs.declared.refusals.Refusal.{Refusal}
use Rattle.voxels.proofs.Bounds.{count_more}
use Rattle.stores.specs.Sets.{SetDone, is_open}
use Rattle.stores.specs.Shapes.{Shape}
use Rattle.stores.specs.Sweeps.{became, is_set, is_skipped, sweep_answer, swept}
use Rattle.stores.proofs.SetAnswers.{set_fits, set_past}
use Rattle.stores.proofs.Sweeps.{fitted_forth, fitted_starts, fitted_stays, past_refused, reached_cell, reached_forth, same_blocks, swept_ahead, swept_stays}
use Rattle.bodies.specs.Codes.{code_state}
use Rattle.bodies.specs.Loads.{PlaceDone, Placing, set_by, skipped_by, state_cell, word_cell}
use Rattle.stores.specs.declared.visits.Swept.{Swept}
use Rattle.bodies.specs.declared.loads.Placed.{Placed}
use Rattle.bodies.specs.declared.loads.Placed.TheVariants.{Nothing, Skipped, Set}

abbrev Ranged : Option Cell → Type 0
Ranged None = Unit {0}
Ranged (Some c) = in_range c ≡ true

state_ranged : (s : State) → Ranged (state_cell s)
state_ranged state.TheVariants.Unknown = tt
state_ranged state.TheVariants.Free = refl
state_ranged state.TheVariants.Occupied = refl

-- the cell of a word is in the range
word_ranged : (word : ℕ) (c : Cell) → Some c ≡ word_cell word → in_range c ≡ true
word_ranged word c is = subst Ranged (sym is) (state_ranged (code_state word))

-- what a set of an open voxel to its word's cell comes to
module _ (shape : Shape) (before after : ℕ → Cell) (i word : ℕ) (c : Cell) (is : Some c ≡ word_cell word) (free : true ≡ is_open shape i) where
  pub placed_set : SetDone shape before i c (taken tt) after → PlaceDone shape before after i (word_cell word) (Ok Set)
  placed_set done =
      let P : Option Cell → Type 0 = λ o. PlaceDone shape before after i o (Ok Set) in
      subst P is (refl, sym free, done.leaves, set_fits shape before i c (sym free) (word_ranged word c is) done.tells)

  pub placed_past : (r : Refusal) → SetDone shape before i c (refused (number_of r.reason) r.place) after → PlaceDone shape before after i (word_cell word) (Err r)
  placed_past r done =
      let P : Option Cell → Type 0 = λ o. PlaceDone shape before after i o (Err r) in
      let past = set_past shape before i c (sym free) (word_ranged word c is) (number_of r.reason) r.place done.tells in
      subst P is (refl, sym free, past.0, past.1, past.2)

module _ (shape : Shape) (wanted : ℕ → Option Cell) (cells now after : ℕ → Cell) (n : ℕ) (loaded next : Swept) (placed : Placed) (counted : next.set ≡ loaded.set + set_by placed) (skipped : next.skipped ≡ loaded.skipped + skipped_by placed) (so_far : Placing shape wanted cells now n loaded) where
  abbrev at : ℕ → ℕ → Cell
  at = swept shape wanted cells

  abbrev sets_at : ℕ → Bool
  sets_at = is_set shape wanted cells

  abbrev skips_at : ℕ → Bool
  skips_at = is_skipped shape wanted cells

  forth : cond (sets_at n) 1 0 ≡ set_by placed → cond (skips_at n) 1 0 ≡ skipped_by placed → ((i : ℕ) → after i ≡ at (suc n) i) → blocks_needed shape.depth (at (suc n)) ≤ shape.limit → Placing shape wanted cells after (n + 1) next
  forth sets skips reached fits = record {
    reached = λ i. reached i ∙ ap (λ m. at m i) (sym (add-one n));
    fitted = λ m h. fitted_forth shape wanted cells n so_far.fitted fits m (omega arith);
    sets = omega (arith, counted, so_far.sets, count_more n sets_at, sets);
    skips = omega (arith, skipped, so_far.skips, count_more n skips_at, skips);
  }

  not_set : sets_at n ≡ false → set_by placed ≡ 0 → cond (skips_at n) 1 0 ≡ skipped_by placed → ((i : ℕ) → after i ≡ now i) → Placing shape wanted cells after (n + 1) next
  not_set none sets skips same =
      forth
      (cond-false (sets_at n) 1 0 none ∙ sym sets)
      skips
      (λ i. same i ∙ so_far.reached i ∙ sym (swept_stays shape wanted cells n i none))
      (fitted_stays shape wanted cells n none (so_far.fitted n (omega arith)))

-- a set of what the voxel is to become is one voxel more
placed_forth : (shape : Shape) (wanted : ℕ → Option Cell) (cells now : ℕ → Cell) (n : ℕ) (loaded : Swept) → Placing shape wanted cells now n loaded → is_set shape wanted cells n ≡ true → (i : ℕ) → put now n (became (wanted n) (now n)) i ≡ swept shape wanted cells (suc n) i
placed_forth shape wanted cells now n loaded so_far is =
    reached_forth shape wanted cells now n so_far.reached (became (wanted n) (now n)) (ap (became (wanted n)) (reached_cell shape wanted cells now n so_far.reached)) is

-- one turn, by what the placing of its voxel came to
pub turn_placed : (shape : Shape) (wanted : ℕ → Option Cell) (cells now after : ℕ → Cell) (n : ℕ) (loaded next : Swept) (placed : Placed) → next.set ≡ loaded.set + set_by placed → next.skipped ≡ loaded.skipped + skipped_by placed → Placing shape wanted cells now n loaded → PlaceDone shape now after n (wanted n) (Ok placed) → Placing shape wanted cells after (n + 1) next
turn_placed shape wanted cells now after n loaded next Nothing counted skipped so_far done =
    let open? = is_open shape n in
    let some? = is_some (wanted n) in
    not_set shape wanted cells now after n loaded next Nothing counted skipped so_far
    (and_right open? some? done.0) refl (cond-false _ 1 0 (and_right (not open?) some? done.0)) done.1
turn_placed shape wanted cells now after n loaded next Skipped counted skipped so_far done =
    let open? = is_open shape n in
    let some? = is_some (wanted n) in
    not_set shape wanted cells now after n loaded next Skipped counted skipped so_far
    (and_left open? some? done.1) refl (cond-true _ 1 0 (and_from (not open?) some? (not_from_false open? done.1) done.0)) done.2
turn_placed shape wanted cells now after n loaded next Set counted skipped so_far done =
    let open? = is_open shape n in
    let is : is_set shape wanted cells n ≡ true = and_from open? _ done.1 done.0 in
    let one_more = placed_forth shape wanted cells now n loaded so_far is in
    forth shape wanted cells now after n loaded next Set counted skipped so_far
    (cond-true _ 1 0 is)
    (cond-false _ 1 0 (and_left (not open?) (is_some (wanted n)) (not_from_true open? done.1)))
    (λ i. done.2 i ∙ one_more i)
    (omega (arith, same_blocks shape.depth (put now n (became (wanted n) (now n))) (swept shape wanted cells (suc n)) one_more, done.3))

-- the voxel whose set was refused is the first that passes the limit
pub turn_past : (shape : Shape) (wanted : ℕ → Option Cell) (cells now after : ℕ → Cell) (n : ℕ) (loaded : Swept) (r : Refusal) → n < voxel_count shape.depth → Placing shape wanted cells now n loaded → PlaceDone shape now after n (wanted n) (Err r) → refused (number_of r.reason) r.place ≡ sweep_answer shape wanted cells
turn_past shape wanted cells now after n loaded r inside so_far done =
    let is : is_set shape wanted cells n ≡ true = and_from _ _ done.1 done.0 in
    let one_more = placed_forth shape wanted cells now n loaded so_far is in
    ap₂ refused done.2 done.3
    ∙ sym (past_refused shape wanted cells n inside is so_far.fitted (omega (arith, same_blocks shape.depth (put now n (became (wanted n) (now n))) (swept shape wanted cells (suc n)) one_more, done.4)))

-- before the first voxel
pub placing_starts : (shape : Shape) (wanted : ℕ → Option Cell) (cells : ℕ → Cell) → blocks_needed shape.depth cells ≤ shape.limit → Placing shape wanted cells cells 0 (record { set = 0; skipped = 0 })
unfolding count sum
placing_starts shape wanted cells fits = record {
  reached = λ i. sym (swept_ahead shape wanted cells 0 i (omega arith));
  fitted = fitted_starts shape wanted cells fits;
  sets = refl;
  skips = refl;
}
