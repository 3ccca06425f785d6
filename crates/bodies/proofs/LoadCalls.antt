-- The load call: its answer and its cells from those of its parts.
use Rattle.std.proofs.Common.{◌≡◌, ℕ, ◌+◌, ◌^◌, ◌<◌, ◌≤◌, true, List, length, get_or, Some, None, Ok, Err, Option, Result, sym, refl, ap, ◌∙◌, subst, arith}
use Rattle.voxels.specs.Bounded.{count, first}
use Rattle.voxels.specs.Cells.{state_of}
use Rattle.voxels.specs.Refusals.{Told, taken, refused, number_of}
use Rattle.voxels.specs.Space.{is_depth, voxel_count}
use Rattle.voxels.specs.declared.cells.Cell.{Cell}
use Rattle.voxels.specs.declared.cells.Cell.TheVariants.{Unknown}
use Rattle.voxels.specs.declared.cells.State.{State}
use Rattle.voxels.specs.declared.refusals.Refusal.{Refusal}
use Rattle.voxels.proofs.Blocks.{count_depth, map_depth}
use Rattle.stores.specs.Shapes.{Shape}
use Rattle.stores.specs.declared.visits.Swept.{Swept}
use Rattle.stores.specs.Sweeps.{is_skipped, passes_limit, past_or, sweep_answer, swept, swept_cells}
use Rattle.bodies.specs.Codes.{state_code}
use Rattle.bodies.specs.Loads.{WritesSame, load_cells, states_answer, states_cells, wanted_by, word_cells}
use Rattle.bodies.specs.Readings.{read_body}
use Rattle.bodies.specs.Reads.{BodyRead}
use Rattle.bodies.specs.Theorems.{listed}
use Rattle.bodies.proofs.Accepted.{taken_long}
use Rattle.bodies.proofs.BodyParts.{body_same}
use Rattle.bodies.proofs.Loading.{loaded_again, words_answer, words_swept}
use Rattle.bodies.proofs.Packing.{Bytes}
use Rattle.bodies.proofs.WholeBodies.{body_taken_as, body_refused_as}

-- a body read into the words of a page that is long enough
module _ (depth held : ℕ) (body before after : List ℕ) (same : held ≡ depth) (low : 1 ≤ depth) (high : depth ≤ 5) where
  as_held : (r : Result (Unit {0}) Refusal) → BodyRead (read_body held body) before after held r → BodyRead (read_body depth body) before after depth r
  as_held r read_so = let P : ℕ → Type 0 = λ d. BodyRead (read_body d body) before after d r in subst P same read_so

  whole : voxel_count depth ≡ 8 ^ depth
  whole = count_depth depth (map_depth depth low high)

  -- the states stand in the words of their voxels, and the words behind are as they were
  pub states_stand : (u : Unit {0}) → voxel_count depth ≤ length before → BodyRead (read_body held body) before after held (Ok u) → (states : List State) × (read_body depth body ≡ taken states) × ((i : ℕ) → i < voxel_count depth → get_or after i 0 ≡ state_code (listed states i)) × ((k : ℕ) → voxel_count depth ≤ k → get_or after k 0 ≡ get_or before k 0)
  states_stand u room read_so =
      let got = body_taken_as (read_body depth body) before after depth u (as_held (Ok u) read_so) in
      let long = taken_long depth body got.0 got.1 in
      let front : (i : ℕ) → 0 + i ≡ i = λ i. omega arith in (
        got.0,
        got.1,
        (λ i h. ap (λ k. get_or after k 0) (sym (front i)) ∙ got.2.inside i (omega (arith, long, whole)) (omega arith)),
        (λ k past. got.2.behind k (omega (arith, long, whole))),
      )

  pub states_refused : (e : Refusal) → BodyRead (read_body held body) before after held (Err e) → (read_body depth body ≡ refused (number_of e.reason) e.place) × ((k : ℕ) → voxel_count depth ≤ k → get_or after k 0 ≡ get_or before k 0)
  states_refused e read_so =
      let got = body_refused_as (read_body depth body) before after depth e (as_held (Err e) read_so) in
      (got.0, λ k past. got.1.each k (omega (arith, whole)))

-- from the words that a sweep goes by to what the body says
module _ (shape : Shape) (cells : ℕ → Cell) (words : List ℕ) (body : List ℕ) (states : List State) (says : read_body shape.depth body ≡ taken states) (coded : (i : ℕ) → i < voxel_count shape.depth → get_or words i 0 ≡ state_code (listed states i)) where
  pub states_answer_lem : sweep_answer shape (word_cells words) cells ≡ states_answer shape cells (read_body shape.depth body)
  states_answer_lem = words_answer shape cells words states coded ∙ sym (ap (states_answer shape cells) says)

  pub states_cells_lem : (t : Told Swept) (i : ℕ) → swept_cells shape (word_cells words) cells t i ≡ load_cells shape cells t body i
  states_cells_lem (taken figures) i = words_swept shape cells words states coded i ∙ sym (ap (λ x. states_cells shape cells x i) says)
  states_cells_lem (refused number place) i = refl

past_figures : (o : Option ℕ) (figures told-so : Swept) → taken told-so ≡ past_or o figures → told-so.skipped ≡ figures.skipped
past_figures None figures told-so e = let same : told-so ≡ figures = cc in ap (λ (f : Swept). f.skipped) same
past_figures (Some i) figures told-so e = absurd (let z : ◌≡◌ {A = ℕ} 0 1 = cc in omega arith)

skipped_count : (shape : Shape) (wanted : ℕ → Option Cell) (cells : ℕ → Cell) (figures : Swept) → taken figures ≡ sweep_answer shape wanted cells → figures.skipped ≡ count (voxel_count shape.depth) (is_skipped shape wanted cells)
unfolding sweep_answer
skipped_count shape wanted cells figures e = past_figures (first (voxel_count shape.depth) (passes_limit shape wanted cells)) _ figures e

-- what an empty map took with nothing skipped is written as the same bytes
pub loaded_same : (shape : Shape) (cells after : ℕ → Cell) (body : List ℕ) (states : List State) (t : Told Swept) → ((i : ℕ) → cells i ≡ Unknown) → is_depth shape.depth ≡ true → Bytes body → read_body shape.depth body ≡ taken states → t ≡ states_answer shape cells (read_body shape.depth body) → ((i : ℕ) → after i ≡ load_cells shape cells t body i) → WritesSame shape.depth after body t
loaded_same shape cells after body states (taken figures) empty is bytes says answer left =
    λ none.
    let swept-so = swept shape (wanted_by states) cells (voxel_count shape.depth) in
    let skipped = skipped_count shape (wanted_by states) cells figures (answer ∙ ap (states_answer shape cells) says) in
    let each : (i : ℕ) → after i ≡ swept-so i = λ i. left i ∙ ap (λ x. states_cells shape cells x i) says in
    body_same shape.depth (λ i. state_of (after i)) 0 (λ i. state_of (swept-so i)) 0 (λ j h. ap state_of (each (0 + j)))
    ∙ loaded_again shape cells states empty (sym skipped ∙ none) body is bytes says
loaded_same shape cells after body states (refused number place) empty is bytes says answer left = tt
