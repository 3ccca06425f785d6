-- What check and load answer: malformed just where no map writes the body, and the same bytes written again.
use Rattle.std.proofs.Common.{◌≡◌, ℕ, ◌+◌, ◌^◌, ◌<◌, ◌≤◌, Bool, true, false, cond, not, ◌&&◌, leb, List, get_or, is_some, Some, None, Option, sym, refl, ap, ◌∙◌, subst, ⊎_elim, arith}
use Rattle.std.proofs.lemmas.Bool.{and_from, both_ways, cases_Bool, cases_lt, cond-true, cond-false, le-leb, lt-ltb, true≢false}
use Rattle.voxels.specs.Bounded.{count, first, some}
use Rattle.voxels.specs.Cells.{state_of}
use Rattle.voxels.specs.Refusals.{Told, taken, refused}
use Rattle.voxels.specs.Space.{is_depth, voxel_count}
use Rattle.voxels.specs.declared.cells.Cell.{Cell}
use Rattle.voxels.specs.declared.cells.Cell as cell
use Rattle.voxels.specs.declared.cells.State.{State}
use Rattle.voxels.specs.declared.cells.State.TheVariants.{Unknown, Free, Occupied}
use Rattle.voxels.proofs.Blocks.{count_depth, map_depth}
use Rattle.voxels.proofs.Bounds.{count_zero, some_fails, some_none}
use Rattle.voxels.proofs.WorkPages.{over_enough}
use Rattle.stores.specs.Sets.{is_open}
use Rattle.stores.specs.Shapes.{Shape}
use Rattle.stores.specs.declared.visits.Swept.{Swept}
use Rattle.stores.specs.Sweeps.{became, is_skipped, passes_limit, past_or, sweep_answer, swept}
use Rattle.stores.proofs.Sweeps.{same_sweep, same_swept}
use Rattle.bodies.specs.Bodies.{map_body}
use Rattle.bodies.specs.Codes.{state_code}
use Rattle.bodies.specs.Loads.{MalformedExactly, body_answer, check_answer, is_known, judged, load_answer, state_cell, states_answer, wanted_by, word_cell, word_cells}
use Rattle.bodies.specs.Readings.{read_body}
use Rattle.bodies.specs.Theorems.{ExactlyMaps, Writable, is_malformed, listed}
use Rattle.bodies.proofs.Accepted.{accepted_writable, taken_again}
use Rattle.bodies.proofs.BodyParts.{body_same}
use Rattle.bodies.proofs.Packing.{Bytes}
use Rattle.bodies.proofs.ReadFacts.{refused_number}
use Rattle.bodies.proofs.UniformCubes.{state_back}
use Rattle.bodies.proofs.Written.{reads_back}

-- words that have the states' codes say what the states do
words_say : (words : List ℕ) (states : List State) (n : ℕ) → ((i : ℕ) → i < n → get_or words i 0 ≡ state_code (listed states i)) → (i : ℕ) → i < n → word_cells words i ≡ wanted_by states i
words_say words states n coded i h = ap word_cell (coded i h) ∙ ap state_cell (state_back (listed states i))

module _ (shape : Shape) (cells : ℕ → Cell) (words : List ℕ) (states : List State) (coded : (i : ℕ) → i < voxel_count shape.depth → get_or words i 0 ≡ state_code (listed states i)) where
  pub words_answer : sweep_answer shape (word_cells words) cells ≡ sweep_answer shape (wanted_by states) cells
  words_answer = same_sweep shape cells (word_cells words) (wanted_by states) (words_say words states (voxel_count shape.depth) coded)

  pub words_swept : (i : ℕ) → swept shape (word_cells words) cells (voxel_count shape.depth) i ≡ swept shape (wanted_by states) cells (voxel_count shape.depth) i
  words_swept = same_swept shape cells (word_cells words) (wanted_by states) (words_say words states (voxel_count shape.depth) coded) (voxel_count shape.depth)

-- what a map writes is taken
writable_taken : (depth : ℕ) (body : List ℕ) → Writable depth body → (states : List State) × (read_body depth body ≡ taken states)
writable_taken depth body w =
    let back = reads_back depth w.cells w.map.is_map in
    (back.0, ap (read_body depth) (sym w.writes) ∙ back.1)

pub check_depth : (depth : ℕ) (body : List ℕ) → is_depth depth ≡ true → check_answer depth body ≡ judged (read_body depth body)
unfolding check_answer
check_depth depth body is = cond-true _ _ _ is

pub check_none : (depth : ℕ) (body : List ℕ) → is_depth depth ≡ false → check_answer depth body ≡ refused 1 0
unfolding check_answer
check_none depth body no-map = cond-false _ _ _ no-map

judged_taken : (told : Told (List State)) → judged told ≡ taken tt → (states : List State) × (told ≡ taken states)
judged_taken (taken states) e = (states, refl)
judged_taken (refused number place) e = let z : ◌≡◌ {A = ℕ} 0 1 = cc in absurd (omega arith)

-- a check takes exactly what some map writes
pub check_exact : (depth : ℕ) (body : List ℕ) → Bytes body → ExactlyMaps depth body (check_answer depth body)
check_exact depth body bytes = (
  λ w. check_depth depth body w.map.is_map ∙ ap judged (writable_taken depth body w).1,
  λ e. ⊎_elim
      (λ is.
      let r = judged_taken (read_body depth body) (sym (check_depth depth body is) ∙ e) in
      accepted_writable depth body r.0 is bytes r.1)
      (λ no-map. let none : refused 1 0 ≡ taken tt = sym (check_none depth body no-map) ∙ e in let z : ◌≡◌ {A = ℕ} 0 1 = cc in absurd (omega arith))
      (cases_Bool (is_depth depth)),
)

past_sound : (o : Option ℕ) (figures : Swept) → is_malformed (past_or o figures) ≡ false
past_sound None figures = refl
past_sound (Some i) figures = refl

-- a sweep calls no body malformed
sweep_sound : (shape : Shape) (wanted : ℕ → Option Cell) (cells : ℕ → Cell) → is_malformed (sweep_answer shape wanted cells) ≡ false
unfolding sweep_answer
sweep_sound shape wanted cells = past_sound (first (voxel_count shape.depth) (passes_limit shape wanted cells)) _

refused_malformed : (number place : ℕ) → (9 ≤ number) × (number ≤ 12) → is_malformed {A = Swept} (refused number place) ≡ true
refused_malformed number place within = and_from (leb 9 number) (leb number 12) (le-leb 9 number within.0) (le-leb number 12 within.1)

-- by what the body was read as
states_exact : (shape : Shape) (cells : ℕ → Cell) (body : List ℕ) (told : Told (List State)) → is_depth shape.depth ≡ true → Bytes body → read_body shape.depth body ≡ told → (is_malformed (states_answer shape cells told) ≡ true → Writable shape.depth body → ⊥) × (is_malformed (states_answer shape cells told) ≡ false → Writable shape.depth body)
states_exact shape cells body (taken states) is bytes e = (
  λ bad w. both_ways _ (sweep_sound shape (wanted_by states) cells) bad,
  λ good. accepted_writable shape.depth body states is bytes e,
)
states_exact shape cells body (refused number place) is bytes e = (
  λ bad w. let ok = (writable_taken shape.depth body w).1 in let z : ◌≡◌ {A = ℕ} 0 1 = cc in absurd (omega arith),
  λ good. absurd (both_ways _ good (refused_malformed number place (refused_number shape.depth body number place e))),
)

-- by whether a cell is known
module _ (shape : Shape) (cells : ℕ → Cell) (body : List ℕ) where
  pub load_known : some (voxel_count shape.depth) (λ i. is_known (cells i)) ≡ true → body_answer shape cells body ≡ refused 8 0
  load_known known = cond-true (some (voxel_count shape.depth) (λ i. is_known (cells i))) _ _ known

  -- into an empty map it rests on the body alone
  pub load_states : ((i : ℕ) → cells i ≡ Cell.Unknown) → body_answer shape cells body ≡ states_answer shape cells (read_body shape.depth body)
  load_states empty = cond-false (some (voxel_count shape.depth) (λ i. is_known (cells i))) _ _ (some_none (voxel_count shape.depth) (λ i. is_known (cells i)) (λ i h. ap is_known (empty i)))

known_not : (c : Cell) → is_known c ≡ false → c ≡ Cell.Unknown
known_not cell.TheVariants.Unknown e = refl
known_not (cell.TheVariants.Known v) e = absurd (true≢false e)

-- where no cell of the map is known none is anywhere
pub all_unknown : (depth : ℕ) (cells : ℕ → Cell) → ((i : ℕ) → voxel_count depth ≤ i → cells i ≡ Cell.Unknown) → some (voxel_count depth) (λ i. is_known (cells i)) ≡ false → (i : ℕ) → cells i ≡ Cell.Unknown
all_unknown depth cells outside none i =
    ⊎_elim
    (λ inside. known_not (cells i) (some_fails (voxel_count depth) (λ k. is_known (cells k)) none i inside))
    (λ past. outside i past)
    (cases_lt i (voxel_count depth))

pub load_exact : (shape : Shape) (cells : ℕ → Cell) (words : ℕ) (body : List ℕ) → shape.depth ≤ 5 → Bytes body → MalformedExactly shape.depth cells words body (load_answer shape cells words body)
load_exact shape cells words body deep bytes above long empty =
    let is : is_depth shape.depth ≡ true = map_depth shape.depth above deep in
    let P : Told Swept → Type 0 = λ told. (is_malformed told ≡ true → Writable shape.depth body → ⊥) × (is_malformed told ≡ false → Writable shape.depth body) in
    subst P (sym (over_enough shape.depth words (body_answer shape cells body) above long ∙ load_states shape cells body empty)) (states_exact shape cells body (read_body shape.depth body) is bytes refl)

-- an unknown voxel that is not skipped gets its state
placed_state : (s : State) (open? : Bool) (c : Cell) → c ≡ Cell.Unknown → (not open? && is_some (state_cell s)) ≡ false → state_of (cond (open? && is_some (state_cell s)) (became (state_cell s) c) c) ≡ s
placed_state Unknown true c empty none = ap state_of empty
placed_state Unknown false c empty none = ap state_of empty
placed_state Free true c empty none = refl
placed_state Free false c empty none = absurd (both_ways _ none refl)
placed_state Occupied true c empty none = refl
placed_state Occupied false c empty none = absurd (both_ways _ none refl)

module _ (shape : Shape) (cells : ℕ → Cell) (states : List State) (empty : (i : ℕ) → cells i ≡ Cell.Unknown) (unskipped : count (voxel_count shape.depth) (is_skipped shape (wanted_by states) cells) ≡ 0) where
  -- an empty map that was loaded with nothing skipped has the states
  loaded_state : (i : ℕ) → i < voxel_count shape.depth → state_of (swept shape (wanted_by states) cells (voxel_count shape.depth) i) ≡ listed states i
  loaded_state i h =
      let open? = is_open shape i in
      let wanted = wanted_by states i in
      ap (λ b. state_of (cond (b && (open? && is_some wanted)) (became wanted (cells i)) (cells i))) (lt-ltb i (voxel_count shape.depth) h)
      ∙ placed_state (listed states i) open? (cells i) (empty i) (count_zero (voxel_count shape.depth) (is_skipped shape (wanted_by states) cells) unskipped i h)

  -- and is written as the bytes that were loaded
  pub loaded_again : (body : List ℕ) → is_depth shape.depth ≡ true → Bytes body → read_body shape.depth body ≡ taken states → map_body shape.depth (swept shape (wanted_by states) cells (voxel_count shape.depth)) ≡ body
  loaded_again body is bytes e =
      let same : (j : ℕ) → j < 8 ^ shape.depth → state_of (swept shape (wanted_by states) cells (voxel_count shape.depth) (0 + j)) ≡ listed states (0 + j) =
      λ j h. loaded_state (0 + j) (omega (arith, count_depth shape.depth is)) in
      body_same shape.depth (λ i. state_of (swept shape (wanted_by states) cells (voxel_count shape.depth) i)) 0 (listed states) 0 same ∙ taken_again shape.depth body states bytes e
