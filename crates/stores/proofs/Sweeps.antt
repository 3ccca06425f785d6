-- The cells of a sweep from voxel to voxel, forth and back, and its answer.
use Rattle.std.proofs.Common.{◌≡◌, ℕ, suc, ◌<◌, ◌≤◌, Bool, true, false, cond, not, ◌&&◌, eqb, ltb, is_some, Option, sym, ap, ◌∙◌, subst, ap₂, ⊎_elim, arith}
use mathlib.Core.Path.{fun_ext}
use Rattle.std.proofs.lemmas.Bool.{and_from, and_left, and_right, cases_eq, cases_lt, cond-true, cond-false, eq-eqb, ne_eqb, lt-ltb, le-ltb}
use Rattle.voxels.specs.Bounded.{count}
use Rattle.voxels.specs.Cells.{put}
use Rattle.voxels.specs.Cubes.{blocks_needed}
use Rattle.voxels.specs.Refusals.{taken, refused}
use Rattle.voxels.specs.Space.{voxel_count}
use Rattle.voxels.specs.declared.cells.Cell.{Cell}
use Rattle.voxels.proofs.Bounds.{count_same, first_at, first_none, first_same}
use Rattle.stores.specs.Sets.{is_open}
use Rattle.stores.specs.Shapes.{Shape}
use Rattle.stores.specs.declared.visits.Swept.{Swept}
use Rattle.stores.specs.Sweeps.{became, is_set, is_skipped, passes_limit, past_or, sweep_answer, swept}

-- cells that are equal index by index need as many blocks
pub same_blocks : (depth : ℕ) (f g : ℕ → Cell) → ((i : ℕ) → f i ≡ g i) → blocks_needed depth f ≡ blocks_needed depth g
same_blocks depth f g same = ap (blocks_needed depth) (fun_ext same)

pub same_put : (f g : ℕ → Cell) (n : ℕ) (c : Cell) → ((i : ℕ) → f i ≡ g i) → (i : ℕ) → put f n c i ≡ put g n c i
same_put f g n c same i = ap (λ h. put h n c i) (fun_ext same)

pub put_here : (f : ℕ → Cell) (n : ℕ) (c : Cell) (i : ℕ) → i ≡ n → put f n c i ≡ c
put_here f n c i same = cond-true (eqb i n) c (f i) (eq-eqb i n same)

pub put_other : (f : ℕ → Cell) (n : ℕ) (c : Cell) (i : ℕ) → (i ≡ n → ⊥) → put f n c i ≡ f i
put_other f n c i other = cond-false (eqb i n) c (f i) (ne_eqb i n other)

pub figures_same : (a b c d : ℕ) → a ≡ c → b ≡ d → ◌≡◌ {A = Swept} (record { set = a; skipped = b }) (record { set = c; skipped = d })
figures_same a b c d p q = cc

module _ (shape : Shape) (wanted : ℕ → Option Cell) (cells : ℕ → Cell) where
  abbrev cells_at : ℕ → ℕ → Cell
  cells_at = swept shape wanted cells

  abbrev sets_at : ℕ → Bool
  sets_at = is_set shape wanted cells

  -- nothing is done yet at a voxel ahead
  pub swept_ahead : (n i : ℕ) → n ≤ i → cells_at n i ≡ cells i
  swept_ahead n i h = cond-false (ltb i n && sets_at i) _ _ (and_left (ltb i n) (sets_at i) (le-ltb i n h))

  -- a voxel more or less changes no other
  pub swept_other : (n i : ℕ) → (i ≡ n → ⊥) → cells_at (suc n) i ≡ cells_at n i
  swept_other n i other =
      ap (λ b. cond (b && sets_at i) (became (wanted i) (cells i)) (cells i))
      (⊎_elim (λ less. lt-ltb i (suc n) (omega arith) ∙ sym (lt-ltb i n less)) (λ more. le-ltb i (suc n) (omega arith) ∙ sym (le-ltb i n more)) (cases_lt i n))

  -- where nothing is set at it the cells stay
  pub swept_stays : (n i : ℕ) → sets_at n ≡ false → cells_at (suc n) i ≡ cells_at n i
  swept_stays n i none =
      ⊎_elim
      (λ same.
      let here : cells_at (suc n) n ≡ cells n = cond-false (ltb n (suc n) && sets_at n) _ _ (and_right (ltb n (suc n)) (sets_at n) none) in
      ap (cells_at (suc n)) same ∙ here ∙ sym (swept_ahead n n (omega arith)) ∙ sym (ap (cells_at n) same))
      (swept_other n i)
      (cases_eq i n)

  -- where it is set it has become what it is to
  pub swept_here : (n : ℕ) → sets_at n ≡ true → cells_at (suc n) n ≡ became (wanted n) (cells n)
  swept_here n is = cond-true (ltb n (suc n) && sets_at n) _ _ (and_from (ltb n (suc n)) (sets_at n) (lt-ltb n (suc n) (omega arith)) is)

  -- a set of what the voxel is to become is one voxel more
  pub swept_forth : (n i : ℕ) → sets_at n ≡ true → put (cells_at n) n (became (wanted n) (cells n)) i ≡ cells_at (suc n) i
  swept_forth n i is =
      ⊎_elim
      (λ same. put_here (cells_at n) n _ i same ∙ sym (swept_here n is) ∙ sym (ap (cells_at (suc n)) same))
      (λ other. put_other (cells_at n) n _ i other ∙ sym (swept_other n i other))
      (cases_eq i n)

  -- in cells that a sweep has brought to voxel n
  module _ (now : ℕ → Cell) (n : ℕ) (reached : (i : ℕ) → now i ≡ cells_at n i) where
    -- the voxel still has its cell
    pub reached_cell : now n ≡ cells n
    reached_cell = reached n ∙ swept_ahead n n (omega arith)

    -- a set of what it is to become is one voxel more
    pub reached_forth : (c : Cell) → c ≡ became (wanted n) (cells n) → sets_at n ≡ true → (i : ℕ) → put now n c i ≡ cells_at (suc n) i
    reached_forth c is sets i = ap (λ v. put now n v i) is ∙ same_put now (cells_at n) n (became (wanted n) (cells n)) reached i ∙ swept_forth n i sets

  -- nothing is set before the first voxel
  pub fitted_starts : blocks_needed shape.depth cells ≤ shape.limit → (m : ℕ) → m ≤ 0 → blocks_needed shape.depth (cells_at m) ≤ shape.limit
  fitted_starts fits m h = omega (arith, same_blocks shape.depth (cells_at m) cells (λ i. swept_ahead m i (omega arith)), fits)

  pub fitted_stays : (n : ℕ) → sets_at n ≡ false → blocks_needed shape.depth (cells_at n) ≤ shape.limit → blocks_needed shape.depth (cells_at (suc n)) ≤ shape.limit
  fitted_stays n none fits = omega (arith, same_blocks shape.depth (cells_at (suc n)) (cells_at n) (λ i. swept_stays n i none), fits)

  -- one voxel more that fits
  pub fitted_forth : (n : ℕ) → ((m : ℕ) → m ≤ n → blocks_needed shape.depth (cells_at m) ≤ shape.limit) → blocks_needed shape.depth (cells_at (suc n)) ≤ shape.limit → (m : ℕ) → m ≤ suc n → blocks_needed shape.depth (cells_at m) ≤ shape.limit
  fitted_forth n fitted fits m h =
      ⊎_elim
      (λ last. let P : ℕ → Type 0 = λ k. blocks_needed shape.depth (cells_at k) ≤ shape.limit in subst P (sym last) fits)
      (λ earlier. fitted m (omega arith))
      (cases_eq m (suc n))

  -- a set of the old cell is one voxel less
  pub swept_back : (n i : ℕ) → put (cells_at (suc n)) n (cells n) i ≡ cells_at n i
  swept_back n i =
      ⊎_elim
      (λ same. put_here (cells_at (suc n)) n _ i same ∙ sym (swept_ahead n n (omega arith)) ∙ sym (ap (cells_at n) same))
      (λ other. put_other (cells_at (suc n)) n _ i other ∙ swept_other n i other)
      (cases_eq i n)

  pub within_limit : (n : ℕ) → blocks_needed shape.depth (cells_at (suc n)) ≤ shape.limit → passes_limit shape wanted cells n ≡ false
  unfolding passes_limit
  within_limit n fits = and_right (sets_at n) _ (le-ltb shape.limit _ fits)

  pub unset_within : (n : ℕ) → sets_at n ≡ false → passes_limit shape wanted cells n ≡ false
  unfolding passes_limit
  unset_within n none = and_left (sets_at n) _ none

  -- voxels that are not set change nothing
  pub swept_beyond : (n m : ℕ) → n ≤ m → ((k : ℕ) → n ≤ k → k < m → sets_at k ≡ false) → (i : ℕ) → cells_at n i ≡ cells_at m i
  swept_beyond n m low none i =
      ⊎_elim
      (λ before. ap (λ b. cond (b && sets_at i) (became (wanted i) (cells i)) (cells i)) (lt-ltb i n before ∙ sym (lt-ltb i m (omega arith))))
      (λ past.
      swept_ahead n i past
      ∙ ⊎_elim
      (λ inside. sym (cond-false (ltb i m && sets_at i) _ _ (and_right (ltb i m) (sets_at i) (none i past inside))))
      (λ beyond. sym (swept_ahead m i beyond))
      (cases_lt i m))
      (cases_lt i n)

  pub past_limit : (n : ℕ) → sets_at n ≡ true → shape.limit < blocks_needed shape.depth (cells_at (suc n)) → passes_limit shape wanted cells n ≡ true
  unfolding passes_limit
  past_limit n is more = and_from (sets_at n) _ is (lt-ltb shape.limit _ more)

  pub sweep_taken : ((n : ℕ) → n < voxel_count shape.depth → passes_limit shape wanted cells n ≡ false) → sweep_answer shape wanted cells ≡ taken (record { set = count (voxel_count shape.depth) sets_at; skipped = count (voxel_count shape.depth) (is_skipped shape wanted cells) })
  unfolding sweep_answer
  sweep_taken none = ap (λ o. past_or o (record { set = count (voxel_count shape.depth) sets_at; skipped = count (voxel_count shape.depth) (is_skipped shape wanted cells) })) (first_none (voxel_count shape.depth) (passes_limit shape wanted cells) none)

  pub sweep_refused : (n : ℕ) → n < voxel_count shape.depth → passes_limit shape wanted cells n ≡ true → ((k : ℕ) → k < n → passes_limit shape wanted cells k ≡ false) → sweep_answer shape wanted cells ≡ refused 15 n
  unfolding sweep_answer
  sweep_refused n inside past before = ap (λ o. past_or o (record { set = count (voxel_count shape.depth) sets_at; skipped = count (voxel_count shape.depth) (is_skipped shape wanted cells) })) (first_at (voxel_count shape.depth) (passes_limit shape wanted cells) n inside past before)

  -- the voxel that does not fit where all before it did is refused
  pub past_refused : (n : ℕ) → n < voxel_count shape.depth → sets_at n ≡ true → ((m : ℕ) → m ≤ n → blocks_needed shape.depth (cells_at m) ≤ shape.limit) → shape.limit < blocks_needed shape.depth (cells_at (suc n)) → sweep_answer shape wanted cells ≡ refused 15 n
  past_refused n inside is fitted more = sweep_refused n inside (past_limit n is more) (λ k h. within_limit k (fitted (suc k) (omega arith)))

-- sweeps that want the same on the map have one effect
module _ (shape : Shape) (cells : ℕ → Cell) (wanted others : ℕ → Option Cell) (agree : (k : ℕ) → k < voxel_count shape.depth → wanted k ≡ others k) where
  pub same_swept : (n i : ℕ) → swept shape wanted cells n i ≡ swept shape others cells n i
  same_swept n i =
      ⊎_elim
      (λ inside. ap (λ w. cond (ltb i n && (is_open shape i && is_some w)) (became w (cells i)) (cells i)) (agree i inside))
      (λ past.
      let shut : is_open shape i ≡ false = and_left _ _ (le-ltb i (voxel_count shape.depth) past) in
      let none : (w : Option Cell) → cond (ltb i n && (is_open shape i && is_some w)) (became w (cells i)) (cells i) ≡ cells i =
      λ w. cond-false _ _ _ (and_right (ltb i n) (is_open shape i && is_some w) (and_left (is_open shape i) (is_some w) shut)) in
      none (wanted i) ∙ sym (none (others i)))
      (cases_lt i (voxel_count shape.depth))

  pub same_past : (k : ℕ) → k < voxel_count shape.depth → passes_limit shape wanted cells k ≡ passes_limit shape others cells k
  unfolding passes_limit
  same_past k inside =
      ap₂ (λ (w : Option Cell) (b : ℕ). (is_open shape k && is_some w) && ltb shape.limit b) (agree k inside)
      (same_blocks shape.depth (swept shape wanted cells (suc k)) (swept shape others cells (suc k)) (same_swept (suc k)))

  pub same_sweep : sweep_answer shape wanted cells ≡ sweep_answer shape others cells
  unfolding sweep_answer
  same_sweep =
      let n = voxel_count shape.depth in
      ap₂ past_or (first_same n (passes_limit shape wanted cells) (passes_limit shape others cells) same_past)
      (figures_same _ _ _ _
      (count_same n (is_set shape wanted cells) (is_set shape others cells) (λ k h. ap (λ w. is_open shape k && is_some w) (agree k h)))
      (count_same n (is_skipped shape wanted cells) (is_skipped shape others cells) (λ k h. ap (λ w. not (is_open shape k) && is_some w) (agree k h))))
