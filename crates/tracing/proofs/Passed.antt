-- The voxels that the crossings done so far leave, and the marks that say so.
use Rattle.std.proofs.Common.{◌≡◌, ℕ, zero, suc, ◌+◌, ◌/◌, ◌<◌, ◌≤◌, Bool, true, false, cond, ◌&&◌, ◌||◌, eqb, ltb, List, get_or, sym, refl, ap, ◌∙◌, ⊎_elim, add-one, arith, lit<}
use Rattle.std.proofs.lemmas.Bool.{cases_eq, lt-ltb, and_from, true_from_ne_false, false_from_ne_true, both_ways, cond-true, cond-false, ne_eqb, eq-eqb}
use Rattle.std.proofs.lemmas.Bool.Decides.{nat_tests}
use Rattle.voxels.specs.Bounded.{some}
use Rattle.voxels.specs.Space.{in_map, voxel_at, voxel_count, voxel_of, side}
use Rattle.voxels.proofs.Bounds.{some_same, some_none, count_le}
use Rattle.voxels.specs.declared.space.Position.{Position}
use Rattle.voxels.specs.declared.space.Voxel.{Voxel}
use Rattle.tracing.specs.Lines.{tick, crossings, before, along, earlier, leaves, passes, same_voxel}
use Rattle.tracing.specs.Marks.{passed_mark, traceable}
use Rattle.tracing.specs.Walks.{marked_word, walk_at, current_voxel}
use Rattle.tracing.proofs.Order.{Progress, First, bump, earlier_is, own_order, count_cut, not_itself, not_both}

-- one more chance at one number below 3
some_bump : (s : ℕ) (f g : ℕ → Bool) (here : Bool) → s < 3 → ((a : ℕ) → (a ≡ s → ⊥) → g a ≡ f a) → g s ≡ (here || f s) → some 3 g ≡ (here || some 3 f)
unfolding some
some_bump zero f g here h others at = grind (arith, nat_tests, others 1 (λ e. omega arith), others 2 (λ e. omega arith), at)
some_bump (suc zero) f g here h others at = grind (arith, nat_tests, others 0 (λ e. omega arith), others 2 (λ e. omega arith), at)
some_bump (suc (suc zero)) f g here h others at = grind (arith, nat_tests, others 0 (λ e. omega arith), others 1 (λ e. omega arith), at)
some_bump (suc (suc (suc s))) f g here h others at = absurd (omega arith)

pub voxel_same : (v w : Voxel) → v ≡ w → same_voxel v w ≡ true
voxel_same v w e = grind (arith, nat_tests)

pub same_voxel_lem : (v w : Voxel) → same_voxel v w ≡ true → v ≡ w
same_voxel_lem v w h = grind (arith, nat_tests)

module _ (o p : Position) where
  -- some of the crossings done leaves v
  unfoldable pub left_by : (ℕ → ℕ) → Voxel → Bool
  left_by n v = some 3 (λ a. some (n a) (λ j. same_voxel (leaves o p a j) v))

  pub left_none : (v : Voxel) → left_by (λ _. 0) v ≡ false
  unfolding left_by some
  left_none v = refl

  pub left_all : (n : ℕ → ℕ) → ((a : ℕ) → a < 3 → n a ≡ crossings o p a) → (v : Voxel) → left_by n v ≡ passes o p v
  unfolding left_by passes
  left_all n whole v = some_same 3 (λ a. some (n a) (λ j. same_voxel (leaves o p a j) v)) (λ a. some (crossings o p a) (λ j. same_voxel (leaves o p a j) v)) (λ a h. ap (λ m. some m (λ j. same_voxel (leaves o p a j) v)) (whole a h))

  -- the crossing that comes next leaves the voxel that the walk is in
  pub leaves_next : (n : ℕ → ℕ) (s : ℕ) → Progress o p n → First o p n s → leaves o p s (n s) ≡ current_voxel (walk_at o p n)
  leaves_next n s progress first =
      let x = earlier_is o p n s progress first 0 (lit< tt) in
      let y = earlier_is o p n s progress first 1 (lit< tt) in
      let z = earlier_is o p n s progress first 2 (lit< tt) in
      cc

  pub left_more : (n : ℕ → ℕ) (s : ℕ) → Progress o p n → First o p n s → (v : Voxel) → left_by (bump s n) v ≡ (same_voxel (current_voxel (walk_at o p n)) v || left_by n v)
  unfolding left_by some
  left_more n s progress first v = some_bump s (λ a. leaving a (n a)) (λ a. leaving a (bump s n a)) (same_voxel (current_voxel (walk_at o p n)) v) first.axis others last
    where
      leaving : ℕ → ℕ → Bool
      leaving a m = some m (λ j. same_voxel (leaves o p a j) v)

      others : (a : ℕ) → (a ≡ s → ⊥) → leaving a (bump s n a) ≡ leaving a (n a)
      others a apart = ap (leaving a) (cond-false (eqb a s) (n a + 1) (n a) (ne_eqb a s apart))

      last : leaving s (bump s n s) ≡ (same_voxel (current_voxel (walk_at o p n)) v || leaving s (n s))
      last =
          let more : bump s n s ≡ suc (n s) = cond-true (eqb s s) (n s + 1) (n s) (eq-eqb s s refl) ∙ add-one (n s) in
          ap (leaving s) more ∙ ap (λ (w : Voxel). same_voxel w v || leaving s (n s)) (leaves_next n s progress first)

  -- the word at an index after the crossings done
  abbrev pub word_after : ℕ → List ℕ → (ℕ → ℕ) → ℕ → ℕ
  word_after depth page n i = cond (ltb i (voxel_count depth) && left_by n (voxel_at depth i)) (passed_mark (get_or page i 0)) (get_or page i 0)

  pub word_more : (depth : ℕ) (page old new : List ℕ) (n : ℕ → ℕ) (s i : ℕ) → Progress o p n → First o p n s → get_or old i 0 ≡ word_after depth page n i → get_or new i 0 ≡ marked_word depth (current_voxel (walk_at o p n)) old i → get_or new i 0 ≡ word_after depth page (bump s n) i
  word_more depth page old new n s i progress first before-it marked = grind (arith, nat_tests, left_more n s progress first (voxel_at depth i))

  -- nothing that no crossing leaves is passed
  not_passed : (v : Voxel) → ((a j : ℕ) → a < 3 → j < crossings o p a → leaves o p a j ≡ v → ⊥) → passes o p v ≡ false
  unfolding passes
  not_passed v none =
      some_none 3 (λ a. some (crossings o p a) (λ j. same_voxel (leaves o p a j) v)) (λ a axis.
      some_none (crossings o p a) (λ j. same_voxel (leaves o p a j) v) (λ j h.
      false_from_ne_true _ (λ e. none a j axis h (same_voxel_lem (leaves o p a j) v e))))

  own_earlier : (a j : ℕ) → j < crossings o p a → earlier o p a j a ≡ j
  unfolding earlier
  own_earlier a j h =
      count_cut (crossings o p a) j (λ k. before o p a k a j) (omega arith)
      (λ k below. own_order o p a k j below h)
      (λ k above within.
      ⊎_elim
      (λ (e : k ≡ j). rw e (not_itself o p a j))
      (λ (e : k ≡ j → ⊥). not_both o p a j a k (own_order o p a j k (omega arith) within))
      (cases_eq k j))

  -- on its own axis crossing j leaves a voxel that is j along
  own_along : (a j : ℕ) → a < 3 → j < crossings o p a → leaves o p a j ≡ voxel_of p → along o p a j ≡ tick a p / 64
  own_along zero j axis h same = ap (along o p 0) (sym (own_earlier 0 j h)) ∙ ap (λ (v : Voxel). v.x) same
  own_along (suc zero) j axis h same = ap (along o p 1) (sym (own_earlier 1 j h)) ∙ ap (λ (v : Voxel). v.y) same
  own_along (suc (suc zero)) j axis h same = ap (along o p 2) (sym (own_earlier 2 j h)) ∙ ap (λ (v : Voxel). v.z) same
  own_along (suc (suc (suc a))) j axis h same = absurd (omega arith)

  short : (a j : ℕ) → j < crossings o p a → along o p a j ≡ tick a p / 64 → ⊥
  short a j h e = grind (arith, nat_tests)

  pub end_not_passed : passes o p (voxel_of p) ≡ false
  end_not_passed = not_passed (voxel_of p) (λ a j axis h same. short a j h (own_along a j axis h same))

  along_below : (a m size : ℕ) → m ≤ crossings o p a → tick a o / 64 < size → tick a p / 64 < size → along o p a m < size
  along_below a m size h from to = grind (arith, nat_tests)

  ends_below : (depth : ℕ) (q : Position) → in_map depth (voxel_of q) ≡ true → (a : ℕ) → tick a q / 64 < side depth
  ends_below depth q h zero = grind (arith, nat_tests)
  ends_below depth q h (suc zero) = grind (arith, nat_tests)
  ends_below depth q h (suc (suc a)) = grind (arith, nat_tests)

  module _ (depth : ℕ) (page : List ℕ) (traced : traceable depth o p page ≡ true) where
    pub from_below : (a : ℕ) → tick a o / 64 < side depth
    from_below a = ends_below depth o (grind (arith, nat_tests)) a

    pub to_below : (a : ℕ) → tick a p / 64 < side depth
    to_below a = ends_below depth p (grind (arith, nat_tests)) a

    leaves_inside : (a j : ℕ) → in_map depth (leaves o p a j) ≡ true
    unfolding earlier
    leaves_inside a j =
        let below : (b : ℕ) → ltb (along o p b (earlier o p a j b)) (side depth) ≡ true =
        λ b. lt-ltb _ _ (along_below b (earlier o p a j b) (side depth) (count_le (crossings o p b) (λ k. before o p b k a j)) (from_below b) (to_below b)) in
        and_from _ _ (and_from _ _ (below 0) (below 1)) (below 2)

    pub passes_inside : (v : Voxel) → passes o p v ≡ true → in_map depth v ≡ true
    passes_inside v h =
        true_from_ne_false _ (λ outside.
        both_ways _ (not_passed v (λ a j axis within same. both_ways _ outside (ap (in_map depth) (sym same) ∙ leaves_inside a j))) h)
