-- The order of a line's crossings.
use Rattle.std.proofs.Common.{◌≡◌, ℕ, zero, suc, ◌+◌, ◌*◌, ◌<◌, ◌≤◌, Bool, true, false, cond, eqb, sym, ⊎_elim, mul-le-mul_right, lt_of_mul-lt-mul_right, mul-lt-mul_of_pos_right, mul_right_comm, arith}
use Rattle.std.proofs.lemmas.Bool.{cases_eq, cases_lt}
use Rattle.std.proofs.lemmas.Bool.Decides.{nat_tests}
use Rattle.voxels.specs.Bounded.{sum, count}
use Rattle.voxels.specs.declared.space.Position.{Position}
use Rattle.tracing.specs.Lines.{crossings, reach, span, before, earlier}

-- how many numbers below n have q, where just those below m do
pub count_cut : (n m : ℕ) (q : ℕ → Bool) → m ≤ n → ((k : ℕ) → k < m → q k ≡ true) → ((k : ℕ) → m ≤ k → k < n → q k ≡ false) → count n q ≡ m
unfolding count sum
count_cut zero m q h below above = omega arith
count_cut (suc n) m q h below above =
    ⊎_elim
    (λ (whole : m ≡ suc n). grind (arith, nat_tests, count_cut n n q (omega arith) (λ k l. below k (omega arith)) (λ k l r. absurd (omega arith)), below n (omega arith)))
    (λ (part : m ≡ suc n → ⊥). grind (arith, nat_tests, count_cut n m q (omega arith) below (λ k l r. above k l (omega arith)), above n (omega arith) (omega arith)))
    (cases_eq m (suc n))

-- fractions in order, by their products: a / x < b / y ≤ c / z
pub fraction_order : (a x b y c z : ℕ) → 0 < z → a * y < b * x → b * z ≤ c * y → a * z < c * x
fraction_order a x b y c z pos less most =
    let left : a * y * z < b * x * z = mul-lt-mul_of_pos_right less pos in
    let right : b * z * x ≤ c * y * x = mul-le-mul_right x most in
    let all : a * z * y < c * x * y = omega (arith, left, right, mul_right_comm a y z, mul_right_comm b x z, mul_right_comm c y x) in
    lt_of_mul-lt-mul_right y all

-- one crossing of s more
abbrev pub bump : ℕ → (ℕ → ℕ) → ℕ → ℕ
bump s n a = cond (eqb a s) (n a + 1) (n a)

module _ (o p : Position) where
  pub reach_is : (a j : ℕ) → j ≤ crossings o p a → reach o p a j ≡ reach o p a 0 + 64 * j
  reach_is a j h = grind (arith, nat_tests)

  pub reach_more : (a j : ℕ) → j < crossings o p a → reach o p a (j + 1) ≡ reach o p a j + 64
  reach_more a j h = grind (arith, nat_tests)

  -- an axis with a crossing has a length
  pub span_above : (a j : ℕ) → j < crossings o p a → 0 < span o p a
  span_above a j h = omega arith

  pub not_both : (a j b k : ℕ) → before o p a j b k ≡ true → before o p b k a j ≡ false
  unfolding before
  not_both a j b k h = grind (arith, nat_tests)

  pub not_itself : (a j : ℕ) → before o p a j a j ≡ false
  unfolding before
  not_itself a j = grind (arith, nat_tests)

  pub not_before : (a j b k : ℕ) → reach o p b k * span o p a ≤ reach o p a j * span o p b → (reach o p a j * span o p b ≡ reach o p b k * span o p a → b ≤ a) → before o p a j b k ≡ false
  unfolding before
  not_before a j b k later tie = grind (arith, nat_tests)

  pub not_before_since : (a j b k : ℕ) → before o p a j b k ≡ false → reach o p b k * span o p a ≤ reach o p a j * span o p b
  unfolding before
  not_before_since a j b k h = grind (arith, nat_tests)

  -- of crossings of two axes one comes before the other
  one_before : (a j b k : ℕ) → (a ≡ b → ⊥) → before o p a j b k ≡ false → before o p b k a j ≡ true
  unfolding before
  one_before a j b k apart h = grind (arith, nat_tests)

  -- the crossings of an axis come in their order
  pub own_order : (a j k : ℕ) → j < k → k < crossings o p a → before o p a j a k ≡ true
  unfolding before
  own_order a j k h within =
      let sooner : reach o p a j < reach o p a k = omega (arith, reach_is a j (omega arith), reach_is a k (omega arith)) in
      let products : reach o p a j * span o p a < reach o p a k * span o p a = mul-lt-mul_of_pos_right sooner (span_above a k within) in
      grind (arith, nat_tests)

  -- what does not come before a crossing, no later one of its axis does
  later_still : (a j l b k : ℕ) → j ≤ l → l < crossings o p a → before o p a j b k ≡ false → before o p a l b k ≡ false
  unfolding before
  later_still a j l b k h within here =
      let later : reach o p a j ≤ reach o p a l = omega (arith, reach_is a j (omega arith), reach_is a l (omega arith)) in
      let products : reach o p a j * span o p b ≤ reach o p a l * span o p b = mul-le-mul_right (span o p b) later in
      grind (arith, nat_tests)

  -- n crossings of each axis are done, and they come before all others
  pub record Progress (n : ℕ → ℕ) : Type 0 where
    pub within : (a : ℕ) → n a ≤ crossings o p a
    pub sooner : (a j b k : ℕ) → j < n a → b < 3 → n b ≤ k → k < crossings o p b → before o p a j b k ≡ true

  -- of the crossings that come next on each axis, that of s is the first
  pub record First (n : ℕ → ℕ) (s : ℕ) : Type 0 where
    pub axis : s < 3
    pub some_left : n s < crossings o p s
    pub none_before : (b : ℕ) → b < 3 → n b < crossings o p b → before o p b (n b) s (n s) ≡ false

  none_sooner : (n : ℕ → ℕ) (s : ℕ) → First n s → (b k : ℕ) → b < 3 → n b ≤ k → k < crossings o p b → before o p b k s (n s) ≡ false
  none_sooner n s first b k axis h within = later_still b (n b) k s (n s) h within (first.none_before b axis (omega arith))

  -- just the crossings that are done come before it
  pub earlier_is : (n : ℕ → ℕ) (s : ℕ) → Progress n → First n s → (b : ℕ) → b < 3 → earlier o p s (n s) b ≡ n b
  unfolding earlier
  earlier_is n s progress first b axis =
      count_cut (crossings o p b) (n b) (λ k. before o p b k s (n s)) (progress.within b)
      (λ k h. progress.sooner b k s (n s) h first.axis (omega arith) first.some_left)
      (λ k h within. none_sooner n s first b k axis h within)

  pub progress_none : Progress (λ _. 0)
  progress_none = record { within = λ a. omega arith; sooner = λ a j b k h. absurd (omega arith) }

  pub progress_more : (n : ℕ → ℕ) (s : ℕ) → Progress n → First n s → Progress (bump s n)
  progress_more n s progress first = record { within = within; sooner = sooner }
    where
      within : (a : ℕ) → bump s n a ≤ crossings o p a
      within a = grind (arith, nat_tests, progress.within a, first.some_left, cases_eq a s)

      after : (b k : ℕ) → b < 3 → bump s n b ≤ k → k < crossings o p b → before o p s (n s) b k ≡ true
      after b k axis past left =
          ⊎_elim
          (λ (e : b ≡ s). rw (sym e) (own_order b (n b) k (grind (arith, nat_tests)) left))
          (λ (e : b ≡ s → ⊥). one_before b k s (n s) e (none_sooner n s first b k axis (grind (arith, nat_tests)) left))
          (cases_eq b s)

      sooner : (a j b k : ℕ) → j < bump s n a → b < 3 → bump s n b ≤ k → k < crossings o p b → before o p a j b k ≡ true
      sooner a j b k h axis past left =
          ⊎_elim
          (λ (l : j < n a). progress.sooner a j b k l axis (grind (arith, nat_tests)) left)
          (λ (l : n a ≤ j).
          let same : a ≡ s = grind (arith, nat_tests) in
          let last : j ≡ n a = grind (arith, nat_tests) in
          rw (last, same) (after b k axis past left))
          (cases_lt j (n a))
