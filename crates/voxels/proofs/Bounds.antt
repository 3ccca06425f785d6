-- Laws of the quantifiers and sums over the numbers below a bound.
use Rattle.std.proofs.Common.{◌≡◌, ℕ, zero, suc, ◌+◌, ◌*◌, ◌<◌, ◌≤◌, Bool, true, false, cond, Some, None, Option, sym, refl, ap, ◌∙◌, ap₂, ⊎_elim, le_refl, mul-add, add-one, arith}
use Rattle.std.proofs.lemmas.Bool.{and_from, and_left, and_parts, and_right, both_ways, cases_eq, cond-false, cond-true, false_from_ne_true, or_from, or_left, or_right}
use Rattle.voxels.specs.Bounded.{some, all, sum, count, first}

pub sum_same : (n : ℕ) (f g : ℕ → ℕ) → ((k : ℕ) → k < n → f k ≡ g k) → sum n f ≡ sum n g
unfolding sum
sum_same zero f g same = refl
sum_same (suc n) f g same =
    let rest = sum_same n f g (λ k h. same k (omega arith)) in
    let here = same n (omega arith) in
    cc

-- the first summand taken out in front
pub sum_first : (n : ℕ) (f : ℕ → ℕ) → sum (suc n) f ≡ f 0 + sum n (λ k. f (suc k))
unfolding sum
sum_first zero f = refl
sum_first (suc n) f = let rest = sum_first n f in omega (arith, rest)

pub sum_scale : (n c : ℕ) (f : ℕ → ℕ) → sum n (λ k. c * f k) ≡ c * sum n f
unfolding sum
sum_scale zero c f = omega arith
sum_scale (suc n) c f = let rest = sum_scale n c f in omega (arith, rest, mul-add c (f n) (sum n f))

pub sum_le : (n : ℕ) (f g : ℕ → ℕ) → ((k : ℕ) → k < n → f k ≤ g k) → sum n f ≤ sum n g
unfolding sum
sum_le zero f g less = le_refl 0
sum_le (suc n) f g less =
    let rest = sum_le n f g (λ k h. less k (omega arith)) in
    let here = less n (omega arith) in
    omega arith

pub count_le : (n : ℕ) (p : ℕ → Bool) → count n p ≤ n
unfolding count sum
count_le zero p = le_refl 0
count_le (suc n) p = let rest = count_le n p in elim (p n) as (λ b. cond b 1 0 + count n p ≤ suc n) [ true ↦ omega arith | false ↦ omega arith ]

pub count_more : (n : ℕ) (p : ℕ → Bool) → count (n + 1) p ≡ cond (p n) 1 0 + count n p
unfolding count sum
count_more n p = rw add-one

-- numbers that lack it count for nothing
pub count_beyond : (n m : ℕ) (p : ℕ → Bool) → n ≤ m → ((k : ℕ) → n ≤ k → k < m → p k ≡ false) → count m p ≡ count n p
count_beyond n zero p low none = ap (λ k. count k p) (let e : zero ≡ n = omega arith in e)
count_beyond n (suc m) p low none =
    ⊎_elim
    (λ here. ap (λ k. count k p) (sym here))
    (λ later.
    let last : ◌≡◌ {A = ℕ} (cond (p m) 1 0) 0 = cond-false (p m) 1 0 (none m (omega arith) (omega arith)) in
    ap (λ k. count k p) (sym (add-one m)) ∙ omega (arith, count_more m p, last, count_beyond n m p (omega arith) (λ k a b. none k a (omega arith))))
    (cases_eq n (suc m))

pub count_has : (n : ℕ) (p : ℕ → Bool) (k : ℕ) → k < n → p k ≡ true → 1 ≤ count n p
unfolding count sum
count_has zero p k h e = absurd (omega arith)
count_has (suc n) p k h e =
    ⊎_elim
    (λ last. let here : ◌≡◌ {A = ℕ} (cond (p n) 1 0) 1 = cond-true (p n) 1 0 (ap p (sym last) ∙ e) in omega (arith, here))
    (λ other. omega (arith, count_has n p k (omega arith) e))
    (cases_eq k n)

-- none is counted where the count is 0
pub count_zero : (n : ℕ) (p : ℕ → Bool) → count n p ≡ 0 → (k : ℕ) → k < n → p k ≡ false
count_zero n p none k h = false_from_ne_true (p k) (λ has. omega (arith, count_has n p k h has, none))

pub all_same : (n : ℕ) (p q : ℕ → Bool) → ((k : ℕ) → k < n → p k ≡ q k) → all n p ≡ all n q
unfolding all
all_same zero p q same = refl
all_same (suc n) p q same =
    let rest = all_same n p q (λ k h. same k (omega arith)) in
    let here = same n (omega arith) in
    cc

pub all_fails : (n : ℕ) (p : ℕ → Bool) (k : ℕ) → k < n → p k ≡ false → all n p ≡ false
unfolding all
all_fails zero p k h e = absurd (omega arith)
all_fails (suc n) p k h e =
    ⊎_elim
    (λ last. and_left (p n) (all n p) (ap p (sym last) ∙ e))
    (λ other. and_right (p n) (all n p) (all_fails n p k (omega arith) e))
    (cases_eq k n)

pub some_same : (n : ℕ) (p q : ℕ → Bool) → ((k : ℕ) → k < n → p k ≡ q k) → some n p ≡ some n q
unfolding some
some_same zero p q same = refl
some_same (suc n) p q same =
    let rest = some_same n p q (λ k h. same k (omega arith)) in
    let here = same n (omega arith) in
    cc

pub some_none : (n : ℕ) (p : ℕ → Bool) → ((k : ℕ) → k < n → p k ≡ false) → some n p ≡ false
unfolding some
some_none zero p no_one = refl
some_none (suc n) p no_one = or_from (p n) (some n p) (no_one n (omega arith)) (some_none n p (λ k h. no_one k (omega arith)))

pub some_has : (n : ℕ) (p : ℕ → Bool) (k : ℕ) → k < n → p k ≡ true → some n p ≡ true
unfolding some
some_has zero p k h e = absurd (omega arith)
some_has (suc n) p k h e =
    ⊎_elim
    (λ last. or_left (p n) (some n p) (ap p (sym last) ∙ e))
    (λ other. or_right (p n) (some n p) (some_has n p k (omega arith) e))
    (cases_eq k n)

pub some_fails : (n : ℕ) (p : ℕ → Bool) → some n p ≡ false → (k : ℕ) → k < n → p k ≡ false
some_fails n p none k h = false_from_ne_true (p k) (λ has. both_ways _ none (some_has n p k h has))

pub first_none : (n : ℕ) (p : ℕ → Bool) → ((k : ℕ) → k < n → p k ≡ false) → first n p ≡ None
unfolding first
first_none zero p no_one = refl
first_none (suc n) p no_one =
    let rest = first_none n p (λ k h. no_one k (omega arith)) in
    let here = no_one n (omega arith) in
    rw (rest, here)

pub first_at : (n : ℕ) (p : ℕ → Bool) (k : ℕ) → k < n → p k ≡ true → ((j : ℕ) → j < k → p j ≡ false) → first n p ≡ Some k
unfolding first
first_at zero p k h e before = absurd (omega arith)
first_at (suc n) p k h e before =
    ⊎_elim
    (λ last.
    let rest : first n p ≡ None = first_none n p (λ j below. before j (omega arith)) in
    let here : p n ≡ true = ap p (sym last) ∙ e in
    rw (rest, here) (ap Some (sym last)))
    (λ other. let rest = first_at n p k (omega arith) e before in rw rest)
    (cases_eq k n)

pub first_same : (n : ℕ) (p q : ℕ → Bool) → ((k : ℕ) → k < n → p k ≡ q k) → first n p ≡ first n q
unfolding first
first_same zero p q same = refl
first_same (suc n) p q same =
    ap₂ (λ (o : Option ℕ) (b : Bool). elim o as (λ _. Option ℕ) [ Some k ↦ Some k | None ↦ cond b (Some n) None ])
    (first_same n p q (λ k h. same k (omega arith)))
    (same n (omega arith))

pub count_same : (n : ℕ) (p q : ℕ → Bool) → ((k : ℕ) → k < n → p k ≡ q k) → count n p ≡ count n q
unfolding count
count_same n p q same = sum_same n (λ k. cond (p k) 1 0) (λ k. cond (q k) 1 0) (λ k h. ap (λ b. cond b 1 0) (same k h))

pub all_holds : (n : ℕ) (p : ℕ → Bool) → ((k : ℕ) → k < n → p k ≡ true) → all n p ≡ true
unfolding all
all_holds zero p each = refl
all_holds (suc n) p each = and_from (p n) (all n p) (each n (omega arith)) (all_holds n p (λ k h. each k (omega arith)))

pub all_at : (n : ℕ) (p : ℕ → Bool) → all n p ≡ true → (k : ℕ) → k < n → p k ≡ true
unfolding all
all_at zero p e k h = absurd (omega arith)
all_at (suc n) p e k h =
    let parts = and_parts (p n) (all n p) e in
    ⊎_elim
    (λ last. ap p last ∙ parts.0)
    (λ other. all_at n p parts.1 k (omega arith))
    (cases_eq k n)
