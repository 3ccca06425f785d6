-- Quantifiers, sums and a search over the numbers below a bound. They compute.
use Rattle.std.specs.Prelude.{ℕ, zero, suc, ◌+◌, Bool, true, false, cond, ◌&&◌, ◌||◌, Some, None, Option}

-- p holds of some number below n
unfoldable pub some : ℕ → (ℕ → Bool) → Bool
some zero p = false
some (suc n) p = p n || some n p

-- p holds of every number below n
unfoldable pub all : ℕ → (ℕ → Bool) → Bool
all zero p = true
all (suc n) p = p n && all n p

-- the sum of f over the numbers below n
unfoldable pub sum : ℕ → (ℕ → ℕ) → ℕ
sum zero f = 0
sum (suc n) f = f n + sum n f

-- how many numbers below n have p
unfoldable pub count : ℕ → (ℕ → Bool) → ℕ
unfolding sum
count n p = sum n (λ k. cond (p k) 1 0)

-- the least number below n that has p
unfoldable pub first : ℕ → (ℕ → Bool) → Option ℕ
first zero p = None
first (suc n) p = elim (first n p) [ Some k ↦ Some k | None ↦ cond (p n) (Some n) None ]
