-- What `any` and `all` over the numbers below a bound answer.
use Rattle.std.proofs.Common.{◌≡◌, ℕ, ◌<◌, Bool, true, false, MatchBool, length, sym, ap, ◌∙◌, zero-add, arith}
use Rattle.std.specs.List.{AllWithin, HoldsAt, range_with_len}
use Rattle.std.proofs.lemmas.List.FromFn.{get_or-range_with_len, length-range_with_len}
use Rattle.voxels.specs.Bounded.{all, some}
use Rattle.voxels.proofs.Bounds.{all_fails, all_holds, some_has, some_none}

module _ (n : ℕ) (p : ℕ → Bool) where
  abbrev Has : Bool → Type 0
  Has b = (k : ℕ) × (k < length (range_with_len 0 n)) × HoldsAt (λ x. p x ≡ b) (range_with_len 0 n) k

  abbrev Each : Bool → Type 0
  Each b = AllWithin (λ x. p x ≡ b) (range_with_len 0 n) 0 (length (range_with_len 0 n))

  below : (k : ℕ) → k < length (range_with_len 0 n) → k < n
  below k h = omega (arith, h, length-range_with_len 0 n)

  has_at : (b : Bool) (h : Has b) → p h.0 ≡ b
  has_at b h = ap p (sym (get_or-range_with_len 0 n h.0 0 (below h.0 h.1) ∙ zero-add h.0)) ∙ h.2 0

  each_at : (b : Bool) → Each b → (k : ℕ) → k < n → p k ≡ b
  each_at b h k low = ap p (sym (get_or-range_with_len 0 n k 0 low ∙ zero-add k)) ∙ h k 0 (omega arith) (omega (arith, length-range_with_len 0 n))

  pub some_from_any : (r : Bool) → MatchBool r (Has true) (Each false) → r ≡ some n p
  some_from_any true h = sym (some_has n p h.0 (below h.0 h.1) (has_at true h))
  some_from_any false h = sym (some_none n p (each_at false h))

  pub all_from_all : (r : Bool) → MatchBool r (Each true) (Has false) → r ≡ all n p
  all_from_all true h = sym (all_holds n p (each_at true h))
  all_from_all false h = sym (all_fails n p h.0 (below h.0 h.1) (has_at false h))
