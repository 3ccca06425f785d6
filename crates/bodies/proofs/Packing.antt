-- Codes in bytes: four in a byte, eight in a pair, and both back again.
use Rattle.std.proofs.Common.{◌≡◌, ℕ, zero, suc, ◌+◌, ◌-◌, ◌*◌, ◌/◌, ◌%◌, ◌^◌, ◌<◌, ◌≤◌, ltb, List, [], ◌∷◌, get_or, sym, refl, ap, ◌∙◌, ap₂, mod-lt, mod-eq_of_lt, pow-suc, div-one, arith, lit<}
use native.Mathlib.Nat.{div-add-mod, div-div-eq-div-mul}
use Rattle.std.proofs.lemmas.Bool.{cond_both, cond-true, cond-false, lt-ltb, le-ltb}
use Rattle.bodies.specs.Codes.{byte_of, child_code, code_in, pair_of}

-- all are bytes
abbrev pub Bytes : List ℕ → Type 0
Bytes [] = Unit {0}
Bytes (b ∷ bs) = (b < 256) × Bytes bs

pub bytes_all : (bytes : List ℕ) → ((i : ℕ) → get_or bytes i 0 < 256) → Bytes bytes
bytes_all [] each = tt
bytes_all (b ∷ bs) each = (each 0, bytes_all bs (λ i. each (suc i)))

-- a code that is below 4 comes back out of a byte of four
byte_back : (code : ℕ → ℕ) → ((j : ℕ) → j < 4 → code j < 4) → (k : ℕ) → k < 4 → code_in (byte_of code) k ≡ code k
byte_back code small zero h = omega (arith, small 0 (lit< tt), small 1 (lit< tt), small 2 (lit< tt), small 3 (lit< tt))
byte_back code small (suc zero) h = omega (arith, small 0 (lit< tt), small 1 (lit< tt), small 2 (lit< tt), small 3 (lit< tt))
byte_back code small (suc (suc zero)) h = omega (arith, small 0 (lit< tt), small 1 (lit< tt), small 2 (lit< tt), small 3 (lit< tt))
byte_back code small (suc (suc (suc zero))) h = omega (arith, small 0 (lit< tt), small 1 (lit< tt), small 2 (lit< tt), small 3 (lit< tt))
byte_back code small (suc (suc (suc (suc k)))) h = absurd (omega arith)

-- each code comes back out of a pair of eight
module _ (code : ℕ → ℕ) (small : (j : ℕ) → j < 8 → code j < 4) where
  lower : (k : ℕ) → k < 4 → code_in (byte_of code) k ≡ code k
  lower = byte_back code (λ j h. small j (omega arith))

  upper : (k : ℕ) → k < 4 → code_in (byte_of (λ i. code (4 + i))) k ≡ code (4 + k)
  upper = byte_back (λ i. code (4 + i)) (λ j h. small (4 + j) (omega arith))

  pub code_back : (j : ℕ) → j < 8 → child_code (byte_of code) (byte_of (λ k. code (4 + k))) j ≡ code j
  code_back zero h = lower 0 (lit< tt)
  code_back (suc zero) h = lower 1 (lit< tt)
  code_back (suc (suc zero)) h = lower 2 (lit< tt)
  code_back (suc (suc (suc zero))) h = lower 3 (lit< tt)
  code_back (suc (suc (suc (suc zero)))) h = upper 0 (lit< tt)
  code_back (suc (suc (suc (suc (suc zero))))) h = upper 1 (lit< tt)
  code_back (suc (suc (suc (suc (suc (suc zero)))))) h = upper 2 (lit< tt)
  code_back (suc (suc (suc (suc (suc (suc (suc zero))))))) h = upper 3 (lit< tt)
  code_back (suc (suc (suc (suc (suc (suc (suc (suc j)))))))) h = absurd (omega arith)

pub child_small : (first second j : ℕ) → child_code first second j < 4
child_small first second j = cond_both (ltb j 4) (code_in first j) (code_in second (j - 4)) (λ code. code < 4) (λ low. mod-lt (first / 4 ^ j) (lit< tt)) (λ high. mod-lt (second / 4 ^ (j - 4)) (lit< tt))

-- a quarter of a quotient, and what is over
quarter : (a n : ℕ) → 4 * (a / (n * 4)) + a / n % 4 ≡ a / n
quarter a n = ap (λ q. 4 * q + a / n % 4) (sym (div-div-eq-div-mul a n 4)) ∙ div-add-mod (a / n) 4

below_four : (a : ℕ) → a < 256 → a / 64 < 4
below_four a h = omega arith

-- a byte comes back out of its codes
byte_again : (a : ℕ) → a < 256 → byte_of (code_in a) ≡ a
byte_again a h = omega (arith, div-one a, div-add-mod a 4, quarter a 4, quarter a 16, mod-eq_of_lt (below_four a h))

-- so does a pair
pub pair_again : (a b : ℕ) → a < 256 → b < 256 → pair_of (child_code a b) ≡ a ∷ b ∷ []
pair_again a b h k = ap₂ (λ (x y : ℕ). x ∷ y ∷ []) (byte_again a h) (byte_again b k)

-- only the four codes of a byte count, and the eight of a pair
byte_same : (code other : ℕ → ℕ) → ((j : ℕ) → j < 4 → code j ≡ other j) → byte_of code ≡ byte_of other
byte_same code other same = omega (arith, same 0 (lit< tt), same 1 (lit< tt), same 2 (lit< tt), same 3 (lit< tt))

pub pair_same : (code other : ℕ → ℕ) → ((j : ℕ) → j < 8 → code j ≡ other j) → pair_of code ≡ pair_of other
pair_same code other same =
    ap₂ (λ (x y : ℕ). x ∷ y ∷ [])
    (byte_same code other (λ j h. same j (omega arith)))
    (byte_same (λ k. code (4 + k)) (λ k. other (4 + k)) (λ j h. same (4 + j) (omega arith)))

-- a code is the two bits that a shift brings down
four_power : (k : ℕ) → 2 ^ (2 * k) ≡ 4 ^ k
four_power zero = refl
four_power (suc k) =
    let twice : 2 * suc k ≡ suc (suc (2 * k)) = omega arith in
    omega (arith, ap (λ n. 2 ^ n) twice, pow-suc 2 (suc (2 * k)), pow-suc 2 (2 * k), pow-suc 4 k, four_power k)

shifted : (a k : ℕ) → a / 2 ^ (2 * k) % 4 ≡ code_in a k
shifted a k = ap (λ w. a / w % 4) (four_power k)

pub low_bits : (a b j : ℕ) → j < 4 → a / 2 ^ (2 * j) % 4 ≡ child_code a b j
low_bits a b j h = shifted a j ∙ sym (cond-true (ltb j 4) (code_in a j) (code_in b (j - 4)) (lt-ltb j 4 h))

pub high_bits : (a b j : ℕ) → 4 ≤ j → b / 2 ^ (2 * (j - 4)) % 4 ≡ child_code a b j
high_bits a b j h = shifted b (j - 4) ∙ sym (cond-false (ltb j 4) (code_in a j) (code_in b (j - 4)) (le-ltb j 4 h))
