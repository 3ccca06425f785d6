-- What the words of a session stand for.
use Rattle.std.specs.Prelude.{◌≡◌, ℕ, ◌+◌, ◌-◌, ◌*◌, ◌/◌, ◌%◌, ◌<◌, Bool, cond, ◌&&◌, List, [], ◌∷◌, ℤ, pos, negsuc, Some, None, Option, ◌==◌, flat_map, int_lt, nat_le}
use Rattle.std.specs.Char.{digit_char}
use Rattle.std.specs.List.{before_first}

-- a line's bytes up to its first #, which begins a comment
abbrev pub until_hash : List ℕ → List ℕ
until_hash line = before_first (λ byte. byte == 35) line

-- the nearest number of 16 bits
abbrev pub saturated : ℤ → ℤ
saturated n = cond (int_lt n (negsuc 32767)) (negsuc 32767) (cond (int_lt (pos 32767) n) (pos 32767) n)

abbrev pub between : ℕ → ℕ → ℕ → Bool
between low high c = nat_le low c && nat_le c high

-- the value of a hex digit: 0 to 9, a to f, A to F
abbrev pub digit_of : ℕ → Option ℕ
digit_of c =
    cond (between 48 57 c) (Some (c - 48))
    (cond (between 97 102 c) (Some (c - 97 + 10))
    (cond (between 65 70 c) (Some (c - 65 + 10))
    None))

abbrev pub joined : Option ℕ → Option ℕ → Option ℕ
joined None low = None
joined (Some high) None = None
joined (Some high) (Some low) = Some (16 * high + low)

-- the byte of two hex digits, the high one first
abbrev pub pair_of : ℕ → ℕ → Option ℕ
pair_of high low = joined (digit_of high) (digit_of low)

-- a byte's two hex digits in lower case, the high one first
abbrev pub hex_pair : ℕ → List ℕ
hex_pair b = digit_char (b / 16) ∷ digit_char (b % 16) ∷ []

abbrev pub hex_of : List ℕ → List ℕ
hex_of bytes = flat_map hex_pair bytes

-- a byte's two digits are read as that byte
abbrev pub ReadsBack : Type 0
ReadsBack = (b : ℕ) → b < 256 → pair_of (digit_char (b / 16)) (digit_char (b % 16)) ≡ Some b
