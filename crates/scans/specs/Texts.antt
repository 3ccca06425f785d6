-- The text of a scan: which bytes are lines, what a line says, and what a whole text tells.
use Rattle.std.specs.Prelude.{ℕ, ◌+◌, ◌-◌, ◌*◌, Bool, true, false, cond, not, ◌&&◌, ◌||◌, List, [], ◌∷◌, ◌++◌, length, Some, None, fold, Option, ◌==◌, nat_le, nat_lt}
use Rattle.voxels.specs.Refusals.{Told, taken, refused}
use Rattle.voxels.specs.Space.{side}
use Rattle.voxels.specs.declared.space.Position.{Position}

-- the pieces of a row of bytes between the bytes c; with none of them the row is the only piece
unfoldable pub pieces_from : ℕ → List ℕ → List ℕ → List (List ℕ)
pieces_from c done [] = done ∷ []
pieces_from c done (b ∷ rest) = elim (b == c) [ true ↦ done ∷ pieces_from c [] rest | false ↦ pieces_from c (done ++ b ∷ []) rest ]

-- the lines of a text, each without the line feed (byte 10) that ends it; bytes behind the last line feed are no line
unfoldable pub lines_from : List ℕ → List ℕ → List (List ℕ)
lines_from done [] = []
lines_from done (b ∷ rest) = elim (b == 10) [ true ↦ done ∷ lines_from [] rest | false ↦ lines_from (done ++ b ∷ []) rest ]

abbrev pub lines_of : List ℕ → List (List ℕ)
lines_of text = lines_from [] text

abbrev pub is_digit : ℕ → Bool
is_digit c = nat_le 48 c && nat_le c 57

abbrev pub all_digits : List ℕ → Bool
all_digits [] = true
all_digits (c ∷ cs) = is_digit c && all_digits cs

-- a number is 0, or one to four digits that do not begin with 0
abbrev pub is_number : List ℕ → Bool
is_number [] = false
is_number (c ∷ cs) = (all_digits (c ∷ cs) && nat_le (length cs) 3) && (not (c == 48) || length cs == 0)

abbrev pub decimal : List ℕ → ℕ
decimal digits = fold (λ n c. 10 * n + (c - 48)) 0 digits

-- what the pieces between the spaces say: nothing before the first space, then three numbers
abbrev pub position_of : List (List ℕ) → Option Position
position_of [] = None
position_of (a ∷ []) = None
position_of (a ∷ x ∷ []) = None
position_of (a ∷ x ∷ y ∷ []) = None
position_of (a ∷ x ∷ y ∷ z ∷ []) = cond (length a == 0 && ((is_number x && is_number y) && is_number z)) (Some record { x = decimal x; y = decimal y; z = decimal z }) None
position_of (a ∷ x ∷ y ∷ z ∷ more ∷ rest) = None

-- a line by its letter: O origin, H hit, F far, E end
pub data Said : Type 0 where
  origin : Position → Said
  hit : Position → Said
  far : Position → Said
  end : Said

-- what is behind the letter of an O, H or F line
abbrev pub with_numbers : (Position → Said) → List ℕ → Option Said
with_numbers says rest = elim (position_of (pieces_from 32 [] rest)) [ Some p ↦ Some (says p) | None ↦ None ]

-- what a line says, or none where it has not the form
unfoldable pub said : List ℕ → Option Said
said [] = None
said (c ∷ rest) =
    cond (c == 79) (with_numbers origin rest)
    (cond (c == 72) (with_numbers hit rest)
    (cond (c == 70) (with_numbers far rest)
    (cond (c == 69 && length rest == 0) (Some end)
    None)))

-- a return line: where it ends, and whether something was hit there
pub record Return : Type 0 where
  pub is_hit : Bool
  pub end : Position

-- how far the reading has come: no line yet, or an origin and the return lines so far, the newest first
pub data Progress : Type 0 where
  nothing : Progress
  since : Position → List Return → Progress

-- what a text that is taken says: the bytes used up to and with the end line, the origin, and the return lines, the newest first
pub record ScanText : Type 0 where
  pub used : ℕ
  pub origin : Position
  pub returns : List Return

-- some number is 64 * 2 ^ depth or more
abbrev pub outside : ℕ → Position → Bool
outside depth p = not ((nat_lt p.x (64 * side depth) && nat_lt p.y (64 * side depth)) && nat_lt p.z (64 * side depth))

-- a return line where some stand already: a number too large, or one line too many
abbrev pub return_fault : ℕ → Position → List Return → Option ℕ
return_fault depth p returns = cond (outside depth p) (Some 6) (cond (nat_le 512 (length returns)) (Some 7) None)

-- why a line that has the form is refused, by number
abbrev pub line_fault : ℕ → Progress → Said → Option ℕ
line_fault depth nothing (origin p) = cond (outside depth p) (Some 6) None
line_fault depth nothing (hit p) = Some 5
line_fault depth nothing (far p) = Some 5
line_fault depth nothing end = Some 5
line_fault depth (since o returns) (origin p) = Some 5
line_fault depth (since o returns) (hit p) = return_fault depth p returns
line_fault depth (since o returns) (far p) = return_fault depth p returns
line_fault depth (since o returns) end = None

-- the progress after a line without a fault
abbrev pub advanced : Progress → Said → Progress
advanced nothing (origin p) = since p []
advanced nothing (hit p) = nothing
advanced nothing (far p) = nothing
advanced nothing end = nothing
advanced (since o returns) (origin p) = since o returns
advanced (since o returns) (hit p) = since o (record { is_hit = true; end = p } ∷ returns)
advanced (since o returns) (far p) = since o (record { is_hit = false; end = p } ∷ returns)
advanced (since o returns) end = since o returns

-- the text ends well at the line that says so
abbrev pub ended : ℕ → Progress → Said → Option ScanText
ended used nothing line = None
ended used (since o returns) (origin p) = None
ended used (since o returns) (hit p) = None
ended used (since o returns) (far p) = None
ended used (since o returns) end = Some record { used = used; origin = o; returns = returns }

-- the lines from the front; the place is where a line begins, and the first wrong line decides
unfoldable pub read_from : ℕ → ℕ → Progress → List (List ℕ) → Told ScanText
read_from depth place progress [] = refused 3 place
read_from depth place progress (line ∷ rest) =
    elim (said line) [
      | None ↦ refused 4 place
      | Some s ↦ elim (line_fault depth progress s) [
        | Some number ↦ refused number place
        | None ↦ elim (ended (place + length line + 1) progress s) [
          | Some text ↦ taken text
          | None ↦ read_from depth (place + length line + 1) (advanced progress s) rest
        ]
      ]
    ]

-- what a text tells at a depth
abbrev pub read_text : ℕ → List ℕ → Told ScanText
read_text depth text = read_from depth 0 nothing (lines_of text)
