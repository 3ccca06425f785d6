-- Bytes at the front of an output, one part behind the other.
use Rattle.std.proofs.Common.{◌≡◌, ℕ, ◌+◌, ◌-◌, ◌≤◌, List, [], ◌∷◌, ◌++◌, length, take, drop, set, sym, refl, ap, ◌∙◌, ap₂, arith}
use borrow.Rule.Slice.PartMut.{post_of, put_mid}
use Rattle.std.proofs.lemmas.List.{append-nil, append_assoc, drop-drop, drop_all, drop_at, length-append, length-drop, length-take-le, take_all, take_at}
use Rattle.bodies.specs.Writes.{at_front}

-- two bytes
pub front_pair : (output : List ℕ) (first second : ℕ) → 2 ≤ length output → set (set output 0 first) 1 second ≡ at_front (first ∷ second ∷ []) output
front_pair [] first second room = absurd (omega arith)
front_pair (a ∷ []) first second room = absurd (omega arith)
front_pair (a ∷ b ∷ rest) first second room = refl

-- what is behind a place has room for as much as the output beyond that place
pub room_behind : (output : List ℕ) (end size : ℕ) → end + size ≤ length output → size ≤ length (take (length output - end) (drop end output))
room_behind output end size room = omega (arith, length-take-le (length output - end) (drop end output) (omega (arith, length-drop end output)))

-- bytes behind those at the front
pub front_more : (output bytes more now part : List ℕ) (end : ℕ) → end ≡ length bytes → now ≡ at_front bytes output → part ≡ at_front more (take (length now - end) (drop end now)) → put_mid end (length now - end) now part ≡ at_front (bytes ++ more) output
front_more output bytes more now part end long is put =
    let rest = drop (length bytes) output in
    let front : take end now ≡ bytes = ap (take end) is ∙ take_at bytes rest end (sym long) in
    let behind : drop end now ≡ rest = ap (drop end) is ∙ drop_at bytes rest end (sym long) in
    let whole : take (length now - end) (drop end now) ≡ drop end now = take_all (length now - end) (drop end now) (omega (arith, length-drop end now)) in
    let none : post_of end (length now - end) now ≡ [] = drop_all (length now - end) (drop end now) (omega (arith, length-drop end now)) in
    ap₂ ◌++◌ front (ap₂ ◌++◌ (put ∙ ap (at_front more) (whole ∙ behind)) none ∙ append-nil (at_front more rest))
    ∙ sym (append_assoc bytes more (drop (length more) rest))
    ∙ ap (λ l. bytes ++ more ++ l) (drop-drop (length more) (length bytes) output ∙ ap (λ n. drop n output) (sym (length-append bytes more)))
