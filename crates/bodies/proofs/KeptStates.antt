-- States in the words of a page, cube by cube.
use Rattle.std.proofs.Common.{◌≡◌, ℕ, ◌+◌, ◌-◌, ◌<◌, ◌≤◌, List, [], ◌++◌, length, get_or, take, drop, min, replicate, sym, refl, ap, ◌∙◌, ⊎_elim, arith, length-append}
use borrow.Rule.Slice.PartMut.{put_mid}
use lib.ListN.{length-replicate, get_or-replicate, get_or-append}
use Rattle.std.proofs.lemmas.List.{get_or-append_right, length-drop, length-take-le, places}
use Rattle.std.proofs.lemmas.Bool.{cases_lt}
use Rattle.bodies.specs.Codes.{state_code}
use Rattle.bodies.specs.Reads.{Kept, Spared}
use Rattle.voxels.specs.declared.cells.State.{State}

pub kept_none : (words : List ℕ) (first : ℕ) → Kept words words first []
kept_none words first = record { long = refl; inside = λ j h room. absurd (omega arith); ahead = λ i h. refl; behind = λ i h. refl }

-- the states of one cube and then those of the next
pub kept_more : (before now after : List ℕ) (first next : ℕ) (states more : List State) → next ≡ first + length states → Kept before now first states → Kept now after next more → Kept before after first (states ++ more)
kept_more before now after first next states more at one two = record {
  long = two.long ∙ one.long;
  inside = λ j h room. ⊎_elim
      (λ low. two.ahead (first + j) (omega arith) ∙ one.inside j low room ∙ ap state_code (sym (get_or-append states more State.Unknown j low)))
      (λ high.
      let place : first + j ≡ next + (j - length states) = omega arith in
      let short : j - length states < length more = omega (arith, length-append states more) in
      ap (λ k. get_or after k 0) place
      ∙ two.inside (j - length states) short (omega (arith, one.long))
      ∙ ap state_code (sym (get_or-append_right states more (length states) j State.Unknown refl high)))
      (cases_lt j (length states));
  ahead = λ i h. two.ahead i (omega arith) ∙ one.ahead i h;
  behind = λ i h. let sum = length-append states more in two.behind i (omega arith) ∙ one.behind i (omega arith);
}

-- a cube of one state, as far as there are words
module _ (words part : List ℕ) (first count start end : ℕ) (state : State)
    (ends : end ≡ min (first + count) (length words)) (starts : start ≡ min first end) (is : part ≡ replicate (length (take (end - start) (drop start words))) (state_code state)) where
  abbrev filled : List ℕ
  filled = put_mid start (end - start) words part

  part_long : length part ≡ end - start
  part_long = ap length is ∙ length-replicate _ (state_code state) ∙ length-take-le (end - start) (drop start words) (omega (arith, length-drop start words))

  in_part : (j : ℕ) → j < count → first + j < length words → get_or filled (first + j) 0 ≡ state_code state
  in_part j h room = grind (arith, places)

  pub kept_part : Kept words filled first (replicate count state)
  kept_part =
      let size = length-replicate count state in
      record {
        long = grind (arith, places);
        inside = λ j h room. in_part j (omega arith) room ∙ ap state_code (sym (get_or-replicate count j state State.Unknown (omega arith)));
        ahead = λ i h. grind (arith, places);
        behind = λ i h. grind (arith, places);
      }

-- what was kept lies in its cube
pub kept_spares : (before after : List ℕ) (first end : ℕ) (states : List State) → first + length states ≤ end → Kept before after first states → Spared before after end
kept_spares before after first end states within kept = record { long = kept.long; each = λ i h. kept.behind i (omega arith) }

pub spared_more : (before now after : List ℕ) (end : ℕ) → Spared before now end → Spared now after end → Spared before after end
spared_more before now after end one two = record { long = two.long ∙ one.long; each = λ i h. two.each i h ∙ one.each i h }

pub spared_wider : (before after : List ℕ) (end further : ℕ) → end ≤ further → Spared before after end → Spared before after further
spared_wider before after end further h spared = record { long = spared.long; each = λ i g. spared.each i (omega arith) }

pub spared_none : (words : List ℕ) (end : ℕ) → Spared words words end
spared_none words end = record { long = refl; each = λ i h. refl }
