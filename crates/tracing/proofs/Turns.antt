-- What the loop of a trace keeps from turn to turn.
use Rattle.std.proofs.Common.{◌≡◌, ℕ, zero, suc, ◌/◌, ◌^◌, ◌<◌, ◌≤◌, true, cond, ◌&&◌, ltb, List, get_or, Some, sym, refl, ap, ◌∙◌, subst, arith, lit<}
use native.Mathlib.Nat.{pow-le-pow_right}
use Rattle.std.proofs.lemmas.Bool.Decides.{nat_tests}
use Rattle.voxels.specs.Space.{voxel_at, voxel_count, side}
use Rattle.voxels.proofs.Indices.{side_above}
use Rattle.voxels.specs.declared.space.Axis.{Axis}
use Rattle.voxels.specs.declared.space.Position.{Position}
use Rattle.voxels.specs.declared.space.Voxel.{Voxel}
use Rattle.tracing.specs.declared.walks.Walk.{Walk}
use Rattle.tracing.specs.Lines.{tick, crossings, passes}
use Rattle.tracing.specs.Marks.{passed_mark, traceable}
use Rattle.tracing.specs.Walks.{HasRoom, StepsOn, marked_word, walk_at, crossings_left, current_voxel, next_of, crossed_on}
use Rattle.tracing.proofs.Order.{Progress, First, bump, progress_none, progress_more}
use Rattle.tracing.proofs.Choice.{number, first_next, crossed_on_lem, room}
use Rattle.tracing.proofs.Passed.{word_after, word_more, left_none, left_all, from_below, to_below}

side_small : (depth n : ℕ) → n < side depth → side depth ≤ 32
side_small depth n h =
    let at = side_above depth n h in
    let most : 2 ^ depth ≤ 2 ^ 5 = pow-le-pow_right (lit< tt) at.1 in
    omega (arith, at.2)

module _ (o p : Position) where
  -- as many crossings are done as the walk says, none of the others comes before one of them, and the words are marked for them
  pub record Walked (depth : ℕ) (page words : List ℕ) (walk : Walk) : Type 0 where
    pub done : ℕ → ℕ
    pub walk_is : walk ≡ walk_at o p done
    pub progress : Progress o p done
    pub words_are : (i : ℕ) → get_or words i 0 ≡ word_after o p depth page done i

  module _ (depth : ℕ) (page : List ℕ) where
    pub walked_room : traceable depth o p page ≡ true → HasRoom (walk_at o p (λ _. 0))
    walked_room traced =
        room o p
        (λ a. let below = from_below o p depth page traced a in omega (arith, below, side_small depth (tick a o / 64) below))
        (λ a. let below = to_below o p depth page traced a in omega (arith, below, side_small depth (tick a p / 64) below))

    pub walked_none : Walked depth page page (walk_at o p (λ _. 0))
    walked_none = record { done = λ _. 0; walk_is = refl; progress = progress_none o p; words_are = λ i. untouched i }
      where
        untouched : (i : ℕ) → get_or page i 0 ≡ word_after o p depth page (λ _. 0) i
        untouched i = grind (arith, nat_tests, left_none o p (voxel_at depth i))

    module _ (words : List ℕ) (walk : Walk) (walked : Walked depth page words walk) where
      pub walked_more : (v : Voxel) (next : Walk) → StepsOn walk (Some v) next → (new : List ℕ) → ((i : ℕ) → get_or new i 0 ≡ marked_word depth v words i) → Walked depth page new next
      walked_more v next step new marked = record {
        done = bump s n;
        walk_is = step.2 ∙ ap (λ (w : Walk). crossed_on w d) walked.walk_is ∙ crossed_on_lem o p n d first.some_left;
        progress = progress_more o p n s walked.progress first;
        words_are = λ i. word_more o p depth page words new n s i walked.progress first (walked.words_are i) (marked i ∙ ap (λ (u : Voxel). marked_word depth u words i) (step.1 ∙ ap current_voxel walked.walk_is));
      }
        where
          n : ℕ → ℕ
          n = walked.done

          d : Axis
          d = next_of walk

          s : ℕ
          s = number d

          first : First o p n s
          first = subst (λ (w : Walk). 0 < crossings_left w → First o p n (number (next_of w))) (sym walked.walk_is) (first_next o p n) step.0

      pub walked_all : crossings_left walk ≡ 0 → (i : ℕ) → get_or words i 0 ≡ cond (ltb i (voxel_count depth) && passes o p (voxel_at depth i)) (passed_mark (get_or page i 0)) (get_or page i 0)
      walked_all whole i = grind (arith, nat_tests, walked.words_are i, left_all o p walked.done all (voxel_at depth i))
        where
          none : crossings_left (walk_at o p walked.done) ≡ 0
          none = ap crossings_left (sym walked.walk_is) ∙ whole

          all : (a : ℕ) → a < 3 → walked.done a ≡ crossings o p a
          all zero h = omega (arith, none, walked.progress.within 0)
          all (suc zero) h = omega (arith, none, walked.progress.within 1)
          all (suc (suc zero)) h = omega (arith, none, walked.progress.within 2)
          all (suc (suc (suc a))) h = absurd (omega arith)
