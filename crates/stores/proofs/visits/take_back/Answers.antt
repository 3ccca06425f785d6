use Rattle.std.proofs.Common.{length, ap, ◌∙◌, subst}
use Rattle.voxels.specs.Cells.{word_cell}
use Rattle.voxels.specs.Refusals.{told}
use Rattle.stores.specs.Sets.{SetDone}
use Rattle.stores.specs.Shapes.{Shape}
use Rattle.stores.proofs.Sweeping.{turn_set}
use Rattle.stores.proofs.visits.take_back.Goals as goal

pub loop-word-preserved-in-Some-checked_sub : goal.loop-word-preserved-in-Some-checked_sub
loop-word-preserved-in-Some-checked_sub g c =
    let s = g.S.Store in
    let began = c.args.store.now in
    let store = c.loop-word.store in
    let after = s.cell c.set.new.self in
    let word = c.in-Some.word.now in
    let inv = c.loop-word.invariant in
    let split = c.in-Some.ensures.cases in
    let kept = c.in-Some-checked_sub.ensures in
    let P : Shape → Type 0 = λ shape. SetDone shape (s.cell store) (length c.in-Some.front.now) c.from_word.result (told c.set.result) after in (
      c.set.ensures.shape ∙ inv.0,
      λ wanted cells mid.
          turn_set (s.shape began) wanted cells (s.cell store) c.loop-word.left.now c.in-Some.front.now word split.0 split.1 (inv.1 wanted cells mid)
          after (told c.set.result) c.from_word.result kept.0 (c.from_word.ensures.value ∙ ap word_cell kept.1) (subst P inv.0 c.set.ensures.done),
    )
