use Rattle.std.proofs.Common.{◌≡◌, ℕ, ◌<◌, Err, sym, ap, ◌∙◌, subst}
use Rattle.std.proofs.lemmas.Result.{err_from_is_err_and}
use Rattle.voxels.specs.Refusals.{taken, told}
use Rattle.voxels.specs.Space.{voxel_count}
use Rattle.stores.specs.Sweeps.{wanted_by as wanted_of}
use Rattle.stores.proofs.Sweeps.{same_sweep}
use Rattle.scans.specs.LineMarks.{MarkedBy}
use Rattle.scans.specs.Scans.{scan_events, text_answer, with_used}
use Rattle.scans.specs.Sweeps.{marked_cell, wanted_by}
use Rattle.scans.specs.Texts.{ScanText, read_text, since}
use Rattle.scans.proofs.ScanCalls.{marks_agree}
use Rattle.scans.proofs.calls.scan_over.Given.{Over}
use Rattle.scans.proofs.calls.scan_over.Goals as goal
use Rattle.scans.proofs.calls.scan_over.Goals.{In_ok-used}

-- what the reading left for the sweep: the text's lines, and marks that say its events
read_so : (g : Over) (c : In_ok-used g) → let shape = g.S.Store.shape c.args.store.now in let cells = g.S.Store.cell c.args.store.now in
    (said : ScanText) × (read_text shape.depth c.args.text.now ≡ taken said) × (c.in_ok-used.used ≡ said.used)
    × ((k : ℕ) → k < voxel_count shape.depth → wanted_of marked_cell c.mark_lines.new.words cells k ≡ wanted_by (scan_events shape.depth said) cells k)
read_so g c =
    let shape = g.S.Store.shape c.args.store.now in
    let marks = c.mark_lines.new.words in
    let read = c.in_ok-used.ensures in
    let said = read.0 in
    let M : ℕ → Type 0 = λ d. MarkedBy d (since said.origin said.returns) marks in (
      said,
      ap (λ d. read_text d c.args.text.now) (sym c.depth-depth.ensures) ∙ read.1,
      read.2,
      marks_agree shape.depth said (g.S.Store.cell c.args.store.now) marks (subst M c.depth-depth.ensures read.3),
    )

pub returns-in_err-set-clause-answer : goal.returns-in_err-set-clause-answer
returns-in_err-set-clause-answer g c =
    let shape = g.S.Store.shape c.args.store.now in
    let cells = g.S.Store.cell c.args.store.now in
    let read = read_so g (goal.at.returns-in_err-set-clause-answer g c).In_ok-used in
    let p = err_from_is_err_and c.from_residual-in_err-set.result c.from_residual-in_err-set.ensures.1 in
    ap told (p.1 ∙ ap Err p.2)
    ∙ ap (with_used read.0.used) (c.in_err-set.ensures.answer ∙ same_sweep shape cells _ _ read.3)
    ∙ sym (ap (text_answer shape cells) read.1)

pub returns-clause-answer : goal.returns-clause-answer
returns-clause-answer g c =
    let shape = g.S.Store.shape c.args.store.now in
    let cells = g.S.Store.cell c.args.store.now in
    let read = read_so g (goal.at.returns-clause-answer g c).In_ok-used in
    ap (λ u. with_used u (taken c.in_ok-set.field-0)) read.2
    ∙ ap (with_used read.0.used) (c.in_ok-set.ensures.answer ∙ same_sweep shape cells _ _ read.3)
    ∙ sym (ap (text_answer shape cells) read.1)
