use Rattle.std.proofs.Common.{◌≡◌, ◌≤◌, length, Err, sym, ap, ◌∙◌}
use Rattle.std.proofs.lemmas.Result.{err_from_is_err_and}
use Rattle.voxels.specs.Pages.{guarded, over_page, wiped}
use Rattle.voxels.specs.Refusals.{refused, told, number_of}
use Rattle.voxels.specs.Space.{voxel_count}
use Rattle.voxels.proofs.WorkPages.{guard_left, over_enough, page_refused, page_taken}
use Rattle.scans.specs.Scans.{text_answer}
use Rattle.scans.specs.Texts.{read_text}
use Rattle.scans.proofs.LineSets.{order_free}
use Rattle.scans.proofs.calls.scan.Given.{Over}
use Rattle.scans.proofs.calls.scan.Goals as goal
use Rattle.scans.proofs.calls.scan.Goals.{In_err-check_page, In_ok-check_page}

-- the page was refused, and by what
refused_page : (g : Over) (c : In_err-check_page g) → let shape = g.S.Store.shape c.args.store.now in let page = c.args.page.now in
    (refused (number_of c.in_err-check_page.field-0.0.reason) c.in_err-check_page.field-0.0.place ≡ over_page shape.depth (length page) (text_answer shape (g.S.Store.cell c.args.store.now) (read_text shape.depth c.args.text.now)))
    × (page ≡ wiped (guarded shape.depth page) page)
refused_page g c =
    let page = c.args.page.now in
    let shape = g.S.Store.shape c.args.store.now in
    let refusal = c.in_err-check_page.field-0.0 in
    page_refused shape.depth page (number_of refusal.reason) refusal.place _
    c.depth-depth.ensures c.in_err-check_page.ensures

pub returns-in_err-check_page-clause-answer : goal.returns-in_err-check_page-clause-answer
returns-in_err-check_page-clause-answer g c =
    let p = err_from_is_err_and c.from_residual.result c.from_residual.ensures.1 in
    ap told (p.1 ∙ ap Err p.2) ∙ (refused_page g (goal.at.returns-in_err-check_page-clause-answer g c).In_err-check_page).0

pub returns-in_err-check_page-clause-page : goal.returns-in_err-check_page-clause-page
returns-in_err-check_page-clause-page g c = (refused_page g (goal.at.returns-in_err-check_page-clause-page g c).In_err-check_page).1

pub returns-in_err-check_page-clause-order : goal.returns-in_err-check_page-clause-order
returns-in_err-check_page-clause-order g c = order_free (g.S.Store.shape c.args.store.now) (g.S.Store.cell c.args.store.now) c.args.text.now

-- the page was taken
taken_page : (g : Over) (c : In_ok-check_page g) → let depth = (g.S.Store.shape c.args.store.now).depth in (1 ≤ depth) × (voxel_count depth ≤ length c.args.page.now)
taken_page g c = page_taken _ _ c.depth-depth.ensures c.in_ok-check_page.ensures

pub scan_over-requires : goal.scan_over-requires
scan_over-requires g c = (taken_page g (goal.at.scan_over-requires g c).In_ok-check_page).1

pub returns-clause-answer : goal.returns-clause-answer
returns-clause-answer g c =
    let shape = g.S.Store.shape c.args.store.now in
    let long = taken_page g (goal.at.returns-clause-answer g c).In_ok-check_page in
    c.scan_over.ensures.answer ∙ sym (over_enough shape.depth (length c.args.page.now) _ long.0 long.1)

pub returns-clause-page : goal.returns-clause-page
returns-clause-page g c =
    let long = taken_page g (goal.at.returns-clause-page g c).In_ok-check_page in
    guard_left (g.S.Store.shape c.args.store.now).depth c.args.page.now long.1 c.scan_over.new.page _ c.depth-depth.result c.depth-depth.ensures c.scan_over.auto.page c.scan_over.ensures.rest c.drop-guard.ensures

pub returns-clause-order : goal.returns-clause-order
returns-clause-order g c = order_free (g.S.Store.shape c.args.store.now) (g.S.Store.cell c.args.store.now) c.args.text.now
