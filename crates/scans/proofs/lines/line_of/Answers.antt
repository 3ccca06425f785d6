use Rattle.std.proofs.Common.{true, false, refl, sym, ◌∙◌, arith, rules}
use Rattle.scans.specs.Texts.{origin, hit, far}
use Rattle.scans.specs.declared.lines.Line as line
use Rattle.scans.proofs.Letters.{numbers_said, said_empty, said_origin, said_hit, said_far, said_end, said_end_not, said_other}
use Rattle.scans.proofs.lines.line_of.Goals as goal

pub returns-in_err-letter : goal.returns-in_err-letter
returns-in_err-letter c = rw c.from_residual.ensures (said_empty c.args.bytes.now c.in_err-letter.ensures.cases)

pub returns-in-79 : goal.returns-in-79
returns-in-79 c =
    let parts = c.in_ok-letter.ensures.cases.0 in
    let numbers = c.in_ok-letter.numbers.now in
    said_origin c.args.bytes.now numbers (cc) ∙ numbers_said origin line.TheVariants.Origin (λ p. refl) numbers c.position.result c.map.result c.position.ensures (search rules)

pub returns-in-72 : goal.returns-in-72
returns-in-72 c =
    let parts = c.in_ok-letter.ensures.cases.0 in
    let numbers = c.in_ok-letter.numbers.now in
    said_hit c.args.bytes.now numbers (cc) ∙ numbers_said hit (line.TheVariants.Return true) (λ p. refl) numbers c.position-in-72.result c.map-in-72.result c.position-in-72.ensures (search rules)

pub returns-in-70 : goal.returns-in-70
returns-in-70 c =
    let parts = c.in_ok-letter.ensures.cases.0 in
    let numbers = c.in_ok-letter.numbers.now in
    said_far c.args.bytes.now numbers (cc) ∙ numbers_said far (line.TheVariants.Return false) (λ p. refl) numbers c.position-in-70.result c.map-in-70.result c.position-in-70.ensures (search rules)

pub returns-in-69 : goal.returns-in-69
returns-in-69 c =
    let parts = c.in_ok-letter.ensures.cases.0 in
    said_end c.args.bytes.now c.in_ok-letter.numbers.now (cc) (sym c.if-is_empty.ensures)

pub returns-in_default : goal.returns-in_default
returns-in_default c =
    let parts = c.in_ok-letter.ensures.cases.0 in
    said_end_not c.args.bytes.now c.in_ok-letter.numbers.now (cc) (sym c.if-is_empty.ensures)

pub returns-in_default-2 : goal.returns-in_default-2
returns-in_default-2 c =
    let parts = c.in_ok-letter.ensures.cases.0 in
    said_other c.args.bytes.now c.in_ok-letter.numbers.now c.in_ok-letter.letter.now (cc) (λ e. omega arith) (λ e. omega arith) (λ e. omega arith) (λ e. omega arith)
