use Rattle.std.proofs.Common.{◌≡◌, ◌+◌, ◌-◌, length, take, drop, min, replicate, ap, ◌∙◌, rules}
use Rattle.bodies.specs.Codes.{state_code}
use Rattle.bodies.proofs.KeptStates.{kept_part}
use Rattle.bodies.proofs.cubes.Cube.fill.Goals as goal

pub returns : goal.returns
returns c =
    let words = c.args.words.now in
    let first = c.args.self.first in
    let part : c.fill.new.self ≡ replicate (length (take (c.min-end.result - c.min-start.result) (drop c.min-start.result words))) (state_code c.args.state) = search rules in
    kept_part words c.fill.new.self first _ c.min-start.result c.min-end.result c.args.state (c.min-end.ensures ∙ ap (λ n. min (first + n) (length words)) c.size.ensures) c.min-start.ensures part
