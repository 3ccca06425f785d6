use Rattle.std.proofs.Common.{◌≡◌, true, false, sym, ◌∙◌, subst, arith, rules}
use Rattle.voxels.specs.Refusals.{Told, told}
use Rattle.voxels.specs.Space.{is_depth}
use Rattle.bodies.specs.Loads.{check_answer}
use Rattle.bodies.specs.Readings.{read_body}
use Rattle.bodies.specs.Theorems.{ExactlyMaps}
use Rattle.bodies.proofs.Accepted.{writes_back}
use Rattle.bodies.proofs.Loading.{check_depth, check_exact, check_none}
use Rattle.bodies.proofs.Packing.{bytes_all}
use Rattle.bodies.proofs.WholeBodies.{read_told}
use Rattle.bodies.proofs.checks.check.Goals as goal

pub returns-then-not-contains : goal.returns-then-not-contains
returns-then-not-contains c =
    let depth = c.args.depth in
    let body = c.args.body.now in
    let bytes = bytes_all body (λ i. omega (arith, c.type_inv.body i)) in
    let no-map : is_depth depth ≡ false = search rules in
    let P : Told (Unit {0}) → Type 0 = ExactlyMaps depth body in
    rw c.into.ensures record {
      answer = sym (check_none depth body no-map);
      exact = subst P (check_none depth body no-map) (check_exact depth body bytes);
      back = writes_back depth body bytes;
    }

pub returns : goal.returns
returns c =
    let depth = c.args.depth in
    let body = c.args.body.now in
    let bytes = bytes_all body (λ i. omega (arith, c.type_inv.body i)) in
    let is : is_depth depth ≡ true = search rules in
    let answer : told c.read_body.result ≡ check_answer depth body = read_told (read_body depth body) _ _ depth c.read_body.result c.read_body.ensures ∙ sym (check_depth depth body is) in
    let P : Told (Unit {0}) → Type 0 = ExactlyMaps depth body in
    record {
      answer = answer;
      exact = subst P (sym answer) (check_exact depth body bytes);
      back = writes_back depth body bytes;
    }
