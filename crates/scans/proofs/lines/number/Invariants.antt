use Rattle.std.proofs.Common.{◌≡◌, ◌+◌, ◌-◌, ◌*◌, ◌^◌, ◌<◌, drop, fold}
use Rattle.scans.specs.Texts.{all_digits, decimal}
use Rattle.scans.proofs.lines.number.Given as goal

abbrev pub invariant-loop-digit : goal.invariant-loop-digit
invariant-loop-digit l =
    (l.value < 10 ^ l.digit-index)
    × (all_digits (drop l.digit-index l.digits) ≡ all_digits l.digits)
    × (fold (λ n c. 10 * n + (c - 48)) l.value (drop l.digit-index l.digits) ≡ decimal l.digits)
