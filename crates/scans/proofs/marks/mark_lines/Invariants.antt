use Rattle.std.proofs.Common.{length}
use Rattle.scans.specs.LineMarks.{ReadTo}
use Rattle.scans.proofs.marks.mark_lines.Given as goal

abbrev pub invariant-loop-hit : goal.invariant-loop-hit
invariant-loop-hit l = ReadTo l.depth l.text l.reader l.words

abbrev pub decreases-loop-hit : goal.decreases-loop-hit
decreases-loop-hit l = length l.reader.rest.now
