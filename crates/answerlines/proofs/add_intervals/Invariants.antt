-- `add_intervals`: the lines of the positions passed.
use Rattle.std.proofs.Common.{◌≤◌, ◌*◌}
use Rattle.model.specs.Lists.{at}
use Rattle.answerlines.specs.Printing.{interval_lines}
use Rattle.answerlines.specs.Outputs.{LinesAt}
use Rattle.answerlines.proofs.add_intervals.Given as goal

abbrev pub invariant-loop-p : goal.invariant-loop-p
invariant-loop-p l =
    (l.length ≤ 35 * l.p) × LinesAt l.fn.out 0 (interval_lines (at l.counts) l.p) l.length l.out
