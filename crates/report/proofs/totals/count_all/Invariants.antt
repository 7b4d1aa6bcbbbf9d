-- `count_all`: the sum and the counts of the positions passed, and the tallies after the position that is due.
use Rattle.std.proofs.Common.{◌≡◌, ◌≤◌, ℕ, List}
use Rattle.model.specs.Follow.{tallies}
use Rattle.cuts.specs.Ranges.{with_held}
use Rattle.report.proofs.Sums.{CountedBelow}
use Rattle.report.proofs.totals.count_all.Given as goal

abbrev pub invariant-loop-p : goal.invariant-loop-p
invariant-loop-p l =
    ((held : List ℕ) → CountedBelow (with_held l.trace held) l.p l.sum l.counts)
    × (l.p ≤ l.trace.«record».events → l.tallies ≡ tallies l.trace.order.now l.p)
