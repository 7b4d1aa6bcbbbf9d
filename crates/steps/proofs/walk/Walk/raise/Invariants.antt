-- `raise`: the columns before i are filled; the rest are as they were.
use Rattle.model.specs.Numbers.{column}
use Rattle.model.specs.Clocks.{clock_at}
use Rattle.steps.proofs.Raise.{Filled}
use Rattle.steps.proofs.walk.Walk.raise.Given as goal

abbrev pub invariant-loop-i : goal.invariant-loop-i
invariant-loop-i l = Filled (clock_at l.self.clocks.bytes.now) l.self.low.counts l.initial.counts (column l.tablet) l.self.tablets l.counts l.i
