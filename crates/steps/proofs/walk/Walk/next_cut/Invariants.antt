-- `next_cut`: no tablet above the number can be raised, so the search goes on from there down with the counts as they were.
use mathlib.Core.Path.{◌≡◌}
use Rattle.model.specs.Clocks.{clock_at}
use Rattle.model.specs.Step.{raise_below}
use Rattle.steps.proofs.walk.Walk.next_cut.Given as goal

abbrev pub invariant-loop-i : goal.invariant-loop-i
invariant-loop-i l = (l.counts ≡ l.initial.counts) × (raise_below (clock_at l.self.clocks.bytes.now) l.self.low.counts l.self.high.counts l.initial.counts l.self.tablets ≡ raise_below (clock_at l.self.clocks.bytes.now) l.self.low.counts l.self.high.counts l.initial.counts l.i)
