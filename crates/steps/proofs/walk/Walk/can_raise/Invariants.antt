-- `can_raise`: the entries passed so far are in the cut; one that is not ends the loop.
use mathlib.Core.Path.{◌≡◌}
use mathlib.Core.Bool.{true}
use Rattle.model.specs.Lists.{all_below}
use Rattle.model.specs.Clocks.{clock_at}
use Rattle.steps.proofs.Entries.{ready_at}
use Rattle.steps.proofs.walk.Walk.can_raise.Given as goal

abbrev pub invariant-loop-j : goal.invariant-loop-j
invariant-loop-j l = all_below l.j (ready_at (clock_at l.self.clocks.bytes.now) l.counts l.own) ≡ true
