-- `tallies_after`: the counts are the tallies after the positions passed so far.
use mathlib.Core.Path.{◌≡◌}
use Rattle.model.specs.Follow.{tallies}
use Rattle.steps.proofs.spans.tallies_after.Given as goal

abbrev pub invariant-loop-p : goal.invariant-loop-p
invariant-loop-p l = l.counts ≡ tallies l.order l.p
