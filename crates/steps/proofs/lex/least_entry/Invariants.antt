-- `least_entry`: the largest of the floor and of what the events of the tablets passed so far know.
use mathlib.Core.Path.{◌≡◌}
use mathlib.Core.List.{List}
use Prim.Native.Nat.{ℕ, max}
use Rattle.model.specs.Lists.{at, max_below}
use Rattle.model.specs.Numbers.{column}
use Rattle.model.specs.Clocks.{clock_at, known}
use Rattle.steps.proofs.lex.least_entry.Given as goal

abbrev pub knows : List ℕ → List ℕ → ℕ → ℕ → ℕ
knows clocks counts j i = at (known (clock_at clocks) i (at counts i)) j

abbrev pub invariant-loop-i : goal.invariant-loop-i
invariant-loop-i l = l.most ≡ max l.initial.most (max_below l.i (knows l.clocks.bytes.now l.counts (column l.other)))
