-- `sum_digits`: what the digits passed say is the sum, and the rest decides.
use mathlib.Core.Path.{◌≡◌}
use Prim.Native.Nat.{◌≤◌}
use lib.ListN.{drop}
use Rattle.lines.specs.Numbers.{digits_from}
use Rattle.lines.proofs.numbers.sum_digits.Given as goal

abbrev pub invariant-loop-b : goal.invariant-loop-b
invariant-loop-b l = (l.sum ≤ l.limit) × (digits_from l.limit 0 l.text ≡ digits_from l.limit l.sum (drop l.b-index l.text))
