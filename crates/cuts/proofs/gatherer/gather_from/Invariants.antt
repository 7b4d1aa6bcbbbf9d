-- `gather_from`: before each interval the cuts of those before it are written, and there is room for another.
use mathlib.Core.List.{List}
use Prim.Native.Nat.{ℕ}
use Rattle.cuts.specs.Ranges.{with_held}
use Rattle.cuts.proofs.Gathering.{UpTo}
use Rattle.cuts.proofs.gatherer.gather_from.Given as goal

abbrev pub invariant-loop-p : goal.invariant-loop-p
invariant-loop-p l = (held : List ℕ) → UpTo (with_held l.trace held) l.initial.p l.p l.written l.initial.out l.out
