-- `read_entries`: the entries passed are set, those behind are still 0, and the rest of the text decides.
use mathlib.Core.Path.{◌≡◌}
use Prim.Native.Nat.{ℕ, ◌-◌, ◌≤◌}
use lib.ListN.{length, get_or, take}
use Rattle.lines.proofs.Entries.{behind_them}
use Rattle.lines.specs.Lists.{entries}
use Rattle.lines.proofs.lists.read_entries.Given as goal

abbrev pub invariant-loop-j : goal.invariant-loop-j
invariant-loop-j l =
    (length l.rest ≤ length l.text) × (length l.values ≡ 8) × ((i : ℕ) → l.j ≤ i → get_or l.values i 0 ≡ 0) × (entries l.count l.text ≡ behind_them (take l.j l.values) (entries (l.count - l.j) l.rest))
