-- `follow_all`: the events passed so far each may follow, and `tallies` are the tallies after them.
use mathlib.Core.Path.{◌≡◌}
use lib.Dec.{T}
use Rattle.model.specs.Clocks.{clock_at}
use Rattle.model.specs.Follow.{tallies, follow_to}
use Rattle.store.proofs.testing.follow_all.Given as goal

abbrev pub invariant-loop-byte : goal.invariant-loop-byte
invariant-loop-byte l =
    T (follow_to l.«record».tablets (clock_at l.clocks.bytes.now) l.order l.byte-index) × (l.tallies ≡ tallies l.order l.byte-index)
