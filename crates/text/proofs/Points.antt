-- How much of a text is left to read where the reader is to stand: the measure of the reading loop.
use Prim.Native.Nat.{ℕ, ◌+◌, ◌-◌}
use Rattle.text.specs.declared.standing.Next.{Next}
use Rattle.text.specs.declared.standing.Next.TheVariants.{More, Read, Refused}

abbrev pub left : Next → ℕ → ℕ → ℕ
left (More tallies) long at = (long - at) + 1
left Read long at = 0
left (Refused why) long at = 0
