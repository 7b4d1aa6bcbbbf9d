-- `put_entries`: what is put, and the entries that are left behind it, are the whole list.
use Rattle.std.proofs.Common.{◌≡◌, drop}
use Rattle.lines.specs.Lists.{comma_list, more_entries}
use Rattle.pieces.specs.Pieces.{grown}
use Rattle.pieces.proofs.Piece.put_entries.Given as goal

abbrev pub invariant-loop-value : goal.invariant-loop-value
invariant-loop-value l =
    grown l.self (more_entries (drop l.value-index l.value-items)) ≡ grown l.fn.self (comma_list l.values)
