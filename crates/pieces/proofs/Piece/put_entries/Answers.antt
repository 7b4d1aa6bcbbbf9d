-- `put_entries`: room for the whole list is room for the entry that is put.
use Rattle.std.proofs.Common.{ℕ, arith, length-append}
use Rattle.pieces.proofs.Growing.{put_long}
use Rattle.pieces.proofs.Putting.{next_entry}
use Rattle.pieces.proofs.Piece.put_entries.Goals as goal

pub put_byte-requires : goal.put_byte-requires
put_byte-requires c =
    omega (arith, c.requires.fits, length-append {A = ℕ}, put_long c.loop-value.invariant, next_entry _ c.loop-value.value-index c.loop-value-test.true)

pub put_number-requires-in-loop-value : goal.put_number-requires-in-loop-value
put_number-requires-in-loop-value c =
    omega (arith, c.requires.fits, length-append {A = ℕ}, put_long c.loop-value.invariant, put_long c.put_byte.ensures, next_entry _ c.loop-value.value-index c.loop-value-test.true)
