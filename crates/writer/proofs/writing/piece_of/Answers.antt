-- `piece_of`: a line fits an empty piece, and a sound store has an event's lines in its buffers.
use native.Mathlib.Omega.{arith}
use Rattle.store.specs.Outcomes.{store_in}
use Rattle.pieces.proofs.Growing.{put_long}
use Rattle.writer.proofs.Pieces.{tablets_line, events_line, writable}
use Rattle.writer.proofs.writing.piece_of.Goals as goal

pub put_line-requires : goal.put_line-requires
put_line-requires c = omega (arith, put_long c.empty_piece-line.ensures, tablets_line (store_in c.args.trace) c.requires)

pub event_piece-requires : goal.event_piece-requires
event_piece-requires c =
    (omega arith, writable (store_in c.args.trace) c.requires _ (omega arith))

pub put_line-requires-2 : goal.put_line-requires-2
put_line-requires-2 c = omega (arith, put_long c.empty_piece-line.ensures, events_line (store_in c.args.trace) c.requires)
