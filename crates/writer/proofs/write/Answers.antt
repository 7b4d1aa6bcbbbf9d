-- `write`: the store, the position, the room, then the piece.
use mathlib.Core.Path.{ap}
use native.Mathlib.Omega.{arith}
use Rattle.store.specs.Outcomes.{store_in}
use Rattle.pieces.specs.Pieces.{Bytes}
use Rattle.pieces.proofs.Growing.{put_long}
use Rattle.writer.proofs.Pieces.{write_left, write_beyond, write_short, write_copied}
use Rattle.writer.proofs.write.Goals as goal

pub returns-in_err-check : goal.returns-in_err-check
returns-in_err-check c =
    write_left (store_in c.args.trace) c.args.piece.0 c.args.out.now _ _ _ c.check.ensures c.in_err-check.was c.from_residual.ensures.1

pub returns-then-last-at : goal.returns-then-last-at
returns-then-last-at c =
    write_beyond (store_in c.args.trace) c.args.piece.0 c.args.out.now _ _ c.check.ensures c.in_ok-check.was c.if-last-at.true

pub returns-then-out-length : goal.returns-then-out-length
returns-then-out-length c =
    write_short (store_in c.args.trace) c.args.piece.0 c.args.out.now _ _ c.check.ensures c.in_ok-check.was c.if-last-at.false (omega (arith, put_long c.piece_of-text.ensures))

pub returns : goal.returns
returns c =
    write_copied (store_in c.args.trace) c.args.piece.0 c.args.out.now _ _ c.check.ensures c.in_ok-check.was c.if-last-at.false _ _ _ (ap (λ (p : Bytes). p.put) c.piece_of-text.ensures) c.len-length.ensures.count c.if-out-length.false c.copy_out.ensures
