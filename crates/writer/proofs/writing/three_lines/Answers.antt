-- `three_lines`: one line behind the other, 60 bytes at most.
use Prim.Native.Nat.{ℕ}
use native.Mathlib.Omega.{arith}
use lib.ListN.{length-append}
use Rattle.pieces.proofs.Growing.{put_long}
use Rattle.writer.proofs.Pieces.{tablet_line, clock_line_lem, held_line}
use Rattle.writer.proofs.writing.three_lines.Goals as goal

pub put_line-requires : goal.put_line-requires
put_line-requires c =
    omega (arith, put_long c.empty_piece-lines.ensures, tablet_line c.args.tablet.0 (omega arith))

pub put_list-requires-clause-fits : goal.put_list-requires-clause-fits
put_list-requires-clause-fits c =
    let a = c.args in
    omega (arith, put_long c.empty_piece-lines.ensures, put_long c.put_line.ensures, length-append {A = ℕ}, tablet_line a.tablet.0 (omega arith), clock_line_lem a.entries.now c.requires.0 c.requires.1 (λ i. omega (arith, c.type_inv.entries i)))

pub put_line-requires-2 : goal.put_line-requires-2
put_line-requires-2 c =
    let a = c.args in
    omega (arith, put_long c.empty_piece-lines.ensures, put_long c.put_line.ensures, put_long c.put_list.ensures, length-append {A = ℕ}, tablet_line a.tablet.0 (omega arith), clock_line_lem a.entries.now c.requires.0 c.requires.1 (λ i. omega (arith, c.type_inv.entries i)), held_line a.held (omega arith))
