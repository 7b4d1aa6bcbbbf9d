-- `add_tail`: two lines in one piece, at the front.
use Rattle.std.proofs.Common.{◌≡◌, arith, length-append}
use Rattle.pieces.specs.Lines.{key_line}
use Rattle.answerlines.specs.Printing.{cuts_key, tail_lines}
use Rattle.std.specs.Prelude.{is_some}
use Rattle.answerlines.specs.Outputs.{witness_entries}
use Rattle.pieces.proofs.Growing.{put_long}
use Rattle.answerlines.proofs.Lines.{cuts_most, lines_put}
use Rattle.answerlines.proofs.add_tail.Goals as goal

pub returns : goal.returns
unfolding tail_lines
returns c =
    let put : c.put_witness.new.line.put ≡ tail_lines c.args.n c.args.sum (is_some c.args.witness) (witness_entries c.args.witness) = rw (c.put_witness.ensures.put, c.put_line.ensures, c.empty_piece-tail.ensures) in
    (omega (arith, c.put_witness.ensures.short, put_long c.put_line.ensures, put_long c.empty_piece-tail.ensures, length-append c.empty_piece-tail.result.put (key_line cuts_key c.args.sum), cuts_most c.args.sum (omega arith)), lines_put _ _ _ _ _ put c.len.ensures.count c.copy_out.ensures)
