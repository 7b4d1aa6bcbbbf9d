-- `add_head`: two lines in one piece, at the front.
use Rattle.std.proofs.Common.{◌≡◌, length, ap, arith}
use Rattle.answerlines.specs.Printing.{head_lines}
use Rattle.answerlines.proofs.Lines.{head_most, lines_put}
use Rattle.answerlines.proofs.add_head.Goals as goal

pub copy_out-requires : goal.copy_out-requires
unfolding head_lines
copy_out-requires c =
    let put : c.put_line-2.new.self.put ≡ head_lines c.args.«record».tablets c.args.«record».events = rw (c.put_line-2.ensures, c.put_line.ensures, c.empty_piece-head.ensures) in
    omega (arith, ap length put, head_most c.args.«record».tablets c.args.«record».events c.requires.0 c.requires.1)

pub returns : goal.returns
unfolding head_lines
returns c =
    let put : c.put_line-2.new.self.put ≡ head_lines c.args.«record».tablets c.args.«record».events = rw (c.put_line-2.ensures, c.put_line.ensures, c.empty_piece-head.ensures) in
    (omega (arith, ap length put, head_most c.args.«record».tablets c.args.«record».events c.requires.0 c.requires.1), lines_put _ _ _ _ _ put c.len.ensures.count c.copy_out.ensures)
