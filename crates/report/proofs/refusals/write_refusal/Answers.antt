-- `write_refusal`: the refusal's line, and nothing else.
use Rattle.std.proofs.Common.{◌≡◌, arith}
use Rattle.model.specs.Refusals.{number_of}
use Rattle.answerlines.specs.Printing.{refused_key, refused_line}
use Rattle.answerlines.proofs.Lines.{lines_put}
use Rattle.report.proofs.Showing.{pair_most, lines_shown}
use Rattle.report.proofs.refusals.write_refusal.Goals as goal

pub returns : goal.returns
returns c =
    let line : c.put_pair.new.self.put ≡ refused_line (number_of c.args.refused.why) c.args.refused.line = rw (c.put_pair.ensures, c.empty_piece-line.ensures, c.from-number.ensures) in
    let long = pair_most refused_key c.from-number.result c.args.refused.line (omega arith) (omega arith) in
    lines_shown _ _ _ _ _ _ (rw (← c.from-number.ensures) (omega (arith, long))) (lines_put _ _ _ _ _ line (omega (arith, c.len.ensures.count)) c.copy_out.ensures)
