-- `put_cut`: eight entries of at most three digits.
use Rattle.std.proofs.Common.{arith, length-append}
use Rattle.pieces.specs.Lines.{list_line}
use Rattle.pieces.proofs.Growing.{put_long}
use Rattle.answerlines.specs.Printing.{witness_key}
use Rattle.answerlines.proofs.Lines.{witness_most}
use Rattle.answerlines.proofs.put_cut.Goals as goal

pub put_list-requires-clause-fits : goal.put_list-requires-clause-fits
put_list-requires-clause-fits c =
    omega (arith, witness_most c.args.entries.now c.requires.0 c.requires.1 (λ i. omega (arith, c.type_inv.entries i)))

pub returns-clause-short : goal.returns-clause-short
returns-clause-short c =
    omega (arith, put_long c.put_list.ensures, length-append c.args.line.now.put (list_line witness_key c.args.entries.now), witness_most c.args.entries.now c.requires.0 c.requires.1 (λ i. omega (arith, c.type_inv.entries i)))
