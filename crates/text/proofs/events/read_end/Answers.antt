-- `read_end`: the number is T, so bytes behind the line decide.
use Rattle.std.proofs.Common.{◌∙◌, sym, arith}
use Rattle.text.proofs.Steps.{end_more, end_read}
use Rattle.text.proofs.events.read_end.Goals as goal

pub returns-then-bytes-ahead : goal.returns-then-bytes-ahead
returns-then-bytes-ahead c =
    λ line clocks held order. end_more c.args.ahead.now c.args.«record» line clocks held order c.in-Some.count (sym c.in-Some.ensures.says) (c.if-count-from.false ∙ c.from.ensures) _ c.line_length-bytes.ensures (omega (arith, c.if-bytes-ahead.true))

pub returns-else-bytes-ahead : goal.returns-else-bytes-ahead
returns-else-bytes-ahead c =
    λ line clocks held order. end_read c.args.ahead.now c.args.«record» line clocks held order c.in-Some.count (sym c.in-Some.ensures.says) (c.if-count-from.false ∙ c.from.ensures) _ c.line_length-bytes.ensures (omega (arith, c.if-bytes-ahead.false))
