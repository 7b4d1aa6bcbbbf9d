-- `read`: the buffers' sizes, then the lines.
use Rattle.std.proofs.Common.{◌∙◌, sym, ap}
use Rattle.model.specs.declared.Record.{Record}
use Rattle.model.specs.Store.{store_of, store_refusal}
use Rattle.text.specs.Reading.{ReadOutcome, refused}
use Rattle.text.proofs.Opening.{found_long, found_short, reading_short}
use Rattle.text.proofs.read.Goals as goal

pub returns-then-is_err-clause-read : goal.returns-then-is_err-clause-read
returns-then-is_err-clause-read c =
    let lent = c.args.buffers.now in
    ap {B = ReadOutcome} (λ (r : Record). refused 2 0 (store_of r lent.clocks.now lent.held.now lent.order.now)) c.no_record.ensures
    ∙ sym (reading_short c.args.text.now lent.clocks.now lent.held.now lent.order.now (found_short lent.clocks.now lent.held.now lent.order.now c.check.result _ c.fresh_record.ensures (c.check.ensures ∙ ap store_refusal c.trace.ensures) (sym c.is_err.ensures.value ∙ c.if-is_err.true)))

pub read_lines-requires : goal.read_lines-requires
read_lines-requires c =
    let lent = c.args.buffers.now in
    found_long lent.clocks.now lent.held.now lent.order.now c.check.result _ c.fresh_record.ensures (c.check.ensures ∙ ap store_refusal c.trace.ensures) (sym c.is_err.ensures.value ∙ c.if-is_err.false)
