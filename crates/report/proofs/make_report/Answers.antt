-- `make_report`: the room of the output, and what follows.
use Rattle.std.proofs.Common.{sym, ap, ◌∙◌}
use Rattle.report.specs.Report.{outcome, told}
use Rattle.report.proofs.Asking.{report_follows}
use Rattle.report.proofs.make_report.Goals as goal

pub returns-in-Ok-clause-report : goal.returns-in-Ok-clause-report
returns-in-Ok-clause-report c =
    let a = c.args in
    let lent = a.buffers.now in
    let new = c.answer.new in
    ap (λ x. outcome (told x new.out) new.buffers.clocks.now new.buffers.held.now new.buffers.order.now) (sym c.in-Ok.is)
    ∙ c.answer.ensures.told
    ∙ report_follows a.input.now lent.clocks.now lent.held.now lent.order.now a.out.now c.if-out-lt-OUTPUT_SIZE.false

pub returns-in-Err-clause-report : goal.returns-in-Err-clause-report
returns-in-Err-clause-report c =
    let a = c.args in
    let lent = a.buffers.now in
    let new = c.answer.new in
    ap (λ p. outcome p new.buffers.clocks.now new.buffers.held.now new.buffers.order.now) c.write_refusal.ensures
    ∙ ap (λ x. outcome (told x new.out) new.buffers.clocks.now new.buffers.held.now new.buffers.order.now) (sym c.in-Err.is)
    ∙ c.answer.ensures.told
    ∙ report_follows a.input.now lent.clocks.now lent.held.now lent.order.now a.out.now c.if-out-lt-OUTPUT_SIZE.false
