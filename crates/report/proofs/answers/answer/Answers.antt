-- `answer`: the question, the trace, the answer.
use Rattle.std.proofs.Common.{◌≡◌, ℕ, List, ◌+◌, ◌-◌, length, take, drop, sym, ap, ◌∙◌}
use Rattle.std.proofs.lemmas.List.{take_rest}
use Rattle.lines.specs.Find.{line_length, rest_lines}
use Rattle.report.specs.Report.{outcome, told_whole}
use Rattle.report.proofs.Asking.{follows_refused, follows_answered, read_sound}
use Rattle.report.proofs.Outcomes.{told_line}
use Rattle.report.proofs.answers.answer.Goals as goal

-- what is read is the rest of the input
rest : (input : List ℕ) (end : ℕ) → end ≡ line_length input → take (length input - (end + 1)) (drop (end + 1) input) ≡ rest_lines input
rest input end is = take_rest input (end + 1) ∙ ap (λ k. drop (k + 1) input) is

pub returns-in_err-record-clause-told : goal.returns-in_err-record-clause-told
returns-in_err-record-clause-told c =
    let a = c.args in
    let lent = a.buffers.now in
    follows_refused a.input.now lent.clocks.now lent.held.now lent.order.now a.out.now _ (sym c.look_at.ensures ∙ c.in_ok-question.was) _ (rest a.input.now _ c.line_length-trace.ensures) _ _ _ _ c.read-read.ensures.read _ c.in_err-record.was _ c.from_residual-in_err-record.ensures.1

pub answer_store-requires : goal.answer_store-requires
answer_store-requires c =
    let a = c.args in
    let lent = a.buffers.now in
    (read_sound a.input.now lent.clocks.now lent.held.now lent.order.now a.out.now _ (sym c.look_at.ensures ∙ c.in_ok-question.was) _ (rest a.input.now _ c.line_length-trace.ensures) _ _ _ _ c.read-read.ensures.read _ c.in_ok-record.was _ c.trace.ensures, c.requires)

pub returns-in_err-answer_store-clause-told : goal.returns-in_err-answer_store-clause-told
returns-in_err-answer_store-clause-told c =
    let a = c.args in
    let lent = a.buffers.now in
    let left = c.read-read.new.buffers in
    ap (λ p. outcome p left.clocks.now left.held.now left.order.now) (told_line _ _ _ c.in_err-answer_store.was _ c.from_residual-in_err-answer_store.ensures.1)
    ∙ follows_answered a.input.now lent.clocks.now lent.held.now lent.order.now a.out.now _ (sym c.look_at.ensures ∙ c.in_ok-question.was) _ (rest a.input.now _ c.line_length-trace.ensures) _ _ _ _ c.read-read.ensures.read _ c.in_ok-record.was _ c.trace.ensures _ _ c.answer_store.ensures

pub returns-clause-told : goal.returns-clause-told
returns-clause-told c =
    let a = c.args in
    let lent = a.buffers.now in
    let left = c.read-read.new.buffers in
    ap (λ x. outcome (told_whole x c.answer_store.new.out) left.clocks.now left.held.now left.order.now) (sym c.in_ok-answer_store.was)
    ∙ follows_answered a.input.now lent.clocks.now lent.held.now lent.order.now a.out.now _ (sym c.look_at.ensures ∙ c.in_ok-question.was) _ (rest a.input.now _ c.line_length-trace.ensures) _ _ _ _ c.read-read.ensures.read _ c.in_ok-record.was _ c.trace.ensures _ _ c.answer_store.ensures
