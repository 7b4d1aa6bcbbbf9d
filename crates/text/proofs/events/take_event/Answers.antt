-- `take_event`: a faulty line leaves all as it was; else the event is offered to the store.
use Rattle.std.proofs.Common.{◌∙◌, ℕ, sym, ap, rules}
use Rattle.std.proofs.lemmas.Result.{err_from_is_err_and}
use Rattle.loglines.specs.Events.{event_lines}
use Rattle.text.proofs.Turns.{failed_as, passed_as}
use Rattle.text.proofs.Steps.{event_faulty, event_refused, event_taken}
use Rattle.text.proofs.events.take_event.Goals as goal

pub returns-in_err-lines-clause-read : goal.returns-in_err-lines-clause-read
returns-in_err-lines-clause-read c =
    let a = c.args in
    let as_read = ap (λ (n : ℕ). event_lines n a.ahead.now) (sym c.from.ensures) ∙ sym c.read_event.ensures in
    let p = err_from_is_err_and c.from_residual.result c.from_residual.ensures.1 in
    let f = failed_as c.read_event.result c.map_err.result _ c.in_err-lines.field-0.0 c.map_err.ensures.cases c.in_err-lines.was in
    rw (p.1, p.2) (event_faulty a.«record» a.buffers.now.clocks.now a.buffers.now.held.now a.buffers.now.order.now a.ahead.now f.0 _ (as_read ∙ f.1) (search (rules, f.2)))

pub returns-in_err-done-clause-read : goal.returns-in_err-done-clause-read
returns-in_err-done-clause-read c =
    let a = c.args in
    let as_read = ap (λ (n : ℕ). event_lines n a.ahead.now) (sym c.from.ensures) ∙ sym c.read_event.ensures in
    let p = err_from_is_err_and c.from_residual-in_err-done.result c.from_residual-in_err-done.ensures.1 in
    let f = failed_as c.append.result c.map_err-2.result _ c.in_err-done.field-0.0 c.map_err-2.ensures.cases c.in_err-done.was in
    let lines = passed_as c.read_event.result c.map_err.result _ c.in_ok-lines.lines c.map_err.ensures.cases c.in_ok-lines.was in
    rw (p.1, p.2) (event_refused a.«record» a.buffers.now.clocks.now a.buffers.now.held.now a.buffers.now.order.now a.ahead.now c.in_ok-lines.lines (as_read ∙ lines) c.append.result c.append.new.buffers.clocks.now c.append.new.buffers.held.now c.append.new.buffers.order.now a.tallies c.append.ensures.appended f.0 _ f.1 (search (rules, f.2)))

pub returns-clause-read : goal.returns-clause-read
returns-clause-read c =
    let a = c.args in
    let as_read = ap (λ (n : ℕ). event_lines n a.ahead.now) (sym c.from.ensures) ∙ sym c.read_event.ensures in
    let lines = passed_as c.read_event.result c.map_err.result _ c.in_ok-lines.lines c.map_err.ensures.cases c.in_ok-lines.was in
    let done = passed_as c.append.result c.map_err-2.result _ c.in_ok-done.done c.map_err-2.ensures.cases c.in_ok-done.was in
    event_taken a.«record» a.buffers.now.clocks.now a.buffers.now.held.now a.buffers.now.order.now a.ahead.now c.in_ok-lines.lines (as_read ∙ lines) c.append.result c.append.new.buffers.clocks.now c.append.new.buffers.held.now c.append.new.buffers.order.now a.tallies c.append.ensures.appended c.in_ok-done.done done (search rules) c.requires
