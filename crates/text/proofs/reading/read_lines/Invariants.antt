-- `read_lines`: the reader stands over the caller's text, and from where the step takes it the rest reads as the whole text does.
use Rattle.std.proofs.Common.{◌+◌, length}
use Rattle.store.specs.Outcomes.{SameBuffers}
use Rattle.text.specs.Reading.{reading}
use Rattle.text.proofs.Points.{left}
use Rattle.text.proofs.Steps.{Going}
use Rattle.text.proofs.reading.read_lines.Given as goal

abbrev pub invariant-loop-step : goal.invariant-loop-step
invariant-loop-step l =
    let lent = l.fn.buffers in
    let now = l.buffers in
    record {
      going : Going l.text (reading l.text lent.clocks.now lent.held.now lent.order.now) l.reader l.step now.clocks.now now.held.now now.order.now;
      same : SameBuffers lent now;
    }

abbrev pub decreases-loop-step : goal.decreases-loop-step
decreases-loop-step l = left l.step.next (length l.text) (l.reader.at + l.step.bytes)
