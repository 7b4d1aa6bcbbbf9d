-- `range`: the bounds of the whole trace are those of a walk.
use Rattle.cuts.proofs.Traces.{trace_bounds}
use Rattle.cuts.proofs.sound.Sound.range.Goals as goal

pub invariant_of-result : goal.invariant_of-result
invariant_of-result c = record { span = trace_bounds c.args.self _ _ _ c.lent_clocks.ensures c.trace_span-span.ensures }
