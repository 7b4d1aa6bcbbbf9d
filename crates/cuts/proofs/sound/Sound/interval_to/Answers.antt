-- `interval_to`: the bounds that were read are those of a walk.
use Rattle.cuts.proofs.Traces.{interval_bounds}
use Rattle.cuts.proofs.sound.Sound.interval_to.Goals as goal

pub invariant_of-result : goal.invariant_of-result
invariant_of-result c =
    record { span = interval_bounds c.args.self _ _ _ c.lent_clocks-clocks.ensures c.args.position.0 c.requires.inside c.interval_span-span.ensures }
