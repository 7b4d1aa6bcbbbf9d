-- `count_all`: the sum and the counts of the positions passed, and the tallies after the position that is due.
use Rattle.std.proofs.Common.{◌+◌, refl, ◌∙◌, arith}
use Rattle.model.specs.Lists.{eight}
use Rattle.model.specs.Follow.{tallies}
use Rattle.store.proofs.Theorems.{sound_limits}
use Rattle.cuts.proofs.Traces.{none, countable_to}
use Rattle.report.proofs.Sums.{none_below, count_over, given_over, counted_more, none_counted, all_counted}
use Rattle.report.proofs.totals.count_all.Goals as goal
use Rattle.report.proofs.totals.count_all.Goals.{then-p-trace, else-p-trace}

pub loop-p-init : goal.loop-p-init
unfolding eight tallies
loop-p-init c = ((λ held. none_below _ _), (λ h. refl))

pub returns-in_err-count : goal.returns-in_err-count
returns-in_err-count c = λ held.
    none_counted _ _ _ c.from_residual.ensures (count_over _ c.loop-p.p c.loop-p-test.true _ (c.count_interval_with.ensures held) c.in_err-count.ensures.value)

pub returns-in_err-sum : goal.returns-in_err-sum
returns-in_err-sum c = λ held.
    none_counted _ _ _ c.from_residual-in_err-sum.ensures (given_over _ c.loop-p.p c.loop-p-test.true _ (c.count_interval_with.ensures held) _ _ _ c.in_ok-count.ensures.value (c.loop-p.invariant.0 held) (omega (arith, c.in_err-sum.ensures)))

pub bounds-counts-p : goal.bounds-counts-p
bounds-counts-p c = omega (arith, sound_limits _ (none c.args.trace))

pub tally_next-requires : goal.tally_next-requires
tally_next-requires c = (countable_to c.args.trace (c.loop-p.p + 1) (omega (arith, c.if-p-trace.true)), c.loop-p.invariant.1 c.loop-p-test.true)

pub loop-p-preserved : goal.loop-p-preserved
loop-p-preserved c = (
  (λ held. counted_more _ c.loop-p.p c.loop-p-test.true _ (c.count_interval_with.ensures held) _ _ _ c.in_ok-count.ensures.value (c.loop-p.invariant.0 held) _ c.in_ok-sum.ensures.1 (omega (arith, sound_limits _ (none c.args.trace)))),
  (λ h. elim c.if-p-trace.branch [
    | then-p-trace w ↦ w.tallies-is ∙ w.tally_next.ensures
    | else-p-trace w ↦ absurd (omega (arith, h, w.if-p-trace.false))
  ]),
)

pub returns-after-p-trace : goal.returns-after-p-trace
returns-after-p-trace c = λ held.
    let more = counted_more _ c.loop-p.p c.loop-p-test.true _ (c.count_interval_with.ensures held) _ _ _ c.in_ok-count.ensures.value (c.loop-p.invariant.0 held) _ c.in_ok-sum.ensures.1 (omega (arith, sound_limits _ (none c.args.trace))) in
    all_counted _ (c.loop-p.p + 1) c.in_ok-sum.sum _ (omega arith) (omega (arith, c.in_ok-sum.ensures.0, c.in_ok-sum.ensures.1)) more
