-- `count_span`: what is counted and what stands behind the cut make up the whole.
use mathlib.Core.Path.{ap}
use native.Mathlib.Omega.{arith}
use lib.ListN.{length}
use Rattle.steps.proofs.Walks.{walk_begins, all_from_first, walk_ends, walk_goes_on, walk_stands}
use Rattle.walks.proofs.Counts.{counted_all, counted_over}
use Rattle.walks.proofs.counting.count_span.Goals as goal

pub loop-counts-init : goal.loop-counts-init
loop-counts-init c =
    let span = c.args.walk.now.span in
    (walk_begins span, omega (arith, ap length (all_from_first span)), omega arith)

pub returns : goal.returns
returns c =
    let l = c.loop-counts in
    let ended = walk_ends c.args.walk.now.span l.invariant.0 c.next_cut.ensures c.loop-counts-test.false in
    counted_all _ l.count (omega (arith, l.invariant.1, ap length ended)) l.invariant.2

pub returns-in_err-count : goal.returns-in_err-count
returns-in_err-count c =
    let l = c.loop-counts in
    let more = walk_goes_on c.args.walk.now.span l.invariant.0 c.next_cut.ensures c.loop-counts-test.true in
    rw c.from_residual.ensures (counted_over _ (omega (arith, l.invariant.1, ap length more, c.in_err-count.ensures)))

pub loop-counts-smaller : goal.loop-counts-smaller
loop-counts-smaller c =
    omega (arith, ap length (walk_goes_on c.args.walk.now.span c.loop-counts.invariant.0 c.next_cut.ensures c.loop-counts-test.true))

pub loop-counts-preserved : goal.loop-counts-preserved
loop-counts-preserved c =
    let l = c.loop-counts in
    let span = c.args.walk.now.span in
    let found = c.loop-counts-test.true in (
      walk_stands span l.invariant.0 c.next_cut.ensures found,
      omega (arith, l.invariant.1, ap length (walk_goes_on span l.invariant.0 c.next_cut.ensures found), c.in_ok-count.ensures),
      omega (arith, l.invariant.2, c.in_ok-count.ensures),
    )
