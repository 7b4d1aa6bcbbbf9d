-- `next_cut`: no tablet above the number can be raised, so the search goes on from there down with the counts as they were.
use mathlib.Core.Path.{◌≡◌, sym, ap, ap₂, ◌∙◌}
use mathlib.Core.Bool.{true, false}
use Prim.Native.Nat.{◌-◌}
use native.Mathlib.Omega.{arith}
use Rattle.model.specs.Clocks.{clock_at}
use Rattle.model.specs.Step.{can_raise, raised, raise_below}
use native.Mathlib.Nat.{add-sub_cancel}
use Rattle.steps.specs.Walk.{stepped, next_after}
use Rattle.steps.proofs.Below.{below_passed, below_found, step_from}
use Rattle.steps.proofs.walk.Walk.next_cut.Goals.{After-can_raise}
use Rattle.steps.proofs.walk.Walk.next_cut.Goals as goal

-- the tablet that was tested is that of the column below the counter, at the counts of the entry
tested : (c : After-can_raise) → can_raise (clock_at c.args.self.now.clocks.bytes.now) c.args.self.now.high.counts c.args.counts.now (c.loop-i.i - 1) ≡ c.can_raise.result
tested c =
    sym
    (c.can_raise.ensures
    ∙ ap₂ (can_raise (clock_at c.args.self.now.clocks.bytes.now) c.args.self.now.high.counts) c.loop-i.invariant.0 (add-sub_cancel (c.loop-i.i - 1) 1))

pub returns-then-can_raise : goal.returns-then-can_raise
returns-then-can_raise c =
    let w = c.args.self.now in
    let clk = clock_at w.clocks.bytes.now in
    let G = c.args.counts.now in
    ap (stepped true) (c.raise.ensures ∙ ap₂ (raised clk w.low.counts) c.loop-i.invariant.0 (add-sub_cancel (c.loop-i.i - 1) 1))
    ∙ ap (next_after G)
    (sym
    (step_from clk w.low.counts w.high.counts G w.tablets w.span.tablets w.span.above ∙ c.loop-i.invariant.1
    ∙ below_found clk w.low.counts w.high.counts G c.loop-i.i (omega arith) (tested (goal.at.returns-then-can_raise c).After-can_raise ∙ c.if-can_raise.true)))

pub loop-i-preserved : goal.loop-i-preserved
loop-i-preserved c =
    let w = c.args.self.now in (
      c.loop-i.invariant.0,
      c.loop-i.invariant.1
          ∙ below_passed (clock_at w.clocks.bytes.now) w.low.counts w.high.counts c.args.counts.now c.loop-i.i (omega arith) (tested (goal.at.loop-i-preserved c).After-can_raise ∙ c.if-can_raise.false),
    )

pub returns : goal.returns
returns c =
    let w = c.args.self.now in
    let clk = clock_at w.clocks.bytes.now in
    let e : c.loop-i.i ≡ 0 = omega arith in
    ap (stepped false) c.loop-i.invariant.0
    ∙ ap (next_after c.args.counts.now)
    (sym (step_from clk w.low.counts w.high.counts c.args.counts.now w.tablets w.span.tablets w.span.above ∙ c.loop-i.invariant.1 ∙ ap (raise_below clk w.low.counts w.high.counts c.args.counts.now) e))
