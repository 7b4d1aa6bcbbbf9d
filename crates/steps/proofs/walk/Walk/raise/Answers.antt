-- `raise`: the columns before i are filled; the rest are as they were.
use native.Mathlib.Omega.{arith}
use Rattle.model.specs.Numbers.{column}
use Rattle.model.specs.Clocks.{clock_at}
use Rattle.steps.proofs.Raise.{filled_more, needed_told, column_fits, first_stored, filled_end}
use Rattle.steps.proofs.walk.Walk.raise.Goals as goal

pub least_entry-requires : goal.least_entry-requires
least_entry-requires c =
    let lift = c.requires.1 in
    let span = c.args.self.now.span in (
      c.requires.0,
      omega arith,
      record {
        upto = column_fits span lift;
        column = omega (arith, c.loop-i-test.true, span.tablets);
        stored = λ i h. omega (arith, c.loop-i.invariant.kept i h, first_stored span lift i h);
      },
    )

pub loop-i-preserved : goal.loop-i-preserved
loop-i-preserved c =
    let a = c.args in
    let w = a.self.now in
    let clk = clock_at w.clocks.bytes.now in
    filled_more clk w.low.counts _ (column a.tablet) w.tablets c.loop-i.counts c.loop-i.i c.least_entry.result c.loop-i.invariant c.loop-i-test.true w.span.tablets
    (needed_told clk w.low.counts c.loop-i.counts a.tablet.0 c.loop-i.i c.least_entry.result c.requires.0 c.least_entry.ensures)

pub returns : goal.returns
returns c = filled_end c.args.self.now.span c.requires.1 c.loop-i.counts c.loop-i.i c.loop-i.invariant (omega (arith, c.loop-i-test.false))
