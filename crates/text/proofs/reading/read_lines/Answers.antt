-- `read_lines`: the reader goes where the step says, and the next turn goes on from there.
use Rattle.std.proofs.Common.{arith, rules}
use Rattle.text.proofs.Places.{few_lines}
use Rattle.text.proofs.Steps.{going_to, goes_on}
use Rattle.text.proofs.reading.read_lines.Goals as goal

pub overflow_add-line : goal.overflow_add-line
overflow_add-line c =
    let l = c.loop-step in
    let to = going_to c.args.text.now _ l.reader l.step _ _ _ l.invariant.going in
    omega (arith, to.inside, few_lines c.args.text.now _ _ to, c.well_formed.0)

pub loop-step-preserved : goal.loop-step-preserved
loop-step-preserved c =
    let l = c.loop-step in
    record {
      going = goes_on c.args.text.now _ l.reader l.step _ _ _ l.invariant.going c.moved-reader.result _ _ _ _ c.in-More.tallies c.in-More.is c.moved-reader.ensures c.event_turn-step.ensures.taken;
      same = search rules;
    }
