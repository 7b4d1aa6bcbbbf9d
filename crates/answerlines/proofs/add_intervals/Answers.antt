-- `add_intervals`: one line more behind those of the positions passed.
use Rattle.std.proofs.Common.{arith}
use Rattle.model.specs.Lists.{at}
use Rattle.answerlines.proofs.Lines.{lines_join, lines_behind, lines_next}
use Rattle.answerlines.proofs.add_intervals.Goals as goal

pub loop-p-preserved : goal.loop-p-preserved
loop-p-preserved c =
    let l = c.loop-p in
    let line = c.add_interval-length.ensures in
    let behind = lines_behind l.out l.length _ _ _ (omega (arith, line.0, l.invariant.0, c.requires.1)) line.1 in
    (omega (arith, line.0, l.invariant.0), rw (lines_next (at c.args.counts.now) l.p) (lines_join _ _ _ _ _ _ _ _ l.invariant.1 behind))
