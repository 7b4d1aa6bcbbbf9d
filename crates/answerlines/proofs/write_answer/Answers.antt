-- `write_answer`: the head, the intervals, the tail.
use Rattle.std.proofs.Common.{◌+◌, ◌*◌, ◌≤◌, length, arith, length-take-le}
use Rattle.answerlines.specs.Printing.{answer_lines}
use Rattle.answerlines.proofs.Lines.{lines_join, lines_long, lines_behind, lines_front}
use Rattle.answerlines.proofs.write_answer.Goals as goal

pub returns : goal.returns
unfolding answer_lines
returns c =
    let head = c.add_head-length in
    let intervals = c.add_intervals-length in
    let tail = c.add_tail-length in
    let entries = c.args.«record».events + 1 in
    let there : entries ≤ length c.args.counts.now = omega (arith, c.requires.few, c.requires.counted) in
    let short : head.result + intervals.result ≤ 22 + 35 * 2033 = omega (arith, head.ensures.0, intervals.ensures.0, length-take-le entries c.args.counts.now there, c.requires.few) in
    let room_left : 22 + 35 * 2033 + 66 ≤ length head.new.out = omega (arith, c.requires.fits, lines_long _ _ _ _ _ head.ensures.1) in
    let middle = lines_behind head.new.out head.result _ _ _ (omega (arith, short, room_left)) intervals.ensures.1 in
    let last = lines_behind _ (head.result + intervals.result) _ _ _ (omega (arith, short, room_left, tail.ensures.0, lines_long _ _ _ _ _ middle)) tail.ensures.1 in
    let whole = lines_join _ _ _ _ _ _ _ _ head.ensures.1 (lines_join _ _ _ _ _ _ _ _ middle last) in
    (omega (arith, short, tail.ensures.0), rw (← lines_front c.args.counts.now entries there) whole)
