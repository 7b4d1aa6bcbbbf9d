-- `answer_job`: 9 for a position above T, 13 for a set that does not fit, else the first cut of the range that meets.
use mathlib.Core.Path.{refl, sym, ◌∙◌}
use Rattle.store.specs.Outcomes.{store_in}
use Rattle.store.proofs.Ready.{tested_full}
use Rattle.cuts.proofs.Answers.{ask_answered}
use Rattle.cuts.proofs.inner.answer_job.Goals as goal

pub invariant_of-holdings : goal.invariant_of-holdings
invariant_of-holdings c = record { full = (tested_full (store_in c.args.trace) c.requires).held }

pub returns : goal.returns
returns c =
    let t = c.args.trace in
    let read = (rw c.in_ok-walk.ensures.ok_part at c.range.ensures) t.held.now in
    ask_answered (store_in t) c.args.job read.0 _ c.first_meeting.result (sym c.question_fits.ensures ∙ c.if-not-question_fits.false) read.1 (c.first_meeting.ensures (store_in t) refl)
