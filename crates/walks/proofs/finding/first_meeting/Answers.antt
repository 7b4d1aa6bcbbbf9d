-- `first_meeting`: no cut passed so far meets the question, so the first is to be found from the cut on.
use mathlib.Core.Path.{sym, ap, ◌∙◌}
use native.Mathlib.Omega.{arith}
use lib.ListN.{length}
use Rattle.model.specs.Lists.{zeros}
use Rattle.steps.specs.Walked.{cuts_of}
use Rattle.steps.proofs.Walks.{walk_begins, all_from_first, walk_ends, walk_goes_on, walk_stands}
use Rattle.walks.proofs.Firsts.{first_skips, first_ends}
use Rattle.walks.proofs.finding.first_meeting.Invariants.{first}
use Rattle.walks.proofs.finding.first_meeting.Goals as goal

pub loop-question-init : goal.loop-question-init
loop-question-init c =
    let span = c.args.walk.now.span in
    (walk_begins span, λ s e. ap (first s c.args.question) (all_from_first span))

pub returns-then-not-next_cut : goal.returns-then-not-next_cut
unfolding zeros
returns-then-not-next_cut c = λ s e.
    let l = c.loop-question in
    first_ends s c.args.question (cuts_of c.args.walk.now) l.counts _ (l.invariant.1 s e) (sym (c.cut_meets.ensures s e) ∙ c.if-cut_meets.false)
    (walk_ends c.args.walk.now.span l.invariant.0 c.next_cut.ensures c.if-not-next_cut.true)

pub loop-question-smaller : goal.loop-question-smaller
loop-question-smaller c =
    omega (arith, ap length (walk_goes_on c.args.walk.now.span c.loop-question.invariant.0 c.next_cut.ensures c.if-not-next_cut.false))

pub loop-question-preserved : goal.loop-question-preserved
loop-question-preserved c =
    let l = c.loop-question in
    let q = c.args.question in
    let span = c.args.walk.now.span in
    let found = c.if-not-next_cut.false in (
      walk_stands span l.invariant.0 c.next_cut.ensures found,
      λ s e. first_skips s q (cuts_of c.args.walk.now) l.counts _ (l.invariant.1 s e) (sym (c.cut_meets.ensures s e) ∙ c.if-cut_meets.false)
          ∙ ap (first s q) (walk_goes_on span l.invariant.0 c.next_cut.ensures found),
    )
