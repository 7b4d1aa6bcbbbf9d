-- `show`: what is written so far, and what is still to be shown.
use Rattle.steps.specs.Walked.{Standing, cuts_of}
use Rattle.walks.specs.Showing.{from_cut}
use Rattle.walks.proofs.Progress.{Written}
use Rattle.walks.proofs.showing.show.Given as goal

abbrev pub invariant-loop-shown : goal.invariant-loop-shown
invariant-loop-shown l = Standing l.walk l.counts × Written (from_cut (cuts_of l.walk) l.initial.counts) l.initial.out l.out (from_cut (cuts_of l.walk) l.counts) l.shown l.place
