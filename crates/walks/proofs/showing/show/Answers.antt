-- `show`: what is written so far, and what is still to be shown.
use Prim.Native.Nat.{◌+◌}
use native.Mathlib.Omega.{arith}
use Rattle.model.specs.Lists.{keep}
use Rattle.model.specs.Lexical.{lex_before}
use Rattle.steps.specs.Walked.{cuts_of}
use Rattle.steps.proofs.Walks.{walk_ends, walk_goes_on, walk_stands}
use Rattle.walks.specs.Showing.{from_cut}
use Rattle.walks.proofs.Progress.{Written, written_start, written_on, written_more, written_ends, written_full}
use Rattle.walks.proofs.showing.show.Goals.{After-next_cut}
use Rattle.walks.proofs.showing.show.Goals as goal

pub loop-shown-init : goal.loop-shown-init
loop-shown-init c = (c.requires.0, written_start _ _ _)

-- once more the cut is written, and what stands behind it is still to be shown
written_here : (c : After-next_cut) → Written (from_cut (cuts_of c.args.walk.now) c.args.first.counts) c.args.out.now c.write_eight.new.bytes (keep (lex_before c.loop-shown.counts) (cuts_of c.args.walk.now)) (c.loop-shown.shown + 1) c.behind-place-in-loop-shown.result
written_here c =
    let l = c.loop-shown in
    written_more l.counts l.invariant.1.progress l.invariant.0.long (omega arith) c.write_eight.new.bytes _ c.write_eight.ensures c.behind-place-in-loop-shown.ensures

pub returns-then-not-next_cut : goal.returns-then-not-next_cut
returns-then-not-next_cut c =
    written_ends (written_here (goal.at.returns-then-not-next_cut c).After-next_cut) (omega arith)
    (walk_ends c.args.walk.now.span c.loop-shown.invariant.0 c.next_cut.ensures c.if-not-next_cut.true)

pub loop-shown-preserved : goal.loop-shown-preserved
loop-shown-preserved c =
    let span = c.args.walk.now.span in
    let found = c.if-not-next_cut.false in (
      walk_stands span c.loop-shown.invariant.0 c.next_cut.ensures found,
      written_on (walk_goes_on span c.loop-shown.invariant.0 c.next_cut.ensures found) (written_here (goal.at.loop-shown-preserved c).After-next_cut),
    )

pub returns : goal.returns
returns c = written_full c.loop-shown.invariant.1 (omega (arith, c.requires.1)) (omega arith) (omega arith)
