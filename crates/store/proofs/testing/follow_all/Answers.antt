-- `follow_all`: the events passed so far each may follow, and `tallies` are the tallies after them.
use mathlib.Core.Path.{refl, sym, ◌∙◌}
use Rattle.model.specs.Lists.{eight}
use Rattle.model.specs.Follow.{tallies}
use Rattle.store.proofs.Laws.{turn_bounded, turn_stops, turn_passes}
use Rattle.store.proofs.testing.follow_all.Goals as goal

pub loop-byte-init : goal.loop-byte-init
unfolding eight tallies
loop-byte-init c = (tt, refl)

pub invariant_of-past : goal.invariant_of-past
invariant_of-past c =
    record { narrow = c.requires.0; bounded = turn_bounded _ c.requires.0 _ _ _ c.loop-byte.invariant.0 _ c.loop-byte.invariant.1 }

pub returns-in_err-ok : goal.returns-in_err-ok
returns-in_err-ok c =
    turn_stops _ c.requires.0 _ _ _ c.loop-byte.invariant.0 _ c.loop-byte.invariant.1 _ c.requires.1 c.loop-byte-test.true _ c.stored_verdict.ensures.number _ (sym c.ok.ensures.value ∙ c.in_err-ok.was) c.from_residual.ensures

pub loop-byte-preserved : goal.loop-byte-preserved
loop-byte-preserved c =
    turn_passes _ c.requires.0 _ _ _ c.loop-byte.invariant.0 _ c.loop-byte.invariant.1 _ c.requires.1 c.loop-byte-test.true _ c.stored_verdict.ensures.number _ (sym c.ok.ensures.value ∙ c.in_ok-ok.was)
