-- `offered_verdict`: what the tablet refuses is given first, else what the clock refuses.
use Rattle.model.specs.Follow.{follow_refusal}
use Rattle.model.proofs.Refusals.{chain_stops, chain_goes}
use Rattle.rules.proofs.follow.Past.offered_verdict.Goals as goal

pub returns-in_err-tablet_verdict-clause-number : goal.returns-in_err-tablet_verdict-clause-number
unfolding follow_refusal
returns-in_err-tablet_verdict-clause-number c = chain_stops _ _ _ _ _ c.tablet_verdict.ensures.number c.in_err-tablet_verdict.was c.from_residual.ensures.1

pub returns-clause-number : goal.returns-clause-number
unfolding follow_refusal
returns-clause-number c = chain_goes _ _ _ _ _ c.tablet_verdict.ensures.number c.in_ok-tablet_verdict.was c.clock_verdict.ensures
