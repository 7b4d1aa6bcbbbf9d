-- `stored_verdict`: as `offered_verdict`, of the clock where it lies.
use mathlib.Core.Path.{ap, ◌∙◌}
use mathlib.Core.List.{List}
use Prim.Native.Nat.{ℕ}
use Rattle.model.specs.Clocks.{clock_at}
use Rattle.model.specs.Numbers.{column}
use Rattle.model.specs.Follow.{clock_refusal, follow_refusal}
use Rattle.model.proofs.Refusals.{chain_stops, chain_goes}
use Rattle.rules.proofs.follow.Past.stored_verdict.Goals as goal

pub returns-in_err-tablet_verdict-clause-number : goal.returns-in_err-tablet_verdict-clause-number
unfolding follow_refusal
returns-in_err-tablet_verdict-clause-number c = chain_stops _ _ _ _ _ c.tablet_verdict.ensures.number c.in_err-tablet_verdict.was c.from_residual.ensures.1

pub returns-clause-number : goal.returns-clause-number
unfolding follow_refusal
returns-clause-number c =
    let a = c.args in
    chain_goes _ _ _ _ _ c.tablet_verdict.ensures.number c.in_ok-tablet_verdict.was
    (c.clock_verdict.ensures
    ∙ ap (λ (X : List ℕ). clock_refusal a.self.tablets (clock_at a.self.clocks.bytes.now) a.self.tallies.now (column a.tablet) X) c.stored-clock.ensures.clock)
