-- A walk's range: its cuts, where the engine may stand in it, and the step from there.
use Rattle.std.specs.Prelude.{List, ℕ}
use Rattle.std.proofs.Math.Option.{Option}
use Rattle.model.specs.Clocks.{Clocks, clock_at}
use Rattle.model.specs.Cuts.{cuts_between}
use Rattle.model.specs.Ranges.{InRange}
use Rattle.model.specs.Step.{step}
use Rattle.steps.specs.declared.walk.Walk.{Walk}

abbrev pub walk_clocks : Walk → Clocks
walk_clocks w = clock_at w.clocks.bytes.now

abbrev pub cuts_of : Walk → List (List ℕ)
cuts_of w = cuts_between (walk_clocks w) w.low.counts w.high.counts

-- at one of its cuts
abbrev pub Standing : Walk → List ℕ → Type 0
Standing w G = InRange (walk_clocks w) w.low.counts w.high.counts G

abbrev pub step_of : Walk → List ℕ → Option (List ℕ)
step_of w G = step (walk_clocks w) w.low.counts w.high.counts G
