-- `known_covered`: no event knows nothing.
use mathlib.Core.Path.{sym, ap, ◌∙◌}
use Prim.Native.Nat.{ℕ}
use Rattle.model.specs.Numbers.{column}
use Rattle.model.specs.Clocks.{clock_at, covered, known}
use Rattle.model.proofs.Entries.{zeros_covered}
use Rattle.rules.proofs.clocks.known_covered.Goals as goal

pub returns-then-number-eq0 : goal.returns-then-number-eq0
returns-then-number-eq0 c =
    let a = c.args in
    sym
    (ap (λ (k : ℕ). covered (known (clock_at a.clocks.bytes.now) (column a.tablet) k) a.clock.now) c.if-number-eq0.true
    ∙ zeros_covered a.clock.now)
