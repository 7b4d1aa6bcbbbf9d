-- `covers_known`: `all` over the columns is the test of each event that has to be covered.
use mathlib.Core.Path.{◌∙◌}
use mathlib.Core.Bool.{Bool}
use native.Mathlib.Omega.{arith}
use Prim.Native.Nat.{ℕ, ◌+◌, ◌-◌}
use Rattle.std.proofs.Common.{rules, tests}
use Rattle.std.proofs.lemmas.Iterator.{YieldsList-from_range}
use Rattle.std.proofs.lemmas.Iterator.Search.{all_from_yields_List}
use Rattle.model.specs.Lists.{at}
use Rattle.model.specs.Numbers.{column}
use Rattle.model.specs.Clocks.{clock_at, covered, known}
use Rattle.model.specs.Follow.{last_known, covers}
use Rattle.model.proofs.Columns.{all_columns}
use Rattle.rules.proofs.follow.Past.covers_known.Goals as goal

pub returns : goal.returns
unfolding covers
returns c =
    let a = c.args in
    let rule : ℕ → ℕ → Bool = λ j i. covered (known (clock_at a.self.clocks.bytes.now) j (last_known (column a.own) j (at a.self.tallies.now i) (at a.clock.now i))) a.clock.now in
    all_from_yields_List (λ i. rule (i + 1 - 1) i) c.all.new.self _ _ c.all.ensures.ran (YieldsList-from_range 0 8 8 (cc) (omega arith)) (λ x b q k. search (rules, tests))
    ∙ all_columns rule
