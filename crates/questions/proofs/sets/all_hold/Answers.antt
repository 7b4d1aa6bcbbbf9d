-- `all_hold`: `all` over the columns is the test of each tablet that the mask names.
use mathlib.Core.Path.{◌∙◌}
use mathlib.Core.Bool.{Bool, true, cond}
use native.Mathlib.Omega.{arith}
use Prim.Native.Nat.{ℕ, ◌+◌, ◌-◌}
use lib.Dec.{leb}
use Rattle.std.proofs.Common.{rules, tests}
use Rattle.std.proofs.lemmas.Iterator.{YieldsList-from_range}
use Rattle.std.proofs.lemmas.Iterator.Search.{all_from_yields_List}
use Rattle.model.specs.Questions.{holding, names}
use Rattle.model.proofs.Columns.{all_columns}
use Rattle.questions.proofs.sets.all_hold.Goals as goal

pub returns : goal.returns
returns c = λ s e.
    let a = c.args in
    let rule : ℕ → ℕ → Bool = λ j i. cond (names a.mask i) (leb 1 (holding s a.counts.now j)) true in
    all_from_yields_List (λ i. rule (i + 1 - 1) i) c.all.new.self _ _ c.all.ensures.ran (YieldsList-from_range 0 8 8 (cc) (omega arith)) (λ x b q k. search (rules, tests))
    ∙ all_columns rule
