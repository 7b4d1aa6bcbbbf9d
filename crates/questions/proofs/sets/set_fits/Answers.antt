-- `set_fits`: `all` over the columns is the test of each tablet that the mask names.
use mathlib.Core.Path.{sym, ◌∙◌}
use mathlib.Core.Bool.{Bool, true, cond}
use native.Mathlib.Omega.{arith}
use Prim.Native.Nat.{ℕ, ◌+◌, ◌-◌}
use lib.Dec.{ltb}
use Rattle.std.proofs.Common.{rules, tests}
use Rattle.std.proofs.lemmas.Iterator.{YieldsList-from_range}
use Rattle.std.proofs.lemmas.Iterator.Search.{all_from_yields_List}
use Rattle.model.specs.Questions.{names}
use Rattle.model.proofs.Columns.{all_columns}
use Rattle.questions.proofs.Laws.{set_empty, set_by_bits}
use Rattle.questions.proofs.sets.set_fits.Goals as goal

pub returns-then-mask-ge1 : goal.returns-then-mask-ge1
returns-then-mask-ge1 c =
    let a = c.args in
    let rule : ℕ → ℕ → Bool = λ j i. cond (names a.mask i) (ltb i a.n) true in
    all_from_yields_List (λ i. rule (i + 1 - 1) i) c.all.new.self _ _ c.all.ensures.ran (YieldsList-from_range 0 8 8 (cc) (omega arith)) (λ x b q k. search (rules, tests))
    ∙ all_columns rule ∙ sym (set_by_bits a.n a.mask c.if-mask-ge1.true)

pub returns-else-mask-ge1 : goal.returns-else-mask-ge1
returns-else-mask-ge1 c = set_empty c.args.n c.args.mask c.if-mask-ge1.false
