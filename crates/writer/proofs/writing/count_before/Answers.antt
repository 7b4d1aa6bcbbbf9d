-- `count_before`: what is counted is the tally.
use mathlib.Core.Path.{◌∙◌}
use mathlib.Core.Bool.{Bool}
use Prim.Native.Nat.{ℕ, ◌-◌}
use native.Mathlib.Omega.{arith}
use lib.Dec.{eqb}
use lib.ListN.{take}
use Rattle.std.proofs.Common.{rules, tests}
use Rattle.std.proofs.lemmas.Iterator.{YieldsList-from_slice}
use Rattle.std.proofs.lemmas.Iterator.Consumers.{YieldsList-at, YieldsList-from_filter, count_from_yields_List}
use Rattle.std.proofs.lemmas.List.Sums.{length-filter}
use Rattle.writer.proofs.Counting.{counted_tally}
use Rattle.writer.proofs.writing.count_before.Goals as goal

pub returns : goal.returns
returns c =
    let a = c.args in
    let test : ℕ → Bool = λ b. eqb b a.tablet.0 in
    let before = take a.count a.order.now in
    count_from_yields_List c.filter.result _ c.count.ensures.ran
    (YieldsList-from_filter _ test (YieldsList-at c.filter.ensures.source (YieldsList-from_slice before cc)) c.filter.ensures.closure (λ x b q k. search (rules, tests)))
    ∙ length-filter test before
    ∙ counted_tally a.order.now a.tablet.0 (a.tablet.0 - 1) (omega (arith, c.requires.1)) a.count c.requires.0
