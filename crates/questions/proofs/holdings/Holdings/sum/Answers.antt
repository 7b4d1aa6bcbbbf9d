-- `sum`: the sum over the columns is the sum of the holdings.
use mathlib.Core.Path.{◌≡◌, ◌∙◌}
use Rattle.std.specs.List.{range_with_len, sum_by}
use Rattle.model.specs.Lists.{sum_below}
use native.Mathlib.Omega.{arith}
use Prim.Native.Nat.{ℕ, ◌+◌, ◌-◌}
use Rattle.std.proofs.Common.{rules}
use Rattle.std.proofs.lemmas.Iterator.{YieldsList-from_range, YieldsList-from_map}
use Rattle.std.proofs.lemmas.Iterator.Adapters.{fits_from_length, at_most_from_yields_List}
use Rattle.std.proofs.lemmas.Iterator.Consumers.{sum_by_from_yields_List}
use Rattle.model.specs.Questions.{holding, sum_held}
use Rattle.questions.proofs.holdings.Holdings.sum.Goals as goal

pub sum-requires-clause-fits : goal.sum-requires-clause-fits
sum-requires-clause-fits c =
    fits_from_length _ _ 8 4294967296 (at_most_from_yields_List (YieldsList-from_range 0 8 8 (cc) (omega arith)) (omega arith)) c.map.ensures.closure (omega arith) (λ x r q k. search (rules, arith))

pub returns : goal.returns
unfolding sum_held
returns c = λ s e.
    let G = c.args.counts.now in
    let rule : ℕ → ℕ = λ j. holding s G (j + 1 - 1) in
    sum_by_from_yields_List rule (range_with_len 0 8) c.map.result c.sum.result c.sum.ensures.ran
    (YieldsList-from_map _ rule (YieldsList-from_range 0 8 8 (cc) (omega arith)) c.map.ensures.closure (λ x r q k. search rules))
    ∙ (let summed : sum_by rule (range_with_len 0 8) ≡ sum_below 8 (holding s G) = omega arith in summed)
