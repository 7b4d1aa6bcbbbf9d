-- A tablet's number i and its column i - 1.
use mathlib.Core.Path.{◌≡◌, ap₂, ◌∙◌}
use mathlib.Core.Bool.{Bool}
use Prim.Native.Nat.{ℕ, ◌+◌, ◌-◌}
use native.Mathlib.Omega.{arith}
use Rattle.std.specs.List.{list_all, range_with_len}
use Rattle.model.specs.Lists.{all_below}
use Rattle.model.proofs.Tests.{all_in_range, all_below_same}

-- a test of each of the eight tablets by its number, and of what stands in its column
pub all_columns : (rule : ℕ → ℕ → Bool) → list_all (λ i. rule (i + 1 - 1) i) (range_with_len 0 8) ≡ all_below 8 (λ j. rule j j)
all_columns rule =
    all_in_range (λ i. rule (i + 1 - 1) i) 8 0
    ∙ all_below_same 8 (λ j. rule (0 + j + 1 - 1) (0 + j)) (λ j. rule j j)
    (λ j h. let column : 0 + j + 1 - 1 ≡ j = omega arith in
    let place : 0 + j ≡ j = omega arith in
    ap₂ rule column place)
