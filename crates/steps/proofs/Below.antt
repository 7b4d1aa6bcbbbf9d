-- Looking for the last tablet that can be raised, from the last column down.
use mathlib.Core.Path.{◌≡◌, sym, ap, ◌∙◌}
use mathlib.Core.Bool.{Bool, true, false, cond}
use mathlib.Core.List.{List}
use mathlib.Core.Option.{Option, some}
use Prim.Native.Nat.{ℕ, zero, suc, ◌-◌, ◌≤◌, ◌<◌}
use native.Mathlib.Omega.{arith}
use native.Mathlib.Decide.{ℕ_discrete}
use mathlib.Core.Logic.{by_cases}
use Rattle.model.specs.Lists.{at}
use Rattle.model.specs.Clocks.{Clocks}
use Rattle.model.specs.Step.{can_raise, raised, raise_below, step}
use Rattle.steps.proofs.Entries.{raise_no_room}

module _ (clk : Clocks) (low high G : List ℕ) where
  choose : Bool → ℕ → Option (List ℕ)
  choose b k = cond b (some (raised clk low G k)) (raise_below clk low high G k)

  pub below_passed : (k : ℕ) → 1 ≤ k → can_raise clk high G (k - 1) ≡ false → raise_below clk low high G k ≡ raise_below clk low high G (k - 1)
  unfolding choose
  below_passed zero h e = let z : ⊥ = omega arith in absurd z
  below_passed (suc k) h e =
      let down : suc k - 1 ≡ k = omega arith in
      ap (λ (b : Bool). choose b k) (ap (can_raise clk high G) (sym down) ∙ e) ∙ ap (raise_below clk low high G) (sym down)

  pub below_found : (k : ℕ) → 1 ≤ k → can_raise clk high G (k - 1) ≡ true → raise_below clk low high G k ≡ some (raised clk low G (k - 1))
  unfolding choose
  below_found zero h e = let z : ⊥ = omega arith in absurd z
  below_found (suc k) h e =
      let down : suc k - 1 ≡ k = omega arith in
      ap (λ (b : Bool). choose b k) (ap (can_raise clk high G) (sym down) ∙ e) ∙ ap {B = Option (List ℕ)} (λ (m : ℕ). some (raised clk low G m)) (sym down)

  -- columns above n have no room, so the search may start at n
  from_above : (n m : ℕ) → n ≤ m → m ≤ 8 → ((j : ℕ) → j < 8 → n ≤ j → at high j ≡ 0) → raise_below clk low high G m ≡ raise_below clk low high G n
  unfolding choose
  from_above n zero h h8 above = let e : n ≡ 0 = omega arith in rw e
  from_above n (suc m) h h8 above =
      by_cases (ℕ_discrete n (suc m)) (λ e. rw e)
      (λ other. ap (λ (b : Bool). choose b m) (raise_no_room clk high G m (omega (arith, above m (omega arith) (omega arith))))
      ∙ from_above n m (omega arith) (omega arith) above)

  pub step_from : (n : ℕ) → n ≤ 8 → ((j : ℕ) → j < 8 → n ≤ j → at high j ≡ 0) → step clk low high G ≡ raise_below clk low high G n
  unfolding step
  step_from n narrow above = from_above n 8 narrow (omega arith) above
