-- The entries of a cut with one tablet raised: kept before it, one more at it, the least that is needed behind it.
use mathlib.Core.Path.{◌≡◌, refl, ◌∙◌}
use mathlib.Core.Logic.{◌≢◌, ◌⊎◌, inl, inr, ⊎_elim, by_cases}
use mathlib.Core.Bool.{cond}
use mathlib.Core.List.{List}
use Prim.Native.Nat.{ℕ, suc, ◌+◌, ◌≤◌, ◌<◌}
use native.Mathlib.Omega.{arith}
use native.Mathlib.Decide.{dec_le}
use borrow.Author.Tests.{le-leb, lt-leb, eq-eqb, ne_eqb}
use lib.Dec.{leb}
use lib.ListN.{length}
use Rattle.model.specs.Lists.{at, max_below}
use Rattle.model.specs.Clocks.{Clocks, known}
use Rattle.model.specs.Step.{up_to, least, raised}
use Rattle.model.proofs.Entries.{at_eight, length_eight}
use Rattle.model.proofs.Largest.{max_above, max_least, max_attained}

-- the entries of a raised cut
module _ (clk : Clocks) (low G : List ℕ) (k : ℕ) where
  pub up_own : up_to G k k ≡ at G k + 1
  up_own = simp (eq-eqb k k refl)

  pub up_other : (j : ℕ) → j ≢ k → up_to G k j ≡ at G j
  up_other j other = simp (ne_eqb j k other)

  pub at_raised : (j : ℕ) → j < 8 → at (raised clk low G k) j ≡ cond (leb j k) (up_to G k j) (least clk low G k j)
  unfolding raised
  at_raised j h = at_eight (λ j. cond (leb j k) (up_to G k j) (least clk low G k j)) j h

  pub raised_upto : (j : ℕ) → j < 8 → j ≤ k → at (raised clk low G k) j ≡ up_to G k j
  raised_upto j h near = at_raised j h ∙ simp (le-leb j k near)

  pub raised_behind : (j : ℕ) → j < 8 → k < j → at (raised clk low G k) j ≡ least clk low G k j
  raised_behind j h far = at_raised j h ∙ simp (lt-leb j k far)

  pub raised_before : (j : ℕ) → j < k → k < 8 → at (raised clk low G k) j ≡ at G j
  raised_before j near hk = raised_upto j (omega arith) (omega arith) ∙ up_other j (omega arith)

  pub raised_own : k < 8 → at (raised clk low G k) k ≡ at G k + 1
  raised_own hk = raised_upto k hk (omega arith) ∙ up_own

  pub raised_long : length (raised clk low G k) ≡ 8
  unfolding raised
  raised_long = length_eight (λ j. cond (leb j k) (up_to G k j) (least clk low G k j))

  -- the least entry behind k: above Gmin's and above all that the events up to k know, and one of these
  pub least_low : (j : ℕ) → at low j ≤ least clk low G k j
  unfolding least
  least_low j = omega arith

  pub least_known : (i j : ℕ) → i ≤ k → at (known clk i (up_to G k i)) j ≤ least clk low G k j
  unfolding least
  least_known i j h = omega (arith, max_above (suc k) (λ i. at (known clk i (up_to G k i)) j) i (omega arith))

  pub least_least : (j bound : ℕ) → at low j ≤ bound → ((i : ℕ) → i ≤ k → at (known clk i (up_to G k i)) j ≤ bound) → least clk low G k j ≤ bound
  unfolding least
  least_least j bound h f =
      omega (arith, max_least (suc k) (λ i. at (known clk i (up_to G k i)) j) bound (λ i hi. f i (omega arith)))

  pub least_is : (j : ℕ) → (least clk low G k j ≡ at low j) ⊎ ((i : ℕ) × (i ≤ k) × (least clk low G k j ≡ at (known clk i (up_to G k i)) j))
  unfolding least
  least_is j =
      by_cases (dec_le (max_below (suc k) (λ i. at (known clk i (up_to G k i)) j)) (at low j))
      (λ h. inl (omega arith))
      (λ h. ⊎_elim (λ e. let z : ⊥ = omega arith in absurd z) (λ r. inr (r.0, omega (arith, r.1), omega (arith, r.2)))
      (max_attained (suc k) (λ i. at (known clk i (up_to G k i)) j)))
