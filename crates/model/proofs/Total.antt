-- The tallies add up to the position, no tablet has more than 254 events, and so T is at most 2,032.
use mathlib.Core.Path.{◌≡◌, refl, ap, ◌∙◌, subst}
use mathlib.Core.Logic.{◌≢◌, by_cases}
use mathlib.Core.List.{List}
use Prim.Native.Nat.{ℕ, zero, suc, ◌*◌, ◌≤◌, ◌<◌}
use native.Mathlib.Omega.{arith}
use native.Mathlib.Decide.{ℕ_discrete}
use native.Mathlib.Nat.{not-suc-le-zero}
use lib.Dec.{T}
use lib.ListN.{get_or}
use Rattle.model.specs.Lists.{sum_below}
use Rattle.model.specs.Clocks.{Clocks}
use Rattle.model.specs.Follow.{column_at, tally, follow_to}
use Rattle.model.proofs.Tests.{sum_below_same}
use Rattle.model.proofs.Valid.{at_tallies, tally_own, tally_other, follow_before, follow_at}

-- a sum with one term raised by one
sum_raised : (m : ℕ) (f g : ℕ → ℕ) (own : ℕ) → own < m → g own ≡ suc (f own) → ((j : ℕ) → j ≢ own → g j ≡ f j) → sum_below m g ≡ suc (sum_below m f)
sum_raised zero f g own h up stay = absurd (not-suc-le-zero h)
sum_raised (suc m) f g own h up stay =
    by_cases (ℕ_discrete own m)
    (λ e. omega (arith, subst (λ (j : ℕ). g j ≡ suc (f j)) e up, sum_below_same m g f (λ j hj. stay j (omega arith))))
    (λ n. omega (arith, sum_raised m f g own (omega arith) up stay, stay m (omega arith)))

sum_bounded : (m : ℕ) (f : ℕ → ℕ) → ((j : ℕ) → j < m → f j ≤ 254) → sum_below m f ≤ m * 254
sum_bounded zero f h = omega arith
sum_bounded (suc m) f h = omega (arith, sum_bounded m f (λ j hj. h j (omega arith)), h m (omega arith))

-- and strictly where one term is
sum_below_lem : (m : ℕ) (f : ℕ → ℕ) (own : ℕ) → own < m → f own < 254 → ((j : ℕ) → j < m → f j ≤ 254) → sum_below m f < m * 254
sum_below_lem zero f own h less most = absurd (not-suc-le-zero h)
sum_below_lem (suc m) f own h less most =
    by_cases (ℕ_discrete own m)
    (λ e. omega (arith, sum_bounded m f (λ j hj. most j (omega arith)), subst (λ (j : ℕ). f j < 254) e less))
    (λ n. omega (arith, sum_below_lem m f own (omega arith) less (λ j hj. most j (omega arith)), most m (omega arith)))

module _ (n : ℕ) (narrow : n ≤ 8) (clk : Clocks) (order : List ℕ) where
  -- the tablet at a position that passed, by its index
  own_below : (p : ℕ) → T (follow_to n clk order (suc p)) → column_at order p < 8
  own_below p t = let f = follow_at n clk order p t in omega (arith, f.positive, f.listed)

  own_byte : (p : ℕ) → T (follow_to n clk order (suc p)) → get_or order p 0 ≡ suc (column_at order p)
  own_byte p t = omega (arith, (follow_at n clk order p t).positive)

  other_byte : (p j : ℕ) → T (follow_to n clk order (suc p)) → j ≢ column_at order p → get_or order p 0 ≢ suc j
  other_byte p j t other = omega (arith, (follow_at n clk order p t).positive)

  pub tallies_sum : (p : ℕ) → T (follow_to n clk order p) → sum_below 8 (tally order p) ≡ p
  tallies_sum zero t = refl
  tallies_sum (suc p) t =
      sum_raised 8 (tally order p) (tally order (suc p)) (column_at order p) (own_below p t)
      (tally_own order p (column_at order p) (own_byte p t))
      (λ j other. tally_other order p j (other_byte p j t other))
      ∙ ap suc (tallies_sum p (follow_before n clk order p t))

  pub tally_bounded : (p : ℕ) → T (follow_to n clk order p) → (j : ℕ) → tally order p j ≤ 254
  tally_bounded zero t j = omega arith
  tally_bounded (suc p) t j =
      by_cases (ℕ_discrete j (column_at order p))
      (λ e. rw e (omega (arith, tally_own order p (column_at order p) (own_byte p t), at_tallies order p (column_at order p) (own_below p t), (follow_at n clk order p t).room)))
      (λ other. omega (arith, tally_other order p j (other_byte p j t other), tally_bounded p (follow_before n clk order p t) j))

  -- a tablet above n has no event
  pub tally_above : (p : ℕ) → T (follow_to n clk order p) → (j : ℕ) → n ≤ j → tally order p j ≡ 0
  tally_above zero t j h = refl
  tally_above (suc p) t j h =
      let byte : get_or order p 0 ≢ suc j = omega (arith, (follow_at n clk order p t).listed) in
      tally_other order p j byte ∙ tally_above p (follow_before n clk order p t) j h

  -- where a tablet still has room there is room in all
  pub room_left : (p : ℕ) → T (follow_to n clk order p) → (own : ℕ) → own < 8 → tally order p own < 254 → p < 2032
  room_left p t own h less =
      omega (arith, tallies_sum p t, sum_below_lem 8 (tally order p) own h less (λ j hj. tally_bounded p t j))
