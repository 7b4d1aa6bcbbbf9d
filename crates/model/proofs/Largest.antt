-- The largest of finitely many numbers: above each, at most every bound of all, and attained.
use mathlib.Core.Path.{◌≡◌, refl, ap₂}
use mathlib.Core.Logic.{◌⊎◌, inl, inr, ⊎_elim, by_cases}
use Prim.Native.Nat.{ℕ, zero, suc, ◌≤◌, ◌<◌, max}
use native.Mathlib.Omega.{arith}
use native.Mathlib.Decide.{ℕ_discrete, dec_le}
use native.Mathlib.Nat.{not-suc-le-zero}
use Rattle.model.specs.Lists.{max_below}

pub max_above : (n : ℕ) (f : ℕ → ℕ) (i : ℕ) → i < n → f i ≤ max_below n f
max_above zero f i h = absurd (not-suc-le-zero h)
max_above (suc n) f i h =
    by_cases (ℕ_discrete i n) (λ e. rw e (omega arith)) (λ m. omega (arith, max_above n f i (omega arith)))

pub max_least : (n : ℕ) (f : ℕ → ℕ) (bound : ℕ) → ((i : ℕ) → i < n → f i ≤ bound) → max_below n f ≤ bound
max_least zero f bound h = omega arith
max_least (suc n) f bound h = omega (arith, max_least n f bound (λ i k. h i (omega arith)), h n (omega arith))

pub max_attained : (n : ℕ) (f : ℕ → ℕ) → (max_below n f ≡ 0) ⊎ ((i : ℕ) × (i < n) × (max_below n f ≡ f i))
max_attained zero f = inl refl
max_attained (suc n) f =
    by_cases (dec_le (max_below n f) (f n))
    (λ h. inr (n, omega arith, omega arith))
    (λ h. ⊎_elim (λ e. let z : ⊥ = omega arith in absurd z) (λ r. inr (r.0, omega (arith, r.1), omega (arith, r.2))) (max_attained n f))

pub max_below_same : (n : ℕ) (f g : ℕ → ℕ) → ((i : ℕ) → i < n → f i ≡ g i) → max_below n f ≡ max_below n g
max_below_same zero f g same = refl
max_below_same (suc n) f g same =
    ap₂ max (max_below_same n f g (λ i h. same i (omega arith))) (same n (omega arith))
