-- Lists of eight entries read by index: the one bridge between the tests that compute and statements about every entry.
use mathlib.Core.Path.{◌≡◌, refl, sym, ◌∙◌}
use mathlib.Core.Bool.{true}
use mathlib.Core.List.{List}
use Prim.Native.Nat.{ℕ, zero, suc, ◌<◌}
use native.Mathlib.Omega.{arith}
use lib.Dec.{T, leb, leb→le, le→leb}
use lib.ListN.{length}
use lib.Seq.{ext_get_or}
use Rattle.model.specs.Lists.{at, eight, zeros}
use Rattle.model.specs.Clocks.{covered}
pub use Rattle.model.specs.Ranges.{AtMost}
use Rattle.model.proofs.Tests.{all_below_at, all_below_all, holds}

pub covered_at_most : (U W : List ℕ) → T (covered U W) → AtMost U W
unfolding covered
covered_at_most U W t j h = leb→le (at U j) (at W j) (all_below_at 8 (λ j. leb (at U j) (at W j)) t j h)

pub at_most_covered : (U W : List ℕ) → AtMost U W → T (covered U W)
unfolding covered
at_most_covered U W f = all_below_all 8 (λ j. leb (at U j) (at W j)) (λ j h. le→leb (at U j) (at W j) (f j h))

pub at_most_refl : (U : List ℕ) → AtMost U U
at_most_refl U j h = omega arith

pub at_most_trans : (U W X : List ℕ) → AtMost U W → AtMost W X → AtMost U X
at_most_trans U W X f g j h = omega (arith, f j h, g j h)

-- an entry of eight given by their index
pub at_eight : (f : ℕ → ℕ) (j : ℕ) → j < 8 → at (eight f) j ≡ f j
unfolding eight
at_eight f zero h = refl
at_eight f (suc zero) h = refl
at_eight f (suc (suc zero)) h = refl
at_eight f (suc (suc (suc zero))) h = refl
at_eight f (suc (suc (suc (suc zero)))) h = refl
at_eight f (suc (suc (suc (suc (suc zero))))) h = refl
at_eight f (suc (suc (suc (suc (suc (suc zero)))))) h = refl
at_eight f (suc (suc (suc (suc (suc (suc (suc zero))))))) h = refl
at_eight f (suc (suc (suc (suc (suc (suc (suc (suc j)))))))) h = let z : ⊥ = omega arith in absurd z

pub length_eight : (f : ℕ → ℕ) → length (eight f) ≡ 8
unfolding eight
length_eight f = refl

pub zeros_eight : zeros ≡ eight (λ j. 0)
unfolding zeros eight
zeros_eight = refl

pub at_zeros : (j : ℕ) → j < 8 → at zeros j ≡ 0
at_zeros j h = rw zeros_eight (at_eight (λ j. 0) j h)

pub zeros_at_most : (U : List ℕ) → AtMost zeros U
zeros_at_most U j h = omega (arith, at_zeros j h)

pub zeros_covered : (W : List ℕ) → covered zeros W ≡ true
zeros_covered W = holds (covered zeros W) (at_most_covered zeros W (zeros_at_most W))

-- two lists of eight entries are equal where each entry is
pub same_entries : (U W : List ℕ) → length U ≡ 8 → length W ≡ 8 → ((j : ℕ) → j < 8 → at U j ≡ at W j) → U ≡ W
same_entries U W u w f = ext_get_or 0 U W (u ∙ sym w) (λ j h. f j (omega (arith, u)))
