-- Closed, consistent and in a range, entry by entry: the tests of specs/Cuts as statements, both ways.
use mathlib.Core.Path.{◌≡◌, refl, sym, ◌∙◌}
use mathlib.Core.Bool.{Bool, ◌&&◌}
use mathlib.Core.List.{List, Memᴰ}
use Prim.Native.Nat.{ℕ, zero, suc, ◌≤◌}
use native.Mathlib.Omega.{arith}
use lib.Dec.{T}
use lib.ListN.{length}
use Rattle.model.specs.Lists.{at}
use Rattle.model.specs.Clocks.{Clocks, covered, known}
use Rattle.model.specs.Cuts.{closed, consistent, box, cuts_between}
pub use Rattle.model.specs.Ranges.{Closed, Consistent, InRange}
use Rattle.model.specs.Lexical.{Rising}
use Rattle.model.proofs.Tests.{and_left, and_right, and_both, all_below_at, all_below_all}
use Rattle.model.proofs.Entries.{AtMost, covered_at_most, at_most_covered, zeros_at_most}
use Rattle.model.proofs.Lists.{keep_from, keep_into}
use Rattle.model.proofs.Lexical.{keep_rising}
use Rattle.model.proofs.Box.{box_rising, box_from, box_into}

-- what is known at an event is its clock; where there is none, nothing
pub known_event : (clk : Clocks) (j k : ℕ) → 1 ≤ k → known clk j k ≡ clk j k
known_event clk j zero h = let z : ⊥ = omega arith in absurd z
known_event clk j (suc k) h = refl

pub known_at_most : (clk : Clocks) (j k : ℕ) (W : List ℕ) → (1 ≤ k → AtMost (clk j k) W) → AtMost (known clk j k) W
known_at_most clk j zero W f = zeros_at_most W
known_at_most clk j (suc k) W f = f (omega arith)

pub consistent_holds : (clk : Clocks) (tal G : List ℕ) → T (consistent clk tal G) → Consistent clk tal G
unfolding consistent closed
consistent_holds clk tal G t =
    record {
      most = covered_at_most G tal (and_left (covered G tal) (closed clk G) t);
      known_in = λ j h. covered_at_most (known clk j (at G j)) G
          (all_below_at 8 (λ j. covered (known clk j (at G j)) G) (and_right (covered G tal) (closed clk G) t) j h);
    }

pub holds_consistent : (clk : Clocks) (tal G : List ℕ) → Consistent clk tal G → T (consistent clk tal G)
unfolding consistent closed
holds_consistent clk tal G c =
    and_both (covered G tal) (closed clk G) (at_most_covered G tal c.most)
    (all_below_all 8 (λ j. covered (known clk j (at G j)) G)
    (λ j h. at_most_covered (known clk j (at G j)) G (c.known_in j h)))

module _ (clk : Clocks) (low high : List ℕ) where
  inside : List ℕ → Bool
  inside G = covered low G && consistent clk high G

  pub range_rising : Rising (cuts_between clk low high)
  unfolding cuts_between
  range_rising = keep_rising (λ G. covered low G && consistent clk high G) (box high) (box_rising high)

  module _ (eight-long : length high ≡ 8) where
    pub range_from : (G : List ℕ) → Memᴰ G (cuts_between clk low high) → InRange clk low high G
    unfolding cuts_between
    range_from G m =
        let k = keep_from (λ G. covered low G && consistent clk high G) (box high) m in
        let w = box_from high G k.0 in
        record {
          long = w.long ∙ eight-long;
          least = covered_at_most low G (and_left (covered low G) (consistent clk high G) k.1);
          cut = consistent_holds clk high G (and_right (covered low G) (consistent clk high G) k.1);
        }

    pub range_into : (G : List ℕ) → InRange clk low high G → Memᴰ G (cuts_between clk low high)
    unfolding cuts_between
    range_into G r =
        keep_into (λ G. covered low G && consistent clk high G) (box high)
        (box_into high G
        (record { long = r.long ∙ sym eight-long; most = λ j h. r.cut.most j (omega (arith, eight-long)) }))
        (and_both (covered low G) (consistent clk high G) (at_most_covered low G r.least)
        (holds_consistent clk high G r.cut))
