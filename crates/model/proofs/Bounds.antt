-- The ranges that a store has, each between two consistent cuts: interval p, and the whole trace.
use mathlib.Core.Path.{◌≡◌, refl, sym, ap}
use mathlib.Core.Bool.{Bool, ◌&&◌}
use mathlib.Core.List.{List}
use Prim.Native.Nat.{ℕ, zero, suc, ◌≤◌}
use native.Mathlib.Omega.{arith}
use lib.ListN.{length}
use Rattle.model.specs.Lists.{at, zeros, keep}
use Rattle.model.specs.Clocks.{Clocks, covered}
use Rattle.model.specs.Follow.{event_at}
use Rattle.model.specs.Store.{Store, clocks_of, tallies_of}
use Rattle.model.specs.Cuts.{consistent, box, cuts_between, gmin, gbnd, all_cuts}
pub use Rattle.model.specs.Ranges.{Bounds}
use Rattle.model.proofs.Entries.{at_zeros, zeros_at_most, zeros_covered}
use Rattle.model.proofs.Lists.{keep_same}
use Rattle.model.proofs.Ranges.{known_at_most, Consistent}
use Rattle.model.proofs.Causal.{clock_consistent}
use Rattle.model.proofs.Valid.{length_tallies}
use Rattle.model.proofs.Slots.{clock_long}
use Rattle.model.proofs.Sound.{Sound, Full, causal_at, event_contained, stored_at}

-- the empty cut is consistent
pub zeros_consistent : (clk : Clocks) (high : List ℕ) → Consistent clk high zeros
zeros_consistent clk high =
    record {
      most = zeros_at_most high;
      known_in = λ j hj. known_at_most clk j (at zeros j) zeros (λ h. let z : ⊥ = omega (arith, at_zeros j hj) in absurd z);
    }

-- testing every vector up to a bound is the range from the empty cut to it
pub tested_range : (clk : Clocks) (high : List ℕ) → keep (consistent clk high) (box high) ≡ cuts_between clk zeros high
unfolding cuts_between
tested_range clk high =
    keep_same (consistent clk high) (λ G. covered zeros G && consistent clk high G) (box high)
    (λ G m. sym (ap (λ (b : Bool). b && consistent clk high G) (zeros_covered G)))

pub whole_range : (s : Store) → all_cuts s ≡ cuts_between (clocks_of s) zeros (tallies_of s)
unfolding all_cuts
whole_range s = tested_range (clocks_of s) (tallies_of s)

module _ (s : Store) (snd : Sound s) where
  low_consistent : (p : ℕ) → p ≤ s.events → Consistent (clocks_of s) (gbnd s p) (gmin s p)
  low_consistent zero h = zeros_consistent (clocks_of s) (gbnd s 0)
  low_consistent (suc q) h =
      clock_consistent (clocks_of s) (gbnd s (suc q)) (causal_at s snd (suc q) h) (event_at s.order q) (event_contained s snd q h)

  pub interval_bounds : (p : ℕ) → p ≤ s.events → Bounds (clocks_of s) (gmin s p) (gbnd s p)
  interval_bounds p h =
      record { long = length_tallies s.order p; causal = causal_at s snd p h; bottom = low_consistent p h }

  pub whole_bounds : Bounds (clocks_of s) zeros (tallies_of s)
  whole_bounds =
      record {
        long = length_tallies s.order s.events;
        causal = causal_at s snd s.events (omega arith);
        bottom = zeros_consistent (clocks_of s) (tallies_of s);
      }

  -- with buffers of full size, Gmin has eight entries
  pub gmin_long : Full s → (p : ℕ) → p ≤ s.events → length (gmin s p) ≡ 8
  unfolding zeros
  gmin_long full zero h = refl
  gmin_long full (suc q) h =
      clock_long s.clocks (event_at s.order q) full.clocks (stored_at s snd q h)
