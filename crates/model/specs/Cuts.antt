-- Cuts and intervals. A cut is a list of eight entries here.
use Rattle.std.specs.Prelude.{◌≡◌, ℕ, zero, suc, ◌≤◌, ◌<◌, Bool, ◌&&◌, List, [], ◌∷◌, ◌++◌, map, length}
use Rattle.model.specs.declared.Range.{Range}
use Rattle.model.specs.declared.Range.TheVariants.{Interval, Whole}
use Rattle.model.specs.Lists.{at, zeros, all_below, sum_below, keep}
use Rattle.model.specs.Clocks.{Clocks, EventName, clock_of, covered, known}
use Rattle.model.specs.Follow.{event_at, tallies}
use Rattle.model.specs.Store.{Store, clocks_of, tallies_of}

-- rule 20: the cut G contains event e. The events of a trace are those that its tallies contain.
pub record Contains (G : List ℕ) (e : EventName) : Type 0 where
  pub column : e.column < 8
  pub first : 1 ≤ e.number
  pub last : e.number ≤ at G e.column

-- rule 21: what the last event of each tablet in the cut knows is in the cut
unfoldable pub closed : Clocks → List ℕ → Bool
closed clk G = all_below 8 (λ j. covered (known clk j (at G j)) G)

-- rule 21: no more events than the tallies have, and closed
unfoldable pub consistent : Clocks → List ℕ → List ℕ → Bool
consistent clk tal G = covered G tal && closed clk G

-- every vector up to a bound, lexically rising: the first entry from 0 to its bound, each with every vector of the rest
abbrev pub rows : ℕ → List (List ℕ) → List (List ℕ)
rows zero rest = map (λ G. 0 ∷ G) rest
rows (suc b) rest = rows b rest ++ map (λ G. suc b ∷ G) rest

abbrev pub box : List ℕ → List (List ℕ)
box [] = [] ∷ []
box (b ∷ bs) = rows b (box bs)

-- rule 6: a vector within a bound: as long, and at most it in each entry (so 0 above n, where the tallies are)
pub record Within (bound G : List ℕ) : Type 0 where
  pub long : length G ≡ length bound
  pub most : (j : ℕ) → j < length bound → at G j ≤ at bound j

-- the consistent cuts G with low <= G <= high in each entry, lexically rising. `consistent clk high G` says both that G is
-- at most high and that it is closed; to test against high where rule 23 tests against the final tallies comes to the same
-- (theorem 5).
unfoldable pub cuts_between : Clocks → List ℕ → List ℕ → List (List ℕ)
cuts_between clk low high = keep (λ G. covered low G && consistent clk high G) (box high)

-- rules 23 and 24: the bounds of interval p; for interval 0 both are the empty cut
abbrev pub gmin : Store → ℕ → List ℕ
gmin s zero = zeros
gmin s (suc q) = clock_of (clocks_of s) (event_at s.order q)

abbrev pub gbnd : Store → ℕ → List ℕ
gbnd s p = tallies s.order p

-- rules 23 and 24: the consistent cuts between the two bounds. For p above T a call is refused 9, and this is not read.
unfoldable pub interval : Store → ℕ → List (List ℕ)
interval s p = cuts_between (clocks_of s) (gmin s p) (gbnd s p)

-- rule 25: every consistent cut of the trace, found by testing every vector up to the tallies
unfoldable pub all_cuts : Store → List (List ℕ)
all_cuts s = keep (consistent (clocks_of s) (tallies_of s)) (box (tallies_of s))

-- rule 25: the sum of the counts of intervals 0 to T
unfoldable pub total : Store → ℕ
total s = sum_below (suc s.events) (λ p. length (interval s p))

-- rule 35: the cuts of an interval, or of the whole trace
abbrev pub cuts_in : Store → Range → List (List ℕ)
cuts_in s (Interval p) = interval s p.0
cuts_in s Whole = all_cuts s
