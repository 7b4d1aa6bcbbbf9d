-- What the bounds of a range are read from, and what they are.
use Rattle.std.specs.Prelude.{◌≡◌, ℕ, ◌≤◌, ◌<◌, List, length, get_or}
use Rattle.model.specs.Lists.{zeros}
use Rattle.model.specs.Follow.{tally, tallies}
use Rattle.model.specs.Store.{Store}
use Rattle.model.specs.Cuts.{gmin}

-- the first p order bytes name tablets 1 to 8, and no tally along them exceeds 254
pub record Countable (order : List ℕ) (p : ℕ) : Type 0 where
  pub long : p ≤ length order
  pub positive : (q : ℕ) → q < p → 1 ≤ get_or order q 0
  pub listed : (q : ℕ) → q < p → get_or order q 0 ≤ 8
  pub bounded : (q j : ℕ) → q ≤ p → tally order q j ≤ 254

-- Gmin and Gbnd of any store that has these clocks and this order
pub record IntervalSpan (clocks order : List ℕ) (p : ℕ) (low high : List ℕ) : Type 0 where
  pub low_is : (s : Store) → s.clocks ≡ clocks → s.order ≡ order → low ≡ gmin s p
  pub high_is : high ≡ tallies order p

pub record TraceSpan (order : List ℕ) (events : ℕ) (low high : List ℕ) : Type 0 where
  pub low_is : low ≡ zeros
  pub high_is : high ≡ tallies order events
