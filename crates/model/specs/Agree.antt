-- When two stores hold the same events: the first p of them, or all of them in whatever order.
use Rattle.std.specs.Prelude.{◌≡◌, ℕ, ◌<◌, get_or}
use Rattle.model.specs.Clocks.{EventName, clock_of}
use Rattle.model.specs.Follow.{tallies}
use Rattle.model.specs.Store.{Store, clocks_of, held_of, tallies_of}
use Rattle.model.specs.Cuts.{Contains}

-- rule 27: the stores have the same n and the same first p events: their order, and the clock and held value of each
pub record AgreeTo (p : ℕ) (s r : Store) : Type 0 where
  pub tablets : s.tablets ≡ r.tablets
  pub order : (q : ℕ) → q < p → get_or s.order q 0 ≡ get_or r.order q 0
  pub clocks : (e : EventName) → Contains (tallies s.order p) e → clock_of (clocks_of s) e ≡ clock_of (clocks_of r) e
  pub held : (e : EventName) → Contains (tallies s.order p) e → held_of s e ≡ held_of r e

-- rule 26: the stores hold the same events, accepted in whatever order: equal tallies, and equal clocks over
-- the slots in use. Held values and n do not matter to which cuts there are.
pub record SameEvents (s r : Store) : Type 0 where
  pub tallies : tallies_of s ≡ tallies_of r
  pub clocks : (e : EventName) → Contains (tallies_of s) e → clock_of (clocks_of s) e ≡ clock_of (clocks_of r) e
