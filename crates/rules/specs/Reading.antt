-- What the inner functions may assume of what they read, so that no index leaves the lent buffers.
use Rattle.std.specs.Prelude.{ℕ, ◌≤◌, ◌<◌, List, length}
use Rattle.model.specs.declared.Tablet.{Tablet}
use Rattle.model.specs.Lists.{at}
use Rattle.model.specs.Numbers.{column}
use Rattle.model.specs.Follow.{last_known}

-- no tablet has more than 254 events
abbrev pub Bounded : List ℕ → Type 0
Bounded tallies = (j : ℕ) → j < 8 → at tallies j ≤ 254

-- the clock to compare has eight entries, and each event whose clock it is to cover has a slot
pub record Readable (tallies : List ℕ) (own : ℕ) (clock : List ℕ) : Type 0 where
  pub long : 8 ≤ length clock
  pub stored : (j : ℕ) → j < 8 → last_known own j (at tallies j) (at clock j) ≤ 254

-- rule 13, as statements: what is known of a tablet once an event of it was not refused
abbrev pub MayTake : ℕ → List ℕ → Tablet → Type 0
MayTake n tallies tablet = (1 ≤ tablet.0) × (tablet.0 ≤ n) × (at tallies (column tablet) < 254)
