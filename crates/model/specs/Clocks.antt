-- The clock of an event, and when one list of entries covers another.
use Rattle.std.specs.Prelude.{ℕ, zero, suc, ◌*◌, Bool, List, leb, take, drop}
use Rattle.model.specs.Lists.{at, zeros, all_below}
use Rattle.model.specs.Numbers.{slot}

-- rule 2: an event, by the column of its tablet and its number there, from 1
pub record EventName : Type 0 where
  pub column : ℕ
  pub number : ℕ

-- the clocks of a trace, by column and event number: the mathematics is over any such function
abbrev pub Clocks : Type 0
Clocks = ℕ → ℕ → List ℕ

abbrev pub clock_of : Clocks → EventName → List ℕ
clock_of clk e = clk e.column e.number

-- rules 4 and 8: the clock that lies at a slot, eight entries, tablet 1's first
unfoldable pub clock_in : List ℕ → ℕ → List ℕ
clock_in bytes s = take 8 (drop (8 * s) bytes)

abbrev pub clock_at : List ℕ → Clocks
clock_at bytes j k = clock_in bytes (slot j k)

-- rules 16, 19, 21: U is at most W in each of the eight entries
unfoldable pub covered : List ℕ → List ℕ → Bool
covered U W = all_below 8 (λ j. leb (at U j) (at W j))

-- rule 16: what is known at event k of tablet j: its clock; where there is no event yet (k is 0), nothing
abbrev pub known : Clocks → Clocks
known clk j zero = zeros
known clk j (suc k) = clk j (suc k)
