-- A range between two consistent cuts, as statements about each entry. What the engine may assume of where it stands is put
-- by these; the tests of `Cuts` say the same and compute (proofs/Entries and proofs/Ranges go from one to the other).
use Rattle.std.specs.Prelude.{◌≡◌, ◌≢◌, List, ℕ, suc, ◌≤◌, ◌<◌, length}
use Rattle.model.specs.Lists.{at}
use Rattle.model.specs.Clocks.{Clocks, EventName, clock_of, known}
use Rattle.model.specs.Cuts.{Contains}

-- U is at most W in each entry
abbrev pub AtMost : List ℕ → List ℕ → Type 0
AtMost U W = (j : ℕ) → j < 8 → at U j ≤ at W j

-- rule 21, as a statement: G has all that its events know: the clock of the last event of each tablet in it is at most G
abbrev pub Closed : Clocks → List ℕ → Type 0
Closed clk G = (j : ℕ) → j < 8 → AtMost (known clk j (at G j)) G

-- rule 21, as a statement: a consistent cut: no more events than the tallies have, and all that they know
pub record Consistent (clk : Clocks) (tal G : List ℕ) : Type 0 where
  pub most : AtMost G tal
  pub known_in : Closed clk G

-- what the clocks of a trace have where each of its events might follow, for the events that the tallies contain
pub record Causal (clk : Clocks) (tal : List ℕ) : Type 0 where
  -- an event's own entry is its number
  pub own : (e : EventName) → Contains tal e → at (clock_of clk e) e.column ≡ e.number
  -- it knows what the event before it on its tablet knew
  pub next : (j k : ℕ) → j < 8 → 1 ≤ k → k < at tal j → AtMost (clk j k) (clk j (suc k))
  -- it knows what the events that its clock names knew
  pub told : (e : EventName) → Contains tal e → (i : ℕ) → i < 8 → i ≢ e.column → 1 ≤ at (clock_of clk e) i → AtMost (clk i (at (clock_of clk e) i)) (clock_of clk e)
  -- it knows only events of the trace
  pub within : (e : EventName) → Contains tal e → AtMost (clock_of clk e) tal
  -- the events that its clock names do not know it
  pub fresh : (e : EventName) → Contains tal e → (i : ℕ) → i < 8 → i ≢ e.column → 1 ≤ at (clock_of clk e) i → at (clk i (at (clock_of clk e) i)) e.column < e.number

-- a range between two consistent cuts: the events up to its greatest cut are those of a trace, and its least cut is
-- consistent among them
pub record Bounds (clk : Clocks) (low high : List ℕ) : Type 0 where
  pub long : length high ≡ 8
  pub causal : Causal clk high
  pub bottom : Consistent clk high low

-- a cut of a range: eight entries, between the bounds, consistent
pub record InRange (clk : Clocks) (low high G : List ℕ) : Type 0 where
  pub long : length G ≡ 8
  pub least : AtMost low G
  pub cut : Consistent clk high G
