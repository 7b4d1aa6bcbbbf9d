-- Rule 18, happened-before (document 004): the least relation that has the order of events on one tablet and the messages, and is
-- transitive. A trace stores no messages: that f had word of e is read off f's clock, which names e as the last event of
-- e's tablet that f knows. Second-hand word is included, which transitivity would add in any case.
use Rattle.std.specs.Prelude.{◌≡◌, ◌≢◌, ◌≤◌, ◌<◌}
use Rattle.model.specs.Lists.{at}
use Rattle.model.specs.Clocks.{Clocks, EventName, clock_of}

pub data HappenedBefore (clk : Clocks) : EventName → EventName → Type 0 where
  -- earlier on the same tablet
  earlier : {e f : EventName} → e.column ≡ f.column → 1 ≤ e.number → e.number < f.number → HappenedBefore clk e f
  -- f's clock names e as the last event of another tablet that f knows
  told : {e f : EventName} → e.column < 8 → e.column ≢ f.column → 1 ≤ e.number → at (clock_of clk f) e.column ≡ e.number → HappenedBefore clk e f
  -- through a third event
  through : {e f : EventName} (d : EventName) → HappenedBefore clk e d → HappenedBefore clk d f → HappenedBefore clk e f
