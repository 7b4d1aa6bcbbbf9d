-- What a store that passed its test and an event that may follow leave room for.
use Rattle.std.specs.Prelude.{ℕ, ◌+◌, ◌≤◌, ◌<◌, List, length}
use Rattle.model.specs.declared.Event.{Event}
use Rattle.model.specs.Lists.{at}
use Rattle.model.specs.Numbers.{slot, column}
use Rattle.model.specs.Store.{Store}

-- rules 1, 2, 7 and 8: the tablet has a column, its count may grow, and the event's slot and the next order byte lie inside
pub record Room (s : Store) (tallies : List ℕ) (e : Event) : Type 0 where
  pub some : 1 ≤ e.tablet.0
  pub listed : column e.tablet < 8
  pub count : at tallies (column e.tablet) < 254
  pub slots : slot (column e.tablet) (at tallies (column e.tablet) + 1) < 2032
  pub clocks : 16256 ≤ length s.clocks
  pub held : 2032 ≤ length s.held
  pub order : 2032 ≤ length s.order
  pub events : s.events < 2032
