-- What the engine may assume: it stands at a cut of a range between two consistent cuts of a sound store.
use Rattle.std.specs.Prelude.{◌≡◌, ℕ, ◌≤◌, ◌<◌, Bool, true, false, List, T, length}
use Rattle.std.proofs.Math.Option.{Option, none, some}
use Rattle.model.specs.Lists.{at}
use Rattle.model.specs.Clocks.{clock_at}
use Rattle.model.specs.Step.{can_raise}
use Rattle.model.specs.Ranges.{Bounds, InRange}
use Rattle.store.specs.Outcomes.{Bounded}

-- the bounds of a walk over lent clocks: no entry above n, none above 254
pub record Span (n : ℕ) (clocks low high : List ℕ) : Type 0 where
  pub tablets : n ≤ 8
  pub stored : Bounded high
  pub above : (j : ℕ) → j < 8 → n ≤ j → at high j ≡ 0
  pub bounds : Bounds (clock_at clocks) low high
  pub long : length low ≡ 8

-- at one of its cuts, where the tablet in column k can be raised
pub record Raisable (n : ℕ) (clocks low high G : List ℕ) (k : ℕ) : Type 0 where
  pub inside : InRange (clock_at clocks) low high G
  pub column : k < n
  pub can : T (can_raise (clock_at clocks) high G k)

-- each event named by the counts up to column k has a slot
pub record Known (counts : List ℕ) (k j : ℕ) : Type 0 where
  pub upto : k < 8
  pub column : j < 8
  pub stored : (i : ℕ) → i ≤ k → at counts i ≤ 254

-- what a step leaves: whether there is a next cut, and the counts
pub record Stepped : Type 0 where
  pub found : Bool
  pub counts : List ℕ

abbrev pub stepped : Bool → List ℕ → Stepped
stepped found counts = record { found = found; counts = counts }

-- the next cut, or that there is none, and then the counts as they were
abbrev pub next_after : List ℕ → Option (List ℕ) → Stepped
next_after G none = record { found = false; counts = G }
next_after G (some H) = record { found = true; counts = H }
