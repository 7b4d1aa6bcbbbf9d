-- The ranges of a sound trace, as walks over their cuts.
use Rattle.std.specs.Prelude.{◌≡◌, ℕ, ◌≤◌, ◌<◌, false, true, List, Option, None, Some, Result, Ok, Err}
use Rattle.model.specs.declared.Range.{Range}
use Rattle.model.specs.declared.Refusal.{Refusal}
use Rattle.model.specs.Refusals.{number_of}
use Rattle.model.specs.Store.{Store, store_of, store_refusal}
use Rattle.model.specs.Follow.{tallies}
use Rattle.model.specs.Cuts.{gmin, cuts_in}
use Rattle.store.specs.declared.Trace.{Trace}
use Rattle.store.specs.Outcomes.{store_in}
use Rattle.steps.specs.declared.walk.Walk.{Walk}
use Rattle.steps.specs.Walked.{cuts_of}
use Rattle.cuts.specs.declared.sound.Sound.{Sound}
use Rattle.cuts.specs.Outcomes.{range_known}

-- the store of a sound trace with some held values, on which its cuts do not depend
abbrev pub with_held : Sound → List ℕ → Store
with_held t held = store_of t.«record» t.clocks.now held t.order.now

-- rule 23: the walk over the interval of a position, with its bounds by name, Gmin and Gbnd: a listing tests its place's cut
-- by them
pub record IntervalWalk (t : Sound) (p : ℕ) (w : Walk) : Type 0 where
  pub clocks_are : w.clocks.bytes.now ≡ t.clocks.now
  pub low_is : (held : List ℕ) → w.low.counts ≡ gmin (with_held t held) p
  pub high_is : w.high.counts ≡ tallies t.order.now p

-- rules 23 and 24: the same of a position up to T
abbrev pub IntervalRead : Sound → ℕ → Option Walk → Type 0
IntervalRead t p None = t.«record».events < p
IntervalRead t p (Some w) = (p ≤ t.«record».events) × IntervalWalk t p w

-- rule 35: the walk over a range, an interval or the whole trace, where it is known
abbrev pub RangeRead : Sound → Range → Option Walk → Type 0
RangeRead t range None = (held : List ℕ) → range_known (with_held t held) range ≡ false
RangeRead t range (Some w) = (held : List ℕ) → (range_known (with_held t held) range ≡ true) × (cuts_of w ≡ cuts_in (with_held t held) range)

-- what the test of a stored trace gives: a sound trace that is the same store, or the test's refusal
pub record SoundOf (t : Trace) (s : Sound) : Type 0 where
  pub none : store_refusal (store_in t) ≡ 0
  pub same : with_held s t.held.now ≡ store_in t

abbrev pub Tested : Trace → Result Sound Refusal → Type 0
Tested t (Ok s) = SoundOf t s
Tested t (Err why) = number_of why ≡ store_refusal (store_in t)
