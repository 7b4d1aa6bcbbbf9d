-- Gmin and Gbnd as the code reads them; and what a sound store gives to read them by.
use mathlib.Core.Path.{◌≡◌, refl, sym, ap, ap₂, ◌∙◌, subst₂}
use mathlib.Core.List.{List}
use Prim.Native.Nat.{ℕ, suc, ◌+◌, ◌-◌, ◌≤◌, ◌<◌}
use native.Mathlib.Omega.{arith}
use lib.ListN.{length, get_or}
use Rattle.model.specs.Lists.{at, zeros}
use Rattle.model.specs.Clocks.{clock_at}
use Rattle.model.specs.Follow.{column_at, tally, tallies}
use Rattle.model.specs.Store.{Store, clocks_of, tallies_of, store_refusal}
use Rattle.model.specs.Cuts.{cuts_between, gmin, gbnd, interval, all_cuts}
use Rattle.model.proofs.Valid.{at_tallies, tally_own, tally_mono}
use Rattle.model.proofs.Total.{tally_bounded, tally_above}
use Rattle.model.proofs.Sound.{Sound, Full, follows_at}
use Rattle.model.proofs.Bounds.{Bounds, gmin_long, interval_bounds, whole_bounds, whole_range}
use Rattle.store.proofs.Ready.{tested_sound, tested_full}
use Rattle.steps.specs.Spans.{Countable}
use Rattle.steps.specs.Walk.{Span}

-- what can be counted up to a position can be counted up to each before it
pub countable_part : {order : List ℕ} {p : ℕ} → Countable order p → (q : ℕ) → q ≤ p → Countable order q
countable_part c q h =
    record {
      long = omega (arith, c.long);
      positive = λ k hk. c.positive k (omega arith);
      listed = λ k hk. c.listed k (omega arith);
      bounded = λ k j hk. c.bounded k j (omega arith);
    }

-- the event at position p: its tablet's column, and its number there by the tallies after it
module _ (order : List ℕ) (p : ℕ) (ready : Countable order p) (some : 1 ≤ p) where
  abbrev own : ℕ
  own = get_or order (p - 1) 0 - 1

  pub byte_positive : 1 ≤ get_or order (p - 1) 0
  byte_positive = ready.positive (p - 1) (omega arith)

  pub own_fits : own < 8
  own_fits = omega (arith, byte_positive, ready.listed (p - 1) (omega arith))

  count_is : at (tallies order p) own ≡ tally order (p - 1) own + 1
  count_is =
      let next : suc (p - 1) ≡ p = omega arith in
      let raised : tally order p own ≡ suc (tally order (p - 1) own) = ap (λ (q : ℕ). tally order q own) (sym next) ∙ tally_own order (p - 1) own (omega (arith, byte_positive)) in
      omega (arith, at_tallies order p own own_fits)

  pub count_low : 1 ≤ at (tallies order p) own
  count_low = omega (arith, count_is)

  pub count_high : at (tallies order p) own ≤ 254
  count_high = omega (arith, at_tallies order p own own_fits, ready.bounded p own (omega arith))

  gmin_at : (s : Store) (q : ℕ) → p ≡ suc q → gmin s p ≡ clock_at s.clocks (column_at s.order (p - 1)) (tally s.order (p - 1) (column_at s.order (p - 1)) + 1)
  gmin_at s q e =
      let down : q ≡ p - 1 = omega arith in
      ap (gmin s) e ∙ ap (λ (r : ℕ). clock_at s.clocks (column_at s.order r) (tally s.order r (column_at s.order r) + 1)) down

  pub gmin_read : (clocks : List ℕ) (s : Store) → s.clocks ≡ clocks → s.order ≡ order → clock_at clocks own (at (tallies order p) own) ≡ gmin s p
  gmin_read clocks s c o =
      ap (clock_at clocks own) count_is
      ∙ ap₂ (λ (l m : List ℕ). clock_at l (column_at m (p - 1)) (tally m (p - 1) (column_at m (p - 1)) + 1)) (sym c) (sym o)
      ∙ sym (gmin_at s (p - 1) (omega arith))

-- a sound store
module _ (s : Store) (none : store_refusal s ≡ 0) where
  snd : Sound s
  snd = tested_sound s none

  full : Full s
  full = tested_full s none

  pub countable : (p : ℕ) → p ≤ s.events → Countable s.order p
  countable p h =
      record {
        long = omega (arith, snd.total, full.order);
        positive = λ q hq. (follows_at s snd q (omega arith)).positive;
        listed = λ q hq. omega (arith, (follows_at s snd q (omega arith)).listed, snd.narrow);
        bounded = λ q j hq. omega (arith, tally_mono s.order j q s.events (omega arith), tally_bounded s.tablets snd.narrow (clocks_of s) s.order s.events snd.follow j);
      }

  -- a range of the store, up to the tallies after some position
  span_of : (p : ℕ) → p ≤ s.events → (low : List ℕ) → length low ≡ 8 → Bounds (clocks_of s) low (tallies s.order p) → Span s.tablets s.clocks low (tallies s.order p)
  span_of p h low long bounds =
      record {
        tablets = snd.narrow;
        stored = λ j hj. omega (arith, at_tallies s.order p j hj, (countable p h).bounded p j (omega arith));
        above = λ j hj high. omega (arith, at_tallies s.order p j hj, tally_mono s.order j p s.events h, tally_above s.tablets snd.narrow (clocks_of s) s.order s.events snd.follow j high);
        bounds = bounds;
        long = long;
      }

  pub interval_walk : (p : ℕ) → p ≤ s.events → Span s.tablets s.clocks (gmin s p) (gbnd s p)
  interval_walk p h = span_of p h (gmin s p) (gmin_long s snd full p h) (interval_bounds s snd p h)

  pub trace_walk : Span s.tablets s.clocks zeros (tallies_of s)
  unfolding zeros
  trace_walk = span_of s.events (omega arith) zeros refl (whole_bounds s snd)

-- the range that was read is the interval's, or the whole trace's
pub interval_cuts : (s : Store) (p : ℕ) (low high : List ℕ) → low ≡ gmin s p → high ≡ tallies s.order p → cuts_between (clocks_of s) low high ≡ interval s p
unfolding interval
interval_cuts s p low high l h = ap₂ (cuts_between (clocks_of s)) l h

pub trace_cuts : (s : Store) (low high : List ℕ) → low ≡ zeros → high ≡ tallies_of s → cuts_between (clocks_of s) low high ≡ all_cuts s
trace_cuts s low high l h = ap₂ (cuts_between (clocks_of s)) l h ∙ sym (whole_range s)

pub interval_span : (s : Store) → store_refusal s ≡ 0 → (p : ℕ) → p ≤ s.events → (low high : List ℕ) → low ≡ gmin s p → high ≡ tallies s.order p → Span s.tablets s.clocks low high
interval_span s none p within low high l h = subst₂ (Span s.tablets s.clocks) (sym l) (sym h) (interval_walk s none p within)

pub trace_span : (s : Store) → store_refusal s ≡ 0 → (low high : List ℕ) → low ≡ zeros → high ≡ tallies_of s → Span s.tablets s.clocks low high
trace_span s none low high l h = subst₂ (Span s.tablets s.clocks) (sym l) (sym h) (trace_walk s none)
