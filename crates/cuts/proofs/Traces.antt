-- A sound trace: the store it makes with held values of full size, which is sound whatever they are.
use mathlib.Core.Path.{◌≡◌, refl, sym, ap, ◌∙◌}
use mathlib.Core.Bool.{Bool, true, not, cond, ◌&&◌}
use mathlib.Core.List.{List}
use Prim.Native.Nat.{ℕ, ◌≤◌}
use native.Mathlib.Omega.{arith}
use borrow.Author.Tests.{le-leb, lt-leb}
use lib.Dec.{leb}
use lib.ListN.{length, replicate}
use Rattle.std.proofs.Math.Logic.{∥∥₁_elim}
use Rattle.std.proofs.Math.Nat.{ℕ_set}
use Rattle.std.proofs.lemmas.List.{length-replicate}
use Rattle.std.specs.Prelude.{Option, None, Some}
use Rattle.model.specs.declared.Record.{Record}
use Rattle.model.specs.declared.Position.{Position}
use Rattle.model.specs.declared.Range.TheVariants.{Interval, Whole}
use Rattle.model.specs.Clocks.{clock_at}
use Rattle.model.specs.Cuts.{cuts_between, interval, cuts_in}
use Rattle.steps.specs.declared.walk.Walk.{Walk}
use Rattle.steps.specs.Walk.{Span}
use Rattle.steps.specs.Walked.{cuts_of}
use Rattle.steps.specs.Spans.{Countable, IntervalSpan, TraceSpan}
use Rattle.steps.proofs.Bounding.{countable, interval_cuts, trace_cuts, interval_span, trace_span}
use Rattle.model.specs.Refusals.{or_else}
use Rattle.model.specs.Store.{Store, store_of, full_size, valid, record_refusal, store_refusal}
use Rattle.store.proofs.Ready.{tested_full}
use Rattle.cuts.specs.declared.sound.Sound.{Sound}
use Rattle.cuts.specs.Outcomes.{SoundTrace, range_known}
use Rattle.cuts.specs.Ranges.{with_held, IntervalWalk, IntervalRead, RangeRead}

-- the test of a store reads of the held values their length alone
other_held : (r : Record) (clocks held other order : List ℕ) → store_refusal (store_of r clocks held order) ≡ 0 → 2032 ≤ length other → store_refusal (store_of r clocks other order) ≡ 0
unfolding store_refusal full_size valid
other_held r clocks held other order none long =
    let full = tested_full (store_of r clocks held order) none in
    ap (λ (b : Bool). or_else (record_refusal r) (cond (not (leb 16256 (length clocks) && b && leb 2032 (length order))) 2 (cond (not (valid (store_of r clocks held order))) 3 0)))
    (le-leb 2032 (length other) long ∙ sym (le-leb 2032 (length held) full.held))
    ∙ none

sound_trace : (r : Record) (clocks order : List ℕ) → ∥ SoundTrace r clocks order ∥₁ → SoundTrace r clocks order
sound_trace r clocks order sound =
    record {
      held = replicate 2032 0;
      none = ∥∥₁_elim sound (ℕ_set _ _) (λ t. other_held r clocks t.held (replicate 2032 0) order t.none (omega (arith, length-replicate {A = ℕ} 2032 0)));
    }

module _ (t : Sound) where
  pub trace : SoundTrace t.«record» t.clocks.now t.order.now
  trace = sound_trace t.«record» t.clocks.now t.order.now t.sound

  abbrev pub store : Store
  store = with_held t trace.held

  pub none : store_refusal store ≡ 0
  none = trace.none

  pub clocks_full : 16256 ≤ length t.clocks.now
  clocks_full = (tested_full store none).clocks

  pub countable_to : (p : ℕ) → p ≤ t.«record».events → Countable t.order.now p
  countable_to p h = countable store none p h

  -- the bounds that are read are those of a walk
  module _ (clocks low high : List ℕ) (same : clocks ≡ t.clocks.now) where
    pub interval_bounds : (p : ℕ) → p ≤ t.«record».events → IntervalSpan clocks t.order.now p low high → Span t.«record».tablets clocks low high
    interval_bounds p h bounds = rw same (interval_span store none p h low high (bounds.low_is store (sym same) refl) bounds.high_is)

    pub trace_bounds : TraceSpan t.order.now t.«record».events low high → Span t.«record».tablets clocks low high
    trace_bounds bounds = rw same (trace_span store none low high bounds.low_is bounds.high_is)

  pub interval_walked : (p : ℕ) (w : Walk) (held : List ℕ) → IntervalWalk t p w → cuts_of w ≡ interval (with_held t held) p
  interval_walked p w held walk =
      ap (λ (l : List ℕ). cuts_between (clock_at l) w.low.counts w.high.counts) walk.clocks_are
      ∙ interval_cuts (with_held t held) p w.low.counts w.high.counts (walk.low_is held) walk.high_is

  -- an interval, and the whole trace, as a question's range
  pub range_interval : (p : Position) (read : Option Walk) → IntervalRead t p.0 read → RangeRead t (Interval p) read
  range_interval p None outside = λ held. lt-leb p.0 t.«record».events outside
  range_interval p (Some w) (within, walk) = λ held. (
    le-leb p.0 t.«record».events within,
    interval_walked p.0 w held walk,
  )

  pub range_whole : (clocks low high : List ℕ) → clocks ≡ t.clocks.now → TraceSpan t.order.now t.«record».events low high → (held : List ℕ) → (range_known (with_held t held) Whole ≡ true) × (cuts_between (clock_at clocks) low high ≡ cuts_in (with_held t held) Whole)
  range_whole clocks low high same bounds held = (
    refl,
    ap (λ (l : List ℕ). cuts_between (clock_at l) low high) same ∙ trace_cuts (with_held t held) low high bounds.low_is bounds.high_is,
  )
