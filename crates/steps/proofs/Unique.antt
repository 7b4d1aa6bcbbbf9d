-- No second answer satisfies a contract.
use mathlib.Core.Path.{◌≡◌, refl, sym, ap, ◌∙◌}
use mathlib.Core.Bool.{Bool, ◌&&◌}
use mathlib.Core.List.{List, []}
use Prim.Native.Nat.{ℕ, ◌+◌}
use Rattle.model.specs.declared.Cut.{Cut}
use Rattle.model.specs.declared.Position.{Position}
use Rattle.model.specs.Clocks.{clock_at, covered}
use Rattle.model.specs.Store.{Store, store_of, no_record}
use Rattle.model.specs.Follow.{tallies}
use Rattle.model.specs.Cuts.{consistent}
use Rattle.model.specs.Step.{step}
use Rattle.steps.specs.declared.spans.Span.{Span}
use Rattle.steps.specs.Walk.{Stepped, stepped, next_after}
use Rattle.steps.specs.Spans.{IntervalSpan, TraceSpan}

pub next_cut_unique : (clocks low high G : List ℕ) (a b : Bool) (first second : List ℕ) → stepped a first ≡ next_after G (step (clock_at clocks) low high G) → stepped b second ≡ next_after G (step (clock_at clocks) low high G) → (a ≡ b) × (first ≡ second)
next_cut_unique clocks low high G a b first second p q =
    let same : stepped a first ≡ stepped b second = p ∙ sym q in
    (ap (λ (x : Stepped). x.found) same, ap (λ (x : Stepped). x.counts) same)

pub in_span_unique : (clocks : List ℕ) (span : Span) (cut : Cut) (a b : Bool) → a ≡ (covered span.low.counts cut.counts && consistent (clock_at clocks) span.high.counts cut.counts) → b ≡ (covered span.low.counts cut.counts && consistent (clock_at clocks) span.high.counts cut.counts) → a ≡ b
in_span_unique clocks span cut a b p q = p ∙ sym q

pub tally_next_unique : (order : List ℕ) (position : Position) (exit other : List ℕ) → exit ≡ tallies order (position.0 + 1) → other ≡ tallies order (position.0 + 1) → exit ≡ other
tally_next_unique order position exit other p q = p ∙ sym q

pub tallies_after_unique : (order : List ℕ) (position : Position) (a b : List ℕ) → a ≡ tallies order position.0 → b ≡ tallies order position.0 → a ≡ b
tallies_after_unique order position a b p q = p ∙ sym q

-- a range is told by its two cuts
span_unique : (a b : Span) → a.low.counts ≡ b.low.counts → a.high.counts ≡ b.high.counts → a ≡ b
span_unique a b l h = λ i. record { low = record { counts = l i }; high = record { counts = h i } }

pub interval_span_unique : (clocks order : List ℕ) (position : Position) (a b : Span) → IntervalSpan clocks order position.0 a.low.counts a.high.counts → IntervalSpan clocks order position.0 b.low.counts b.high.counts → a ≡ b
interval_span_unique clocks order position a b f g =
    span_unique a b (f.low_is some refl refl ∙ sym (g.low_is some refl refl)) (f.high_is ∙ sym g.high_is)
  where
    some : Store
    some = store_of no_record clocks [] order

pub trace_span_unique : (order : List ℕ) (events : ℕ) (a b : Span) → TraceSpan order events a.low.counts a.high.counts → TraceSpan order events b.low.counts b.high.counts → a ≡ b
trace_span_unique order events a b f g = span_unique a b (f.low_is ∙ sym g.low_is) (f.high_is ∙ sym g.high_is)
