-- `interval_span`: position 0 has the empty cut; another has its event's clock and the tallies after it.
use mathlib.Core.Path.{sym, ap, ◌∙◌}
use mathlib.Core.List.{List}
use Prim.Native.Nat.{ℕ, ◌-◌, ◌≤◌}
use native.Mathlib.Omega.{arith}
use Rattle.model.specs.Lists.{at, zeros}
use Rattle.model.specs.Clocks.{clock_at}
use Rattle.model.specs.Follow.{column_at}
use Rattle.model.specs.Cuts.{gmin}
use Rattle.steps.proofs.Bounding.{byte_positive, own_fits, count_low, count_high, gmin_read}
use Rattle.steps.proofs.spans.interval_span.Goals as goal

pub returns-then-position-eq0 : goal.returns-then-position-eq0
unfolding zeros
returns-then-position-eq0 c =
    record {
      low_is = λ s k o. sym (ap (gmin s) c.if-position-eq0.true);
      high_is = c.requires.1;
    }

pub stored-requires : goal.stored-requires
stored-requires c =
    let a = c.args in
    let p = a.position.0 in
    let some : 1 ≤ p = omega arith in
    let tallied = ap (λ (l : List ℕ). at l (column_at a.order.now (p - 1))) c.requires.1 in (
      byte_positive a.order.now p c.requires.0 some,
      omega (arith, own_fits a.order.now p c.requires.0 some),
      omega (arith, tallied, count_low a.order.now p c.requires.0 some),
      omega (arith, tallied, count_high a.order.now p c.requires.0 some),
    )

pub returns : goal.returns
returns c =
    let a = c.args in
    let own = column_at a.order.now (a.position.0 - 1) in
    record {
      low_is = λ store k o. c.copy_from_slice.ensures.after ∙ c.stored.ensures.clock
          ∙ ap (λ (l : List ℕ). clock_at a.clocks.bytes.now own (at l own)) c.requires.1
          ∙ gmin_read a.order.now a.position.0 c.requires.0 (omega arith) a.clocks.bytes.now store k o;
      high_is = c.requires.1;
    }
