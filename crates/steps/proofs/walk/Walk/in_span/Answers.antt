-- `in_span`: between the bounds, and closed.
use native.Mathlib.Omega.{arith}
use Rattle.std.proofs.lemmas.Float.{T_from_true}
use Rattle.model.proofs.Entries.{covered_at_most}
use Rattle.steps.proofs.walk.Walk.in_span.Goals.{then-is_covered, else-is_covered}
use Rattle.steps.proofs.walk.Walk.in_span.Goals as goal

pub is_closed-requires : goal.is_closed-requires
is_closed-requires c =
    elim c.if-is_covered.branch [
      | then-is_covered w ↦ λ j h. omega (arith, covered_at_most c.args.cut.counts c.args.self.now.high.counts (T_from_true _ (cc)) j h, c.args.self.now.span.stored j h)
      | else-is_covered w ↦ absurd (cc)
    ]
