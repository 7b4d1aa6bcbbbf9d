-- `count_span`: what is counted and what stands behind the cut make up the whole.
use mathlib.Core.Path.{◌≡◌}
use Prim.Native.Nat.{◌+◌, ◌^◌, ◌<◌}
use lib.ListN.{length}
use Rattle.model.specs.Lists.{keep}
use Rattle.model.specs.Lexical.{lex_before}
use Rattle.steps.specs.Walked.{Standing, cuts_of}
use Rattle.walks.proofs.counting.count_span.Given as goal

abbrev pub invariant-loop-counts : goal.invariant-loop-counts
invariant-loop-counts l = Standing l.walk l.counts × (l.count + length (keep (lex_before l.counts) (cuts_of l.walk)) ≡ length (cuts_of l.walk)) × (l.count < 2 ^ 64)

abbrev pub decreases-loop-counts : goal.decreases-loop-counts
decreases-loop-counts l = length (keep (lex_before l.counts) (cuts_of l.walk))
