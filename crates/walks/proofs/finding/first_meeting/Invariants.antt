-- `first_meeting`: no cut passed so far meets the question, so the first is to be found from the cut on.
use mathlib.Core.Path.{◌≡◌}
use mathlib.Core.List.{List}
use Prim.Native.Nat.{ℕ}
use lib.ListN.{length}
use Rattle.model.specs.declared.Question.{Question}
use Rattle.model.specs.Lists.{keep}
use Rattle.model.specs.Store.{Store}
use Rattle.model.specs.Lexical.{lex_before}
use Rattle.model.specs.Questions.{meets, Witness, first_of}
use Rattle.steps.specs.Walked.{Standing, cuts_of}
use Rattle.steps.proofs.Walks.{from_cut_lem}
use Rattle.questions.specs.Holdings.{ForHeld}
use Rattle.walks.proofs.finding.first_meeting.Given as goal

abbrev pub first : Store → Question → List (List ℕ) → Witness
first s question Gs = first_of (keep (meets s question) Gs)

abbrev pub invariant-loop-question : goal.invariant-loop-question
invariant-loop-question l = Standing l.walk l.counts × ForHeld l.holdings.held.now (λ s. first s l.question (cuts_of l.walk) ≡ first s l.question (from_cut_lem (cuts_of l.walk) l.counts))

abbrev pub decreases-loop-question : goal.decreases-loop-question
decreases-loop-question l = length (keep (lex_before l.counts) (cuts_of l.walk))
