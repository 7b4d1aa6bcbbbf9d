-- Laws of the answer behind the trace: the witness, the counts, and what reading gave.
use mathlib.Core.Path.{◌≡◌, refl, sym, ap, ap₂, ◌∙◌}
use mathlib.Core.Bool.{Bool, true, false, cond, not}
use mathlib.Core.List.{List, ◌++◌}
use Prim.Native.Nat.{ℕ, ◌+◌, ◌≤◌}
use native.Mathlib.Omega.{arith}
use lib.ListN.{length}
use Rattle.std.specs.Prelude.{Option, Some, None, Result, Ok, Err, IsErrAnd, is_some, unwrap_or}
use Rattle.std.specs.Option.{ok_or}
use Rattle.std.proofs.lemmas.Result.{err_from_is_err_and}
use Rattle.model.specs.declared.Refusal.{Refusal}
use Rattle.model.specs.declared.Refusal.TheVariants.{CountTooLarge}
use Rattle.model.specs.declared.Cut.{Cut}
use Rattle.model.specs.declared.Question.{Question}
use Rattle.model.specs.declared.Range.TheVariants.{Whole}
use Rattle.model.specs.Lists.{at}
use Rattle.model.specs.Refusals.{number_of}
use Rattle.model.specs.Store.{Store}
use Rattle.model.specs.Cuts.{total}
use Rattle.model.specs.Questions.{Witness}
use Rattle.model.proofs.Refusals.{number_positive}
use Rattle.questions.specs.Holdings.{question_fits}
use Rattle.cuts.specs.Outcomes.{AskOutcome, asked, cut_found, refused_asking, ask_in}
use Rattle.answerlines.specs.Printing.{head_lines, tail_lines, answer_lines}
use Rattle.answerlines.specs.Outputs.{LinesAt}
use Rattle.answerlines.proofs.Lines.{lines_agree}
use Rattle.report.specs.declared.Refused.{Refused}
use Rattle.report.specs.Answers.{witness_of, count_of}
use Rattle.report.specs.Report.{Printed, written, shown, refused_shown, counting, answering, CountedAll, told, told_whole}
use Rattle.report.proofs.Showing.{lines_shown}

-- a refusal that `?` hands on
pub told_refusal : (given : Result ℕ Refusal) (why : Refusal) (out : List ℕ) → IsErrAnd given (λ y. y ≡ why) → told_whole given out ≡ refused_shown (number_of why) 0 out
told_refusal given why out left =
    let p = err_from_is_err_and given left in
    ap (λ x. told_whole x out) p.1 ∙ ap (λ y. refused_shown (number_of y) 0 out) p.2

pub told_refused : (given : Result ℕ Refused) (refused : Refused) (out : List ℕ) → IsErrAnd given (λ y. y ≡ refused) → told given out ≡ refused_shown (number_of refused.why) refused.line out
told_refused given refused out left =
    let p = err_from_is_err_and given left in
    ap (λ x. told x out) p.1 ∙ ap (λ (y : Refused). refused_shown (number_of y.why) y.line out) p.2

-- a refusal that has line 0
pub told_line : (whole : Result ℕ Refusal) (why : Refusal) (out : List ℕ) → whole ≡ Err why → (given : Result ℕ Refused) → IsErrAnd given (λ y. y ≡ record { why = why; line = 0 }) → told given out ≡ told_whole whole out
told_line whole why out was given left = told_refused given _ out left ∙ ap (λ x. told_whole x out) (sym was)

-- the witness, by whether the question fits
abbrev pick : Bool → Witness → AskOutcome
pick b w = cond (not b) (refused_asking 13) (record { refusal = 0; found = w.found; cut = w.cut })

abbrev by_fit : Bool → Witness → Store → List ℕ → Printed
by_fit b w s out = cond b (counting s w.found w.cut out) (refused_shown 13 0 out)

refused_fit : (b : Bool) (w : Witness) (s : Store) (out : List ℕ) (why : Refusal) → asked (Err why) ≡ pick b w → refused_shown (number_of why) 0 out ≡ by_fit b w s out
refused_fit true w s out why is =
    let no : ⊥ = omega (arith, number_positive why, ap (λ (o : AskOutcome). o.refusal) is) in absurd no
refused_fit false w s out why is = ap (λ k. refused_shown k 0 out) (ap (λ (o : AskOutcome). o.refusal) is)

given_fit : (b : Bool) (w : Witness) (s : Store) (out : List ℕ) (found : Option Cut) → asked (Ok found) ≡ pick b w → counting s (is_some found) (cut_found found) out ≡ by_fit b w s out
given_fit false w s out found is = let no : ⊥ = omega (arith, ap (λ (o : AskOutcome). o.refusal) is) in absurd no
given_fit true w s out None is = ap (λ (o : AskOutcome). counting s o.found o.cut out) is
given_fit true w s out (Some cut) is = ap (λ (o : AskOutcome). counting s o.found o.cut out) is

module _ (s : Store) (question : Question) (out : List ℕ) (r : Result (Option Cut) Refusal) (is : asked r ≡ ask_in s (record { question = question; range = Whole })) where
  pub answering_refused : (why : Refusal) → r ≡ Err why → refused_shown (number_of why) 0 out ≡ answering s question out
  unfolding answering
  answering_refused why was = refused_fit (question_fits s.tablets question) (witness_of s question) s out why (ap asked (sym was) ∙ is)

  pub answering_given : (found : Option Cut) → r ≡ Ok found → counting s (is_some found) (cut_found found) out ≡ answering s question out
  unfolding answering
  answering_given found was = given_fit (question_fits s.tablets question) (witness_of s question) s out found (ap asked (sym was) ∙ is)

-- a count that does not fit is refused
pub over_refused : (given : Option ℕ) (why : Refusal) → Err why ≡ ok_or given CountTooLarge → (given ≡ None) × (why ≡ CountTooLarge)
over_refused None why e = (refl, cc)
over_refused (Some x) why e = cc

module _ (s : Store) (found : Bool) (cut out : List ℕ) where
  pub counting_over : (given : Option ℕ) (counts : List ℕ) → CountedAll s (is_some given) (unwrap_or given 0) counts → given ≡ None → refused_shown 11 0 out ≡ counting s found cut out
  unfolding counting
  counting_over given counts all none = simp (sym all.fits_is ∙ ap is_some none)

  module _ (sum : ℕ) (counts : List ℕ) (all : CountedAll s true sum counts) where
    lines_are : answer_lines s.tablets s.events (at counts) sum found cut ≡ answer_lines s.tablets s.events (count_of s) (total s) found cut
    unfolding answer_lines
    lines_are =
        ap₂ (λ l k. head_lines s.tablets s.events ++ (l ++ tail_lines s.tablets k found cut)) (lines_agree (at counts) (count_of s) (s.events + 1) (λ p h. all.each refl p (omega arith))) (all.sum_is refl)

    pub counting_written : (n : ℕ) (exit : List ℕ) → n ≤ length out → LinesAt out 0 (answer_lines s.tablets s.events (at counts) sum found cut) n exit → written 0 0 n exit ≡ counting s found cut out
    unfolding counting
    counting_written n exit room l =
        lines_shown 0 0 out _ n exit (omega (arith, l.behind_is, room)) l
        ∙ ap (λ t. shown 0 0 t out) lines_are
        ∙ simp (sym all.fits_is)
