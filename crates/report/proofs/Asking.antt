-- Laws of the checks before the trace is read, and of the whole.
use mathlib.Core.Path.{◌≡◌, refl, sym, ap, ◌∙◌}
use mathlib.Core.Bool.{Bool, true, false, cond}
use mathlib.Core.List.{List}
use Prim.Native.Nat.{ℕ, ◌≤◌, ◌<◌}
use native.Mathlib.Omega.{arith}
use borrow.Author.Tests.{lt-ltb, le-ltb, ne_eqb}
use lib.Dec.{ltb}
use lib.ListN.{length}
use Rattle.std.specs.Prelude.{Option, Some, None, Result, Ok, Err, IsErrAnd}
use Rattle.model.specs.declared.Record.{Record}
use Rattle.model.specs.declared.Refusal.{Refusal}
use Rattle.model.specs.declared.Refusal.TheVariants.{InputTooLong}
use Rattle.model.specs.declared.Question.{Question}
use Rattle.model.specs.Refusals.{number_of}
use Rattle.model.specs.Store.{Store, store_of, store_refusal}
use Rattle.model.proofs.Refusals.{number_positive}
use Rattle.lines.specs.Find.{line_length, rest_lines}
use Rattle.askline.specs.Ask.{ask_line}
use Rattle.askline.proofs.Inside.{ask_inside}
use Rattle.text.specs.declared.reading.ReadRefusal.{ReadRefusal}
use Rattle.text.specs.Reading.{ReadOutcome, reading, read_outcome}
use Rattle.roundtrip.proofs.Theorems.{read_writes_back}
use Rattle.answerlines.specs.Outputs.{room}
use Rattle.report.specs.declared.Refused.{Refused}
use Rattle.report.specs.Report.{Printed, outcome, written, answering, answering_read, tracing, looked, looking, following, reporting, told, told_whole}
use Rattle.report.proofs.Outcomes.{told_refused}

-- an input that asks has an ask line that ends within it
pub look_inside : (input : List ℕ) (question : Question) → looking input ≡ Ok question → line_length input < length input
unfolding looking
look_inside input question is = by_test (ltb 65536 (length input)) (ask_line input) refl is
  where
    by_test : (b : Bool) (asked : Option Question) → ask_line input ≡ asked → cond b (Err InputTooLong) (looked asked) ≡ Ok question → line_length input < length input
    by_test true asked a e = cc
    by_test false None a e = cc
    by_test false (Some q) a e = ask_inside input q a

-- the buffers that reading leaves are those of its outcome
as_read : (r : Result Record ReadRefusal) (c h o : List ℕ) (p : Printed) → outcome p c h o ≡ outcome p (read_outcome r c h o).store.clocks (read_outcome r c h o).store.held (read_outcome r c h o).store.order
as_read (Ok read) c h o p = refl
as_read (Err refusal) c h o p = refl

-- what follows a question that was asked: the trace as it was read, and what is told of it
module _ (input clocks held order out : List ℕ) (question : Question) (is : looking input ≡ Ok question) (trace : List ℕ) (rest : trace ≡ rest_lines input) (r : Result Record ReadRefusal) (c h o : List ℕ) (gave : read_outcome r c h o ≡ reading trace clocks held order) where
  pub follows : (p : Printed) → p ≡ answering_read (read_outcome r c h o) question out → outcome p c h o ≡ following (looking input) (rest_lines input) clocks held order out
  unfolding tracing
  follows p told_is =
      as_read r c h o p
      ∙ ap (λ (x : Printed). outcome x (read_outcome r c h o).store.clocks (read_outcome r c h o).store.held (read_outcome r c h o).store.order) told_is
      ∙ ap (λ (x : ReadOutcome). outcome (answering_read x question out) x.store.clocks x.store.held x.store.order) (gave ∙ ap (λ t. reading t clocks held order) rest)
      ∙ sym (ap (λ seen. following seen (rest_lines input) clocks held order out) is)

  -- reading's own refusal comes first
  pub follows_refused : (refusal : ReadRefusal) → r ≡ Err refusal → (given : Result ℕ Refused) → IsErrAnd given (λ y. y ≡ record { why = refusal.why; line = refusal.line }) → outcome (told given out) c h o ≡ following (looking input) (rest_lines input) clocks held order out
  unfolding answering_read
  follows_refused refusal was given left =
      let number = ne_eqb (number_of refusal.why) 0 (λ z. let no : ⊥ = omega (arith, z, number_positive refusal.why) in no) in
      follows (told given out) (told_refused given _ out left ∙ rw was (simp number))

  -- and what was read is answered, as the store that it is
  module _ (read : Record) (was : r ≡ Ok read) (stored : Store) (lies : stored ≡ store_of read c h o) where
    pub read_sound : store_refusal stored ≡ 0
    read_sound =
        let whole : read_outcome (Ok read) c h o ≡ reading trace clocks held order = ap (λ x. read_outcome x c h o) (sym was) ∙ gave in
        ap store_refusal lies
        ∙ ap (λ (x : ReadOutcome). store_refusal x.store) whole
        ∙ (read_writes_back trace clocks held order (ap (λ (x : ReadOutcome). x.refusal) (sym whole))).0

    pub follows_answered : (whole : Result ℕ Refusal) (exit : List ℕ) → told_whole whole exit ≡ answering stored question out → outcome (told_whole whole exit) c h o ≡ following (looking input) (rest_lines input) clocks held order out
    unfolding answering_read
    follows_answered whole exit answered = follows (told_whole whole exit) (answered ∙ ap (λ s. answering s question out) lies ∙ rw was refl)

-- the whole, by the room of the output
module _ (input clocks held order out : List ℕ) where
  pub report_short : length out < room → reporting input clocks held order out ≡ outcome (written 14 0 0 out) clocks held order
  unfolding reporting
  report_short h = simp (lt-ltb (length out) room h)

  pub report_follows : room ≤ length out → following (looking input) (rest_lines input) clocks held order out ≡ reporting input clocks held order out
  unfolding reporting
  report_follows h = simp (le-ltb (length out) room h)
