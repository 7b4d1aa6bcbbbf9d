-- What a report answers and leaves behind, for every input and every lent buffer.
use Rattle.std.specs.Prelude.{◌≡◌, ℕ, ◌≤◌, Bool, true, cond, List, ◌++◌, Option, Some, None, Result, Ok, Err, ltb, eqb, length, drop}
use Rattle.model.specs.declared.Question.{Question}
use Rattle.model.specs.declared.Refusal.{Refusal}
use Rattle.model.specs.declared.Refusal.TheVariants.{FaultyLine, InputTooLong}
use Rattle.model.specs.Lists.{at}
use Rattle.model.specs.Refusals.{number_of}
use Rattle.model.specs.Store.{Store}
use Rattle.model.specs.Cuts.{total}
use Rattle.walks.specs.Counting.{fits64}
use Rattle.questions.specs.Holdings.{question_fits}
use Rattle.lines.specs.Find.{rest_lines}
use Rattle.askline.specs.Ask.{ask_line}
use Rattle.text.specs.Reading.{ReadOutcome, reading}
use Rattle.report.specs.declared.Refused.{Refused}
use Rattle.report.specs.declared.Reported.{Reported}
use Rattle.answerlines.specs.Printing.{refused_line, answer_lines}
use Rattle.answerlines.specs.Outputs.{room}
use Rattle.report.specs.Answers.{witness_of, count_of}

-- The refusal's number, 0 for none; its line, where 0 is the ask line or none to name; how many bytes are to be printed; and the
-- output at exit, which has them at its front.
pub record Printed : Type 0 where
  pub refusal : ℕ
  pub line : ℕ
  pub length : ℕ
  pub output : List ℕ

-- an answer's refusal, and 0 and line 0 for none
abbrev pub refusal_in : {A : Type 0} → Result A Refused → ℕ
refusal_in (Ok given) = 0
refusal_in (Err refused) = number_of refused.why

abbrev pub line_in : {A : Type 0} → Result A Refused → ℕ
line_in (Ok given) = 0
line_in (Err refused) = refused.line

-- what is printed of so many bytes at the front of an output
abbrev pub written : ℕ → ℕ → ℕ → List ℕ → Printed
written refusal line length out = record { refusal = refusal; line = line; length = length; output = out }

abbrev pub printed : Reported → List ℕ → Printed
printed r out = written (refusal_in r.answer) (line_in r.answer) r.length out

-- a text at the front of an output; what lies behind stays
abbrev pub shown : ℕ → ℕ → List ℕ → List ℕ → Printed
shown refusal line text out =
    record { refusal = refusal; line = line; length = length text; output = text ++ drop (length text) out }

-- rule 49: a refusal's line at the front of an output
abbrev pub refused_shown : ℕ → ℕ → List ℕ → Printed
refused_shown number line out = shown number line (refused_line number line) out

-- rules 48 and 49, of a sound store, with a witness or none: 11 with line 0 where the sum does not fit 64 bits, and so where a count does not
unfoldable pub counting : Store → Bool → List ℕ → List ℕ → Printed
counting s found cut out =
    cond (fits64 (total s)) (shown 0 0 (answer_lines s.tablets s.events (count_of s) (total s) found cut) out)
    (refused_shown 11 0 out)

-- rule 47: 13 with line 0, once the trace was read
unfoldable pub answering : Store → Question → List ℕ → Printed
answering s question out =
    cond (question_fits s.tablets question)
    (counting s (witness_of s question).found (witness_of s question).cut out)
    (refused_shown 13 0 out)

-- rule 47, of what reading gave: its own refusal and line come first
unfoldable pub answering_read : ReadOutcome → Question → List ℕ → Printed
answering_read r question out =
    cond (eqb r.refusal 0) (answering r.store question out) (refused_shown r.refusal r.line out)

-- what is printed, and the three lent buffers at exit
pub record ReportOutcome : Type 0 where
  pub printed : Printed
  pub clocks : List ℕ
  pub held : List ℕ
  pub order : List ℕ

abbrev pub outcome : Printed → List ℕ → List ℕ → List ℕ → ReportOutcome
outcome p clocks held order = record { printed = p; clocks = clocks; held = held; order = order }

-- the trace text behind the ask line, read into the lent buffers
unfoldable pub tracing : ReadOutcome → Question → List ℕ → ReportOutcome
tracing r question out =
    outcome (answering_read r question out) r.store.clocks r.store.held r.store.order

-- Rule 47, what is seen before the trace is read: the size, then the ask line. A faulty ask line is 12.
abbrev pub looked : Option Question → Result Question Refusal
looked (Some question) = Ok question
looked None = Err FaultyLine

unfoldable pub looking : List ℕ → Result Question Refusal
looking input = cond (ltb 65536 (length input)) (Err InputTooLong) (looked (ask_line input))

-- such a refusal has line 0, and the trace is not read
abbrev pub following : Result Question Refusal → List ℕ → List ℕ → List ℕ → List ℕ → List ℕ → ReportOutcome
following (Err why) trace clocks held order out = outcome (refused_shown (number_of why) 0 out) clocks held order
following (Ok question) trace clocks held order out = tracing (reading trace clocks held order) question out

-- Rule 47, all the checks. An output that is shorter than `room` is 14 before them, and is left as it was: our choice, told at
-- `room`.
unfoldable pub reporting : List ℕ → List ℕ → List ℕ → List ℕ → List ℕ → ReportOutcome
reporting input clocks held order out =
    cond (ltb (length out) room) (outcome (record { refusal = 14; line = 0; length = 0; output = out }) clocks held order)
    (following (looking input) (rest_lines input) clocks held order out)

-- What the inner functions promise.

-- all intervals counted: whether the sum fits 64 bits, and where it does, the sum and each count
pub record CountedAll (s : Store) (fits : Bool) (sum : ℕ) (counts : List ℕ) : Type 0 where
  pub fits_is : fits ≡ fits64 (total s)
  pub sum_is : fits ≡ true → sum ≡ total s
  pub each : fits ≡ true → (p : ℕ) → p ≤ s.events → at counts p ≡ count_of s p

-- what is printed of an answer that an inner function gives: the bytes that it wrote, or its refusal's line, which is still to be written
abbrev pub told : Result ℕ Refused → List ℕ → Printed
told (Ok length) out = written 0 0 length out
told (Err refused) out = refused_shown (number_of refused.why) refused.line out

-- the same of a refusal that has line 0
abbrev pub told_whole : Result ℕ Refusal → List ℕ → Printed
told_whole (Ok length) out = written 0 0 length out
told_whole (Err why) out = refused_shown (number_of why) 0 out
