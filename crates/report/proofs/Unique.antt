-- No second outcome satisfies the contract of `make_report`: the answer, the output and the three buffers. The same of the two
-- conversions into what a report says of a refusal.
use mathlib.Core.Path.{◌≡◌, refl, sym, ap, ap₂, ◌∙◌}
use mathlib.Core.List.{List}
use Prim.Native.Nat.{ℕ}
use native.Mathlib.Omega.{arith}
use Rattle.std.specs.Prelude.{Result, Ok, Err}
use Rattle.model.specs.declared.Refusal.{Refusal}
use Rattle.model.proofs.Refusals.{number_positive, refusal_unique}
use Rattle.text.specs.declared.reading.ReadRefusal.{ReadRefusal}
use Rattle.report.specs.declared.Refused.{Refused}
use Rattle.report.specs.declared.Reported.{Reported}
use Rattle.report.specs.Report.{Printed, printed, ReportOutcome, outcome, reporting, refusal_in, line_in}

-- an answer is told by its refusal's number and line
answer_unique : (v w : Result (Unit {0}) Refused) → refusal_in v ≡ refusal_in w → line_in v ≡ line_in w → v ≡ w
answer_unique (Ok x) (Ok y) number line = refl
answer_unique (Ok x) (Err w) number line = let no : ⊥ = omega (arith, number, number_positive w.why) in absurd no
answer_unique (Err v) (Ok y) number line = let no : ⊥ = omega (arith, number, number_positive v.why) in absurd no
answer_unique (Err v) (Err w) number line = ap₂ (λ why n. Err (record { why = why; line = n })) (refusal_unique v.why w.why number) line

pub make_report_unique : (input clocks held order out : List ℕ) (r s : Reported) (o c h d exit bytes numbers tablets : List ℕ) → outcome (printed r o) c h d ≡ reporting input clocks held order out → outcome (printed s exit) bytes numbers tablets ≡ reporting input clocks held order out → (r ≡ s) × (o ≡ exit) × (c ≡ bytes) × (h ≡ numbers) × (d ≡ tablets)
make_report_unique input clocks held order out r s o c h d exit bytes numbers tablets p q =
    let same = p ∙ sym q in
    let said = ap (λ (x : ReportOutcome). x.printed) same in (
      (λ i. record {
        answer = answer_unique r.answer s.answer (ap (λ (x : Printed). x.refusal) said) (ap (λ (x : Printed). x.line) said) i;
        length = ap (λ (x : Printed). x.length) said i;
      }),
      ap (λ (x : Printed). x.output) said,
      ap (λ (x : ReportOutcome). x.clocks) same,
      ap (λ (x : ReportOutcome). x.held) same,
      ap (λ (x : ReportOutcome). x.order) same,
    )

-- a refusal of the model's, and one of reading, as a report has them
pub refused_from_refusal_unique : (why : Refusal) (v w : Refused) → v ≡ record { why = why; line = 0 } → w ≡ record { why = why; line = 0 } → v ≡ w
refused_from_refusal_unique why v w p q = p ∙ sym q

pub refused_from_read_refusal_unique : (read : ReadRefusal) (v w : Refused) → v ≡ record { why = read.why; line = read.line } → w ≡ record { why = read.why; line = read.line } → v ≡ w
refused_from_read_refusal_unique read v w p q = p ∙ sym q
