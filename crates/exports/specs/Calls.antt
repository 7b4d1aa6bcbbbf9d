-- What the exported calls take, as the values of the model.
use Rattle.std.specs.Prelude.{ℕ, List}
use Rattle.model.specs.declared.Record.{Record}
use Rattle.model.specs.Store.{Store, store_of}
use Rattle.report.specs.Report.{ReportOutcome}

-- rule 7: a caller's two numbers as a record, and with three lent buffers
abbrev pub record_from : ℕ → ℕ → Record
record_from tablets events = record { tablets = tablets; events = events }

abbrev pub store_from : ℕ → ℕ → List ℕ → List ℕ → List ℕ → Store
store_from tablets events clocks held order = store_of (record_from tablets events) clocks held order

-- of a report: how many bytes are to be printed, and the four lent buffers at exit
pub record Sent : Type 0 where
  pub length : ℕ
  pub output : List ℕ
  pub clocks : List ℕ
  pub held : List ℕ
  pub order : List ℕ

abbrev pub sent : ℕ → List ℕ → List ℕ → List ℕ → List ℕ → Sent
sent length output clocks held order =
    record { length = length; output = output; clocks = clocks; held = held; order = order }

abbrev pub sent_of : ReportOutcome → Sent
sent_of r = sent r.printed.length r.printed.output r.clocks r.held r.order
