-- What reading answers and leaves behind, for every text and every three buffers.
use Rattle.std.specs.Prelude.{ℕ, zero, suc, ◌+◌, ◌-◌, cond, List, Result, Ok, Err, ltb, eqb, length, drop}
use Rattle.model.specs.declared.Record.{Record}
use Rattle.model.specs.Refusals.{number_of}
use Rattle.model.specs.Store.{Store, store_of, no_record, full_sizes}
use Rattle.store.specs.Outcomes.{Opened, opening, appending}
use Rattle.lines.specs.Find.{rest_lines}
use Rattle.loglines.specs.declared.events.EventLines.{EventLines}
use Rattle.loglines.specs.declared.events.FaultyLine.{FaultyLine}
use Rattle.text.specs.declared.reading.ReadRefusal.{ReadRefusal}
use Rattle.loglines.specs.Keys.{number_line, ends_here, tablets_key, events_key}
use Rattle.loglines.specs.Events.{with_said, line_bytes, event_lines}

-- the refusal's number, 0 for none, its line, 0 where there is none to name, and the store at exit
pub record ReadOutcome : Type 0 where
  pub refusal : ℕ
  pub line : ℕ
  pub store : Store

abbrev pub read_outcome : Result Record ReadRefusal → List ℕ → List ℕ → List ℕ → ReadOutcome
read_outcome (Ok r) clocks held order =
    record { refusal = 0; line = 0; store = store_of r clocks held order }
read_outcome (Err e) clocks held order =
    record { refusal = number_of e.why; line = e.line; store = store_of e.record clocks held order }

-- rule 42: a refusal names its line, and keeps what was accepted before
abbrev pub refused : ℕ → ℕ → Store → ReadOutcome
refused number line s = record { refusal = number; line = line; store = s }

-- rules 38 and 40 to 42: the last line
unfoldable pub ending : Store → ℕ → List ℕ → ReadOutcome
ending s line text =
    with_said (number_line events_key 65535 text) (refused 12 line s)
    λ count. cond (eqb count s.events)
    (cond (ltb (line_bytes text) (length text)) (refused 12 (line + 1) s) (record { refusal = 0; line = 0; store = s }))
    (refused 12 line s)

-- rule 42: the three lines of an event, offered to the store: a faulty one is named itself, a refused event by its `held` line
pub record TurnOutcome : Type 0 where
  pub refusal : ℕ
  pub line : ℕ
  pub used : ℕ
  pub store : Store

abbrev pub offered : Store → Result EventLines FaultyLine → TurnOutcome
offered s (Ok e) =
    record { refusal = (appending s e.event).refusal; line = 2; used = e.used; store = (appending s e.event).store }
offered s (Err f) = record { refusal = 12; line = f.line; used = 0; store = s }

unfoldable pub turn : Store → List ℕ → TurnOutcome
turn s text = offered s (event_lines s.tablets text)

-- Rule 41, behind the `tablets` line: event after event, up to the `events` line
abbrev pub read_from : ℕ → Store → ℕ → List ℕ → ReadOutcome
read_from zero s line text = refused 12 line s
read_from (suc turns) s line text =
    cond (ends_here text) (ending s line text)
    (cond (eqb (turn s text).refusal 0)
    (read_from turns (turn s text).store (line + 3) (drop (turn s text).used text))
    (refused (turn s text).refusal (line + (turn s text).line) (turn s text).store))

-- A store takes at most 2,032 events, so as many turns as it has room for and one more are enough for every text: that one
-- can only be at the `events` line or a refusal.
unfoldable pub read_on : Store → ℕ → List ℕ → ReadOutcome
read_on s line text = read_from (2033 - s.events) s line text

-- rule 51: the store before an accepted `tablets` line
abbrev pub nothing_read : List ℕ → List ℕ → List ℕ → Store
nothing_read clocks held order = store_of no_record clocks held order

-- rule 41: the number of the `tablets` line is opened, and where opening refuses it, line 1 is named
abbrev pub opened_text : Opened → List ℕ → List ℕ → List ℕ → ReadOutcome
opened_text o clocks held order =
    record { refusal = o.refusal; line = cond (eqb o.refusal 0) 0 1; store = store_of o.returned clocks held order }

-- rules 41, 51 and 53: 2 with line 0, then the first line: 12 for a faulty `tablets` line, 1 for a number of tablets that
-- opening refuses, else the fresh record
unfoldable pub beginning : List ℕ → List ℕ → List ℕ → List ℕ → ReadOutcome
beginning text clocks held order =
    cond (full_sizes clocks held order)
    (with_said (number_line tablets_key 255 text) (refused 12 1 (nothing_read clocks held order))
    λ n. opened_text (opening n) clocks held order)
    (refused 2 0 (nothing_read clocks held order))

-- then the events
abbrev pub going_on : List ℕ → ReadOutcome → ReadOutcome
going_on text o = cond (eqb o.refusal 0) (read_on o.store 2 (rest_lines text)) o

unfoldable pub reading : List ℕ → List ℕ → List ℕ → List ℕ → ReadOutcome
reading text clocks held order = going_on text (beginning text clocks held order)
