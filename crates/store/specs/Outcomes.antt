-- What the public calls answer and leave behind: for each call one definition of its whole outcome.
use Rattle.std.specs.Prelude.{◌≡◌, ℕ, cond, List, eqb, Result, Ok, Err}
use Rattle.model.specs.declared.Event.{Event}
use Rattle.model.specs.declared.Record.{Record}
use Rattle.model.specs.declared.Refusal.{Refusal}
use Rattle.model.specs.Refusals.{verdict_number}
use Rattle.model.specs.Store.{Store, store_of, fresh_record, no_record, tallies_of, record_refusal, store_refusal, event_refusal, accepted}
pub use Rattle.rules.specs.Reading.{Bounded}
use Rattle.store.specs.declared.Trace.{Trace}
use Rattle.store.specs.declared.Buffers.{Buffers}
use Rattle.store.specs.declared.inner.Appended.{Appended}

-- the store that a trace is, where it lies
abbrev pub store_in : Trace → Store
store_in t = store_of t.«record» t.clocks.now t.held.now t.order.now

-- the same of a record and the buffers that are to take its events
abbrev pub store_at : Record → Buffers → Store
store_at r b = store_of r b.clocks.now b.held.now b.order.now

-- The buffers are still the three that were lent: what is written to them is written to the lender's.
pub record SameBuffers (before after : Buffers) : Type 0 where
  pub clocks : after.clocks.ghost_name ≡ before.clocks.ghost_name
  pub held : after.held.ghost_name ≡ before.held.ghost_name
  pub order : after.order.ghost_name ≡ before.order.ghost_name

-- the refusal's number, 0 for none, with the record that is returned
pub record Opened : Type 0 where
  pub refusal : ℕ
  pub returned : Record

-- rule 51: the record that goes on: what the call gives, or, where it refuses, the first argument: the record given to an
-- accept, none for an opening
abbrev pub record_left : Record → Result Record Refusal → Record
record_left given (Ok r) = r
record_left given (Err why) = given

-- rule 51: (0, 0) for a refused opening
abbrev pub opened : Result Record Refusal → Opened
opened answer =
    record { refusal = verdict_number answer; returned = record_left no_record answer }

-- rules 10 and 51: a fresh record, or none
abbrev pub opening : ℕ → Opened
opening n =
    record { refusal = record_refusal (fresh_record n); returned = cond (eqb (record_refusal (fresh_record n)) 0) (fresh_record n) no_record }

-- the refusal's number, 0 for none, with the record that is returned and the buffers at exit
pub record Outcome : Type 0 where
  pub refusal : ℕ
  pub store : Store

-- rule 51: where an accept refuses, the record is the one given
abbrev pub taken : Record → Result Record Refusal → List ℕ → List ℕ → List ℕ → Outcome
taken given answer clocks held order =
    record { refusal = verdict_number answer; store = store_of (record_left given answer) clocks held order }

-- rules 11 and 51, an event offered to a sound store: taken, or refused with record and buffers as they were
abbrev pub appending : Store → Event → Outcome
appending s e =
    cond (eqb (event_refusal s e) 0) (record { refusal = 0; store = accepted s e })
    (record { refusal = event_refusal s e; store = s })

-- rule 53, the same of any store
abbrev pub accepting : Store → Event → Outcome
accepting s e = cond (eqb (store_refusal s) 0) (appending s e) (record { refusal = store_refusal s; store = s })

-- What the inner append may assume, and its caller keeps: the store is sound and of full size, and the tallies are its own.
pub record AppendReady (s : Store) (tallies : List ℕ) : Type 0 where
  pub refusal : store_refusal s ≡ 0
  pub tally : tallies ≡ tallies_of s

-- the same once the event is known to follow
pub record WriteReady (s : Store) (tallies : List ℕ) (e : Event) : Type 0 where
  pub ready : AppendReady s tallies
  pub may : event_refusal s e ≡ 0

-- rule 51: the record that goes on: the append's, or the one given where it refuses the event
abbrev pub record_after : Record → Result Appended Refusal → Record
record_after given (Ok done) = done.record
record_after given (Err why) = given

-- the append's outcome, with that record and the buffers at exit
abbrev pub appended : Record → Result Appended Refusal → List ℕ → List ℕ → List ℕ → Outcome
appended given answer clocks held order =
    record { refusal = verdict_number answer; store = store_of (record_after given answer) clocks held order }

-- rule 51: the tallies that go with that record: the append's, or those given where it refuses the event
abbrev pub tallies_left : List ℕ → Result Appended Refusal → List ℕ
tallies_left given (Ok done) = done.tallies
tallies_left given (Err why) = given

pub record AppendedTo (s : Store) (e : Event) (outcome : Outcome) (tallies : List ℕ) : Type 0 where
  pub outcome_is : outcome ≡ appending s e
  pub tally : tallies ≡ tallies_of (appending s e).store

-- the event written: the outcome is the accepted store
pub record Stored (s : Store) (e : Event) (outcome : Outcome) (tallies : List ℕ) : Type 0 where
  pub outcome_is : outcome ≡ record { refusal = 0; store = accepted s e }
  pub tally : tallies ≡ tallies_of (accepted s e)
