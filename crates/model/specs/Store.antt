-- A record with its three lent buffers, accepting, and when a store is valid.
use Rattle.std.specs.Prelude.{ℕ, ◌+◌, ◌*◌, Bool, not, cond, ◌&&◌, List, leb, length, get_or, set}
use Rattle.std.proofs.lemmas.List.Edits.{sets}
use Rattle.model.specs.declared.Record.{Record}
use Rattle.model.specs.declared.Event.{Event}
use Rattle.model.specs.Numbers.{tablets_fit, slot, column}
use Rattle.model.specs.Refusals.{or_else}
use Rattle.model.specs.Clocks.{Clocks, EventName, clock_at}
use Rattle.model.specs.Follow.{tally, tallies, follow_refusal, follow_to}

-- rule 7: a record beside its buffers
pub record Store : Type 0 where
  pub tablets : ℕ
  pub events : ℕ
  pub clocks : List ℕ
  pub held : List ℕ
  pub order : List ℕ

abbrev pub store_of : Record → List ℕ → List ℕ → List ℕ → Store
store_of r clocks held order =
    record { tablets = r.tablets; events = r.events; clocks = clocks; held = held; order = order }

-- the record of a store
abbrev pub record_of : Store → Record
record_of s = record { tablets = s.tablets; events = s.events }

-- rule 10: a record before its first event, (n, 0)
abbrev pub fresh_record : ℕ → Record
fresh_record n = record { tablets = n; events = 0 }

-- rule 51: the record of an opening that is refused, (0, 0)
abbrev pub no_record : Record
no_record = record { tablets = 0; events = 0 }

abbrev pub clocks_of : Store → Clocks
clocks_of s = clock_at s.clocks

-- rules 5 and 8: the held value of an event
abbrev pub held_of : Store → EventName → ℕ
held_of s e = get_or s.held (slot e.column e.number) 0

-- rule 12: the tallies now
abbrev pub tallies_of : Store → List ℕ
tallies_of s = tallies s.order s.events

-- rule 7: long enough, the bytes of clocks, the numbers of held and the bytes of order; what is behind is not looked at
abbrev pub full_sizes : List ℕ → List ℕ → List ℕ → Bool
full_sizes clocks held order = leb 16256 (length clocks) && leb 2032 (length held) && leb 2032 (length order)

unfoldable pub full_size : Store → Bool
full_size s = full_sizes s.clocks s.held s.order

-- rules 2 and 17
unfoldable pub valid : Store → Bool
valid s = leb s.events 2032 && follow_to s.tablets (clocks_of s) s.order s.events

-- rule 53: what is tested of a record alone, first of all, by every call that opens one or takes a store; 0 where it passes
unfoldable pub record_refusal : Record → ℕ
record_refusal r = cond (not (tablets_fit r.tablets)) 1 0

-- rules 17 and 53: 0 where the store is sound
unfoldable pub store_refusal : Store → ℕ
store_refusal s = or_else (record_refusal (record_of s)) (cond (not (full_size s)) 2 (cond (not (valid s)) 3 0))

-- rule 11: the next slot of the event's tablet, and the store with the event
abbrev pub next_slot : Store → Event → ℕ
next_slot s e = slot (column e.tablet) (tally s.order s.events (column e.tablet) + 1)

unfoldable pub accepted : Store → Event → Store
accepted s e =
    record {
      tablets = s.tablets;
      events = s.events + 1;
      clocks = sets s.clocks (8 * next_slot s e) e.clock;
      held = set s.held (next_slot s e) e.held;
      order = set s.order s.events e.tablet.0;
    }

-- rules 13 to 16: the refusal of an event offered to a store that passes `store_refusal`; 0 where it may follow
unfoldable pub event_refusal : Store → Event → ℕ
event_refusal s e = follow_refusal s.tablets (clocks_of s) (tallies_of s) e.tablet.0 e.clock
