-- How reading goes through a text, step by step: where the reader stands, and what the inner functions may assume and promise.
use Rattle.std.specs.Prelude.{◌≡◌, Bool, true, cond, List, [], ◌∷◌, ℕ, zero, suc, ◌+◌, ◌≤◌, Result, MatchResult, ⊤, eqb, length, get_or, drop}
use Rattle.model.specs.declared.Record.{Record}
use Rattle.model.specs.Refusals.{number_of}
use Rattle.model.specs.Store.{Store, store_of, no_record, full_sizes}
use Rattle.store.specs.Outcomes.{Opened, opening, AppendReady}
use Rattle.loglines.specs.Keys.{number_line, tablets_key}
use Rattle.loglines.specs.Events.{with_said}
use Rattle.text.specs.declared.standing.Step.{Step}
use Rattle.text.specs.declared.standing.Next.{Next}
use Rattle.text.specs.declared.standing.Next.TheVariants.{More, Read, Refused}
use Rattle.text.specs.declared.events.TakenEvent.{TakenEvent}
use Rattle.text.specs.declared.events.RefusedEvent.{RefusedEvent}
use Rattle.text.specs.Reading.{ReadOutcome, refused, ending, turn, read_on, reading}

-- Where the reader stands.

-- rules 41 and 43: the line at an offset is one more than there are LFs (byte 10) in front of it
abbrev pub feeds : ℕ → List ℕ → ℕ
feeds zero text = 0
feeds (suc at) [] = 0
feeds (suc at) (b ∷ bs) = cond (eqb b 10) 1 0 + feeds at bs

abbrev pub line_at : List ℕ → ℕ → ℕ
line_at text at = feeds at text + 1

-- whether a line begins at an offset: at the text's front, or behind an LF
abbrev pub begins_line : List ℕ → ℕ → Bool
begins_line text zero = true
begins_line text (suc at) = eqb (get_or text at 0) 10

-- an offset within the text where a line begins, and that line
pub record Placed (text : List ℕ) (at line : ℕ) : Type 0 where
  pub inside : at ≤ length text
  pub begins : begins_line text at ≡ true
  pub agrees : line ≡ line_at text at

-- The steps. Each is told by the text that was ahead of the reader, and the line at which that begins.

-- what is read where a step leaves the reader: the events behind it, or the outcome where nothing follows
abbrev pub follows : Next → List ℕ → ℕ → Store → ReadOutcome
follows (More tallies) ahead line s = read_on s line ahead
follows Read ahead line s = record { refusal = 0; line = 0; store = s }
follows (Refused why) ahead line s = refused (number_of why) line s

abbrev pub resumed : List ℕ → ℕ → Step → List ℕ → List ℕ → List ℕ → ReadOutcome
resumed ahead line t clocks held order =
    follows t.next (drop t.bytes ahead) (line + t.lines) (store_of t.record clocks held order)

-- where another turn is to follow
abbrev pub IfMore : Next → (List ℕ → Type 0) → Type 0
IfMore (More tallies) P = P tallies
IfMore Read P = ⊤
IfMore (Refused why) P = ⊤

-- it finds a sound store, further on
pub record GoesOn (bytes : ℕ) (s : Store) (tallies : List ℕ) : Type 0 where
  pub append : AppendReady s tallies
  pub further : 1 ≤ bytes

-- what is read from the step on is what was to be read, and where the step leaves the reader its line begins
pub record StepTaken (ahead : List ℕ) (line : ℕ) (whole : ReadOutcome) (t : Step) (clocks held order : List ℕ) : Type 0 where
  pub outcome_is : resumed ahead line t clocks held order ≡ whole
  pub placed : Placed ahead t.bytes (t.lines + 1)
  pub on : IfMore t.next (GoesOn t.bytes (store_of t.record clocks held order))

-- the head, whatever the buffers hold: the record that its line opens, and the first turn
abbrev pub heading : List ℕ → Opened
heading text =
    with_said (number_line tablets_key 255 text) (record { refusal = 12; returned = no_record }) opening

abbrev pub HeadRead : List ℕ → Step → Type 0
HeadRead text t =
    (clocks held order : List ℕ) → full_sizes clocks held order ≡ true → StepTaken text 1 (reading text clocks held order) t clocks held order

-- the last line, whatever the buffers hold
abbrev pub EndRead : List ℕ → Record → Step → Type 0
EndRead ahead r t =
    (line : ℕ) (clocks held order : List ℕ) → StepTaken ahead line (ending (store_of r clocks held order) line ahead) t clocks held order

-- the three lines of an event: taken, and another event may follow behind them; or refused, and the store stays, at the line
-- that is named
pub record IsTaken (s : Store) (ahead : List ℕ) (t : TakenEvent) (clocks held order : List ℕ) : Type 0 where
  pub passed : (turn s ahead).refusal ≡ 0
  pub used_is : t.used ≡ (turn s ahead).used
  pub store_is : store_of t.record clocks held order ≡ (turn s ahead).store
  pub ready : AppendReady (store_of t.record clocks held order) t.tallies

pub record IsRefused (s : Store) (ahead : List ℕ) (t : RefusedEvent) (clocks held order : List ℕ) (r : Record) : Type 0 where
  pub refusal_is : number_of t.why ≡ (turn s ahead).refusal
  pub line_is : t.line ≡ (turn s ahead).line
  pub store_is : store_of r clocks held order ≡ (turn s ahead).store
  pub placed : Placed ahead t.before (t.line + 1)

abbrev pub EventRead : Store → List ℕ → Record → Result TakenEvent RefusedEvent → List ℕ → List ℕ → List ℕ → Type 0
EventRead s ahead r answer clocks held order =
    MatchResult answer (λ t. IsTaken s ahead t clocks held order) (λ t. IsRefused s ahead t clocks held order r)

-- any turn behind the head
abbrev pub TurnTaken : Store → List ℕ → Step → List ℕ → List ℕ → List ℕ → Type 0
TurnTaken s ahead t clocks held order =
    (line : ℕ) → StepTaken ahead line (read_on s line ahead) t clocks held order
