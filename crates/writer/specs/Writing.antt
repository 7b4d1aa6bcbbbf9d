-- Rules 44 and 45, writing by pieces.
use Rattle.std.specs.Prelude.{ℕ, zero, suc, ◌+◌, ◌-◌, ◌≤◌, ◌<◌, cond, List, ◌++◌, leb, ltb, eqb, length, get_or, take, drop, Result, Ok, Err}
use Rattle.model.specs.declared.Refusal.{Refusal}
use Rattle.model.specs.Refusals.{verdict_number, or_else}
use Rattle.model.specs.Clocks.{clock_of}
use Rattle.model.specs.Follow.{tally, column_at, event_at}
use Rattle.model.specs.Store.{Store, clocks_of, held_of, store_refusal}
use Rattle.pieces.specs.Lines.{key_line, list_line}
use Rattle.loglines.specs.Keys.{tablets_key, tablet_key, clock_key, held_key, events_key}

-- rule 38: the three lines of an event
abbrev pub three_lines : ℕ → List ℕ → ℕ → List ℕ
three_lines tablet entries held =
    key_line tablet_key tablet ++ (list_line clock_key entries ++ key_line held_key held)

-- rules 39 and 44: those of the event at position q + 1: of its clock the n entries of the tablets that there are
unfoldable pub event_text : Store → ℕ → List ℕ
event_text s q =
    three_lines (get_or s.order q 0) (take s.tablets (clock_of (clocks_of s) (event_at s.order q))) (held_of s (event_at s.order q))

-- rule 44: the piece of a number
unfoldable pub piece_text : Store → ℕ → List ℕ
piece_text s p =
    cond (eqb p 0) (key_line tablets_key s.tablets)
    (cond (leb p s.events) (event_text s (p - 1)) (key_line events_key s.events))

-- rule 45: the pieces 0 to p joined, and the whole text
abbrev pub pieces_to : Store → ℕ → List ℕ
pieces_to s zero = piece_text s 0
pieces_to s (suc p) = pieces_to s p ++ piece_text s (suc p)

unfoldable pub text_of : Store → List ℕ
text_of s = pieces_to s (s.events + 1)

-- rule 53: 1, 2, 3, then 9 and 14; 0 where the piece is written
unfoldable pub write_refusal : Store → ℕ → ℕ → ℕ
write_refusal s p room =
    or_else (store_refusal s) (cond (ltb (s.events + 1) p) 9 (cond (ltb room (length (piece_text s p))) 14 0))

-- the refusal's number, 0 for none, the answered length, and the output at exit
pub record WriteOutcome : Type 0 where
  pub refusal : ℕ
  pub length : ℕ
  pub output : List ℕ

-- rule 51: a refusal gives no length
abbrev pub length_given : Result ℕ Refusal → ℕ
length_given (Ok long) = long
length_given (Err why) = 0

abbrev pub written : Result ℕ Refusal → List ℕ → WriteOutcome
written answer out =
    record { refusal = verdict_number answer; length = length_given answer; output = out }

-- rules 44 and 51: the piece in front of the output's rest, or what a refusal leaves
unfoldable pub writing : Store → ℕ → List ℕ → WriteOutcome
writing s p out =
    cond (eqb (write_refusal s p (length out)) 0)
    (record { refusal = 0; length = length (piece_text s p); output = piece_text s p ++ drop (length (piece_text s p)) out })
    (record { refusal = write_refusal s p (length out); length = 0; output = out })

-- what finding the number of the event at position q + 1 may assume
pub record Placed (order : List ℕ) (q : ℕ) : Type 0 where
  pub inside : q < length order
  pub some : 1 ≤ get_or order q 0
  pub narrow : get_or order q 0 ≤ 8
  pub room : tally order q (column_at order q) < 254

-- what putting its lines together may assume: a sound store has it in its buffers
pub record Writable (s : Store) (q : ℕ) : Type 0 where
  pub placed : Placed s.order q
  pub clocks : 16256 ≤ length s.clocks
  pub held : 2032 ≤ length s.held
  pub tablets : (1 ≤ s.tablets) × (s.tablets ≤ 8)
