-- How the lines of an answer stand in an output.
use Rattle.std.specs.Prelude.{◌≡◌, List, ℕ, ◌+◌, ◌≤◌, length, Option, None, Some, IfSome}
use Rattle.std.specs.Borrow.{Bor}
use Rattle.std.proofs.lemmas.List.Edits.{sets}
use Rattle.model.specs.declared.Record.{Record}
use Rattle.model.specs.Lists.{zeros}

-- Our choice, since document 01 has no rule for a report's output: it has 71,680 bytes or more, as the store's buffers are of
-- full size, and a shorter one is refused 14 before all else and left as it was. No report is longer than 71,243 bytes: tablets
-- and events take at most 22, 2,033 interval lines 35 each, cuts 26 and witness 40.
abbrev pub room : ℕ
room = 71680

-- the entries of a witness that is lent, and zeros where there is none
abbrev pub witness_entries : Option (Bor (List ℕ)) → List ℕ
witness_entries None = zeros
witness_entries (Some cut) = cut.now

-- what writing an answer may assume: a number of tablets and of events, a count for each position, eight entries or more of a
-- witness, the room
pub record Writable (r : Record) (counts : List ℕ) (witness : Option (Bor (List ℕ))) (out : List ℕ) : Type 0 where
  pub some : 1 ≤ r.tablets
  pub most : r.tablets ≤ 8
  pub few : r.events ≤ 2032
  pub counted : 2033 ≤ length counts
  pub entries : IfSome witness (λ cut. 8 ≤ length cut.now)
  pub fits : room ≤ length out

-- lines written at an offset: the offset behind them, and the output at exit
pub record LinesAt (out : List ℕ) (at : ℕ) (lines : List ℕ) (behind : ℕ) (exit : List ℕ) : Type 0 where
  pub behind_is : behind ≡ at + length lines
  pub exit_is : exit ≡ sets out at lines
