-- The tallies, when an event may follow, and in what order the refusals are given.
use Rattle.std.specs.Prelude.{ℕ, zero, suc, ◌+◌, ◌-◌, Bool, true, cond, not, ◌&&◌, List, leb, ltb, eqb, get_or}
use Rattle.model.specs.Lists.{at, eight, all_below}
use Rattle.model.specs.Refusals.{or_else}
use Rattle.model.specs.Clocks.{Clocks, EventName, clock_of, covered, known}

-- rule 9: the column of the tablet whose event has position q + 1
abbrev pub column_at : List ℕ → ℕ → ℕ
column_at order q = get_or order q 0 - 1

-- rule 12: how many of the first p order bytes name the tablet of column j
abbrev pub tally : List ℕ → ℕ → ℕ → ℕ
tally order zero j = 0
tally order (suc p) j = cond (eqb (get_or order p 0) (suc j)) (suc (tally order p j)) (tally order p j)

unfoldable pub tallies : List ℕ → ℕ → List ℕ
tallies order p = eight (tally order p)

-- rule 9: the event at position q + 1: its number on its tablet is one more than the tally before it
abbrev pub event_at : List ℕ → ℕ → EventName
event_at order q = record { column = column_at order q; number = tally order q (column_at order q) + 1 }

-- rule 13: 0 where it holds, else 4 or 8
unfoldable pub tablet_refusal : ℕ → List ℕ → ℕ → ℕ
tablet_refusal n tal i = cond (eqb i 0) 4 (cond (ltb n i) 4 (cond (leb 254 (at tal (i - 1))) 8 0))

-- rule 15: an entry that is not the event's own is at most its tablet's tally, and 0 above n
abbrev pub entry_fits : ℕ → ℕ → ℕ → ℕ → ℕ → Bool
entry_fits n own j tally entry = cond (eqb j own) true (cond (ltb j n) (leb entry tally) (eqb entry 0))

unfoldable pub others_within : ℕ → List ℕ → ℕ → List ℕ → Bool
others_within n tal own clock = all_below 8 (λ j. entry_fits n own j (at tal j) (at clock j))

-- rule 16: the number of the event of tablet j that the clock must cover: the one before on its own tablet, on another the
-- last that it knows; 0 where there is none
abbrev pub last_known : ℕ → ℕ → ℕ → ℕ → ℕ
last_known own j tally entry = cond (eqb j own) tally entry

unfoldable pub covers : Clocks → List ℕ → ℕ → List ℕ → Bool
covers clk tal own clock = all_below 8 (λ j. covered (known clk j (last_known own j (at tal j) (at clock j))) clock)

-- rules 14, 15 and 16: 0 where they hold, else 5, 6 or 7
unfoldable pub clock_refusal : ℕ → Clocks → List ℕ → ℕ → List ℕ → ℕ
clock_refusal n clk tal own clock =
    cond (not (eqb (at clock own) (at tal own + 1))) 5
    (cond (not (others_within n tal own clock)) 6 (cond (not (covers clk tal own clock)) 7 0))

-- rules 13 to 16 in the order of rule 53: 0 where an event of tablet i with this clock may follow, else the first refusal
-- that applies
unfoldable pub follow_refusal : ℕ → Clocks → List ℕ → ℕ → List ℕ → ℕ
follow_refusal n clk tal i clock = or_else (tablet_refusal n tal i) (clock_refusal n clk tal (i - 1) clock)

abbrev pub may_follow : ℕ → Clocks → List ℕ → ℕ → List ℕ → Bool
may_follow n clk tal i clock = eqb (follow_refusal n clk tal i clock) 0

-- rule 17: each of the first p events may follow the ones before it
abbrev pub follow_to : ℕ → Clocks → List ℕ → ℕ → Bool
follow_to n clk order zero = true
follow_to n clk order (suc p) =
    follow_to n clk order p
    && may_follow n clk (tallies order p) (get_or order p 0) (clock_of clk (event_at order p))
