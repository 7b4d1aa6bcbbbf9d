-- Document 01's own text, and texts that are easy to misread by rules 37 to 42, as one table of tests.
use Rattle.std.specs.Prelude.{ℕ, Bool, ◌&&◌, List, [], ◌∷◌, ◌++◌, eqb, replicate}
use Rattle.model.specs.Cases.{a1, day, same}
use Rattle.loglines.specs.Keys.{tablets_key, tablet_key, clock_key, held_key, events_key}
use Rattle.text.specs.Reading.{ReadOutcome, reading}
use Rattle.writer.specs.Writing.{text_of}

-- a text read into fresh buffers: the refusal, 0 for none, its line, and the record
abbrev pub told : ReadOutcome → ℕ → ℕ → ℕ → ℕ → Bool
told o refusal line n events =
    eqb o.refusal refusal && eqb o.line line && eqb o.store.tablets n && eqb o.store.events events

abbrev pub says : List ℕ → ℕ → ℕ → ℕ → ℕ → Bool
says text refusal line n events =
    told (reading text (replicate 16256 0) (replicate 2032 0) (replicate 2032 0)) refusal line n events

-- document 01's text byte by byte, so that the keys are pinned too
abbrev pub example : List ℕ
example =
    116 ∷ 97 ∷ 98 ∷ 108 ∷ 101 ∷ 116 ∷ 115 ∷ 61 ∷ 50 ∷ 10 ∷ 116 ∷ 97 ∷ 98 ∷ 108 ∷ 101 ∷ 116 ∷ 61 ∷ 49 ∷ 10 ∷ 99 ∷ 108 ∷ 111 ∷ 99 ∷ 107 ∷ 61 ∷ 49 ∷ 44 ∷ 48 ∷ 10 ∷ 104 ∷ 101 ∷ 108 ∷ 100 ∷ 61 ∷ 49 ∷ 10 ∷ 101 ∷ 118 ∷ 101 ∷ 110 ∷ 116 ∷ 115 ∷ 61 ∷ 49 ∷ 10 ∷ []

-- a line by its key and what stands behind it: the digits 0 to 9 are the bytes 48 to 57, a comma is 44
abbrev pub line : List ℕ → List ℕ → List ℕ
line key value = key ++ (value ++ (10 ∷ []))

-- `tablets=2`, the three lines of an event, and the `events` line; with the values as bytes
abbrev pub two : List ℕ
two = line tablets_key (50 ∷ [])

abbrev pub event : List ℕ → List ℕ → List ℕ → List ℕ
event tablet clock held = line tablet_key tablet ++ (line clock_key clock ++ line held_key held)

abbrev pub one_day : List ℕ → List ℕ → List ℕ → List ℕ → List ℕ
one_day tablet clock held events = two ++ (event tablet clock held ++ line events_key events)

-- the values of that text: 1, and 1,0
abbrev pub one : List ℕ
one = 49 ∷ []

abbrev pub one_nought : List ℕ
one_nought = 49 ∷ 44 ∷ 48 ∷ []

abbrev pub table : List Bool
table =
    -- document 01's text, written and read
    same (text_of (day 2 (a1 ∷ []))) example
    ∷ same (one_day one one_nought one one) example
    ∷ says example 0 0 2 1
    -- tablets 9 and 0: refused 1
    ∷ says (line tablets_key (57 ∷ [])) 1 1 0 0
    ∷ says (line tablets_key (48 ∷ [])) 1 1 0 0
    -- 256 is a faulty line, and so are 02, no text at all, and a line without its LF
    ∷ says (line tablets_key (50 ∷ 53 ∷ 54 ∷ [])) 12 1 0 0
    ∷ says (line tablets_key (48 ∷ 50 ∷ [])) 12 1 0 0
    ∷ says [] 12 1 0 0
    ∷ says (tablets_key ++ (50 ∷ [])) 12 1 0 0
    -- held 65535 reads; 65536 and 01 are refused 12 at their line
    ∷ says (one_day one one_nought (54 ∷ 53 ∷ 53 ∷ 51 ∷ 53 ∷ []) one) 0 0 2 1
    ∷ says (one_day one one_nought (54 ∷ 53 ∷ 53 ∷ 51 ∷ 54 ∷ []) one) 12 4 2 0
    ∷ says (one_day one one_nought (48 ∷ 49 ∷ []) one) 12 4 2 0
    -- clocks of n - 1 and of n + 1 entries
    ∷ says (one_day one one one one) 12 3 2 0
    ∷ says (one_day one (49 ∷ 44 ∷ 48 ∷ 44 ∷ 48 ∷ []) one one) 12 3 2 0
    -- refused events: clock 2,0, and tablet 3 of 2
    ∷ says (one_day one (50 ∷ 44 ∷ 48 ∷ []) one one) 5 4 2 0
    ∷ says (one_day (51 ∷ []) one_nought one one) 4 4 2 0
    -- a faulty later line of a refused event comes first: held x
    ∷ says (one_day (51 ∷ []) one_nought (120 ∷ []) one) 12 4 2 0
    -- `events` is T: not 2, and not 18446744073709551617, which is 1 in 64 bits
    ∷ says (one_day one one_nought one (50 ∷ [])) 12 5 2 1
    ∷ says (one_day one one_nought one (49 ∷ 56 ∷ 52 ∷ 52 ∷ 54 ∷ 55 ∷ 52 ∷ 52 ∷ 48 ∷ 55 ∷ 51 ∷ 55 ∷ 48 ∷ 57 ∷ 53 ∷ 53 ∷ 49 ∷ 54 ∷ 49 ∷ 55 ∷ [])) 12 5 2 1
    -- bytes after `events`, even one LF
    ∷ says (example ++ (10 ∷ [])) 12 6 2 1
    -- texts that end too soon
    ∷ says (two ++ line tablet_key one) 12 3 2 0
    ∷ says two 12 2 2 0
    -- `tablets=` where `tablet=` is due
    ∷ says (two ++ line tablets_key one) 12 2 2 0
    ∷ []
