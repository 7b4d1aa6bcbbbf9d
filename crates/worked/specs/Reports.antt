-- Document 01's own example, byte for byte, and refusals that are easy to get wrong, as one table of tests.
use Rattle.std.specs.Prelude.{ℕ, ◌-◌, Bool, ◌&&◌, List, [], ◌∷◌, ◌++◌, eqb, length, take, replicate}
use Rattle.model.specs.Cases.{same}
use Rattle.askline.specs.Ask.{at_least_key, exactly_key, all_key}
use Rattle.pieces.specs.Lines.{key_line, list_line, pair_line}
use Rattle.loglines.specs.Keys.{tablets_key, tablet_key, clock_key, held_key, events_key}
use Rattle.answerlines.specs.Printing.{interval_key, cuts_key, witness_key, no_witness, refused_line}
use Rattle.report.specs.Report.{Printed, reporting}

-- printed from an input, into fresh buffers
abbrev pub report_on : List ℕ → Printed
report_on input =
    (reporting input (replicate 16256 0) (replicate 2032 0) (replicate 2032 0) (replicate 71680 0)).printed

abbrev pub prints : List ℕ → List ℕ → Bool
prints input text = same (take (report_on input).length (report_on input).output) text

-- an event's three lines
abbrev pub event : ℕ → List ℕ → ℕ → List ℕ
event tablet clock held = key_line tablet_key tablet ++ (list_line clock_key clock ++ key_line held_key held)

-- trace B: 1/1,0/1; 1/2,0/0; 2/0,1/1; 2/0,2/0
abbrev pub trace_b : List ℕ
trace_b =
    key_line tablets_key 2
    ++ (event 1 (1 ∷ 0 ∷ []) 1
    ++ (event 1 (2 ∷ 0 ∷ []) 0
    ++ (event 2 (0 ∷ 1 ∷ []) 1 ++ (event 2 (0 ∷ 2 ∷ []) 0 ++ key_line events_key 4))))

-- trace A: 1/1,0/1; 2/0,1/0; 1/2,0/0; 2/2,2/1
abbrev pub trace_a : List ℕ
trace_a =
    key_line tablets_key 2
    ++ (event 1 (1 ∷ 0 ∷ []) 1
    ++ (event 2 (0 ∷ 1 ∷ []) 0
    ++ (event 1 (2 ∷ 0 ∷ []) 0 ++ (event 2 (2 ∷ 2 ∷ []) 1 ++ key_line events_key 4))))

abbrev pub ask : List ℕ → List ℕ
ask value = at_least_key ++ (value ++ (10 ∷ []))

-- document 01's output
abbrev pub output_b : List ℕ
output_b =
    -- tablets=2
    116 ∷ 97 ∷ 98 ∷ 108 ∷ 101 ∷ 116 ∷ 115 ∷ 61 ∷ 50 ∷ 10 ∷
    -- events=4
    101 ∷ 118 ∷ 101 ∷ 110 ∷ 116 ∷ 115 ∷ 61 ∷ 52 ∷ 10 ∷
    -- interval=0,1
    105 ∷ 110 ∷ 116 ∷ 101 ∷ 114 ∷ 118 ∷ 97 ∷ 108 ∷ 61 ∷ 48 ∷ 44 ∷ 49 ∷ 10 ∷
    -- interval=1,1
    105 ∷ 110 ∷ 116 ∷ 101 ∷ 114 ∷ 118 ∷ 97 ∷ 108 ∷ 61 ∷ 49 ∷ 44 ∷ 49 ∷ 10 ∷
    -- interval=2,1
    105 ∷ 110 ∷ 116 ∷ 101 ∷ 114 ∷ 118 ∷ 97 ∷ 108 ∷ 61 ∷ 50 ∷ 44 ∷ 49 ∷ 10 ∷
    -- interval=3,3
    105 ∷ 110 ∷ 116 ∷ 101 ∷ 114 ∷ 118 ∷ 97 ∷ 108 ∷ 61 ∷ 51 ∷ 44 ∷ 51 ∷ 10 ∷
    -- interval=4,3
    105 ∷ 110 ∷ 116 ∷ 101 ∷ 114 ∷ 118 ∷ 97 ∷ 108 ∷ 61 ∷ 52 ∷ 44 ∷ 51 ∷ 10 ∷
    -- cuts=9
    99 ∷ 117 ∷ 116 ∷ 115 ∷ 61 ∷ 57 ∷ 10 ∷
    -- witness=1,1
    119 ∷ 105 ∷ 116 ∷ 110 ∷ 101 ∷ 115 ∷ 115 ∷ 61 ∷ 49 ∷ 44 ∷ 49 ∷ 10 ∷ []

-- `ask=atleast,2` and trace B, byte for byte as document 01 has the input's first line and its output
abbrev pub ask_two : List ℕ
ask_two = 97 ∷ 115 ∷ 107 ∷ 61 ∷ 97 ∷ 116 ∷ 108 ∷ 101 ∷ 97 ∷ 115 ∷ 116 ∷ 44 ∷ 50 ∷ 10 ∷ []

abbrev pub lines_a : List ℕ
lines_a =
    key_line tablets_key 2
    ++ (key_line events_key 4
    ++ (pair_line interval_key 0 1
    ++ (pair_line interval_key 1 1
    ++ (pair_line interval_key 2 2 ++ (pair_line interval_key 3 2 ++ (pair_line interval_key 4 1 ++ key_line cuts_key 7))))))

abbrev pub early_a : List ℕ
early_a = key_line tablets_key 2 ++ (event 1 (1 ∷ 0 ∷ []) 1 ++ (event 2 (0 ∷ 1 ∷ []) 0 ++ event 2 (2 ∷ 2 ∷ []) 1))

abbrev pub short_left : Printed → Bool
short_left p = eqb p.refusal 14 && eqb p.line 0 && eqb p.length 0 && same p.output (7 ∷ 7 ∷ [])

abbrev pub table : List Bool
table =
    prints (ask_two ++ trace_b) output_b
    -- at least 3: no witness, and the other lines are the same
    ∷ prints (ask (51 ∷ []) ++ trace_b) (take (length output_b - 12) output_b ++ no_witness)
    -- A: its counts, and one question of each kind that finds a cut
    ∷ prints (exactly_key ++ (48 ∷ 10 ∷ trace_a)) (lines_a ++ list_line witness_key (0 ∷ 0 ∷ []))
    ∷ prints (all_key ++ (50 ∷ 10 ∷ trace_a)) (lines_a ++ list_line witness_key (2 ∷ 2 ∷ []))
    -- A's last event too early: 6 at its `held` line
    ∷ prints (ask_two ++ early_a) (refused_line 6 10)
    -- tablet 3 of 2 in the set: 13, line 0, once the trace was read; a faulty trace comes before it, and a faulty ask line first
    ∷ prints (all_key ++ (51 ∷ 10 ∷ trace_b)) (refused_line 13 0)
    ∷ prints (all_key ++ (51 ∷ 10 ∷ (trace_b ++ (10 ∷ [])))) (refused_line 12 15)
    ∷ prints (all_key ++ (10 ∷ trace_b)) (refused_line 12 0)
    -- no trace: its first line is missing
    ∷ prints ask_two (refused_line 12 1)
    -- tablets 9: refused 1 at line 1
    ∷ prints (ask_two ++ key_line tablets_key 9) (refused_line 1 1)
    -- 65,537 bytes: 15 before the faulty ask line that they are, and 65,536 are not too many
    ∷ prints (replicate 65537 10) (refused_line 15 0)
    ∷ prints (replicate 65536 10) (refused_line 12 0)
    -- a store buffer too short: 2, once the ask line was read; an output too short: 14, and it is left as it was
    ∷ same (take 12 (reporting (ask_two ++ trace_b) [] [] [] (replicate 71680 0)).printed.output) (refused_line 2 0)
    ∷ short_left (reporting (ask_two ++ trace_b) [] [] [] (7 ∷ 7 ∷ [])).printed
    -- no input
    ∷ prints [] (refused_line 12 0)
    ∷ []
