-- Rules 48 and 49, the lines that are printed.
use Rattle.std.specs.Prelude.{ℕ, zero, suc, ◌+◌, Bool, cond, List, [], ◌∷◌, ◌++◌, take}
use Rattle.pieces.specs.Lines.{key_line, list_line, pair_line}
use Rattle.loglines.specs.Keys.{tablets_key, events_key}

-- "refused=", "interval=", "cuts=", "witness=", and the line "witness=none"
abbrev pub refused_key : List ℕ
refused_key = 114 ∷ 101 ∷ 102 ∷ 117 ∷ 115 ∷ 101 ∷ 100 ∷ 61 ∷ []

abbrev pub interval_key : List ℕ
interval_key = 105 ∷ 110 ∷ 116 ∷ 101 ∷ 114 ∷ 118 ∷ 97 ∷ 108 ∷ 61 ∷ []

abbrev pub cuts_key : List ℕ
cuts_key = 99 ∷ 117 ∷ 116 ∷ 115 ∷ 61 ∷ []

abbrev pub witness_key : List ℕ
witness_key = 119 ∷ 105 ∷ 116 ∷ 110 ∷ 101 ∷ 115 ∷ 115 ∷ 61 ∷ []

abbrev pub no_witness : List ℕ
no_witness = 119 ∷ 105 ∷ 116 ∷ 110 ∷ 101 ∷ 115 ∷ 115 ∷ 61 ∷ 110 ∷ 111 ∷ 110 ∷ 101 ∷ 10 ∷ []

-- rule 49: the line of a refusal
abbrev pub refused_line : ℕ → ℕ → List ℕ
refused_line number line = pair_line refused_key number line

-- rule 48: the `interval` lines of the positions below one
abbrev pub interval_lines : (ℕ → ℕ) → ℕ → List ℕ
interval_lines count zero = []
interval_lines count (suc p) = interval_lines count p ++ pair_line interval_key p (count p)

-- rule 48: the witness, or that there is none
unfoldable pub witness_line : ℕ → Bool → List ℕ → List ℕ
witness_line n found cut = cond found (list_line witness_key (take n cut)) no_witness

-- rule 48: the first two lines
unfoldable pub head_lines : ℕ → ℕ → List ℕ
head_lines n events = key_line tablets_key n ++ key_line events_key events

-- rule 48: the last two
unfoldable pub tail_lines : ℕ → ℕ → Bool → List ℕ → List ℕ
tail_lines n sum found cut = key_line cuts_key sum ++ witness_line n found cut

-- rule 48: the whole output, for a number of tablets and of events, the count of each position, their sum, and a witness or none
unfoldable pub answer_lines : ℕ → ℕ → (ℕ → ℕ) → ℕ → Bool → List ℕ → List ℕ
answer_lines n events count sum found cut =
    head_lines n events ++ (interval_lines count (events + 1) ++ tail_lines n sum found cut)
