-- Rule 37, lines and their keys.
use Rattle.std.specs.Prelude.{ℕ, suc, ◌+◌, Bool, true, false, cond, ◌&&◌, List, [], ◌∷◌, ltb, eqb, length, take, drop}

-- the index of the first such byte, or the text's length where there is none
abbrev pub find : ℕ → List ℕ → ℕ
find byte [] = 0
find byte (b ∷ bs) = cond (eqb b byte) 0 (suc (find byte bs))

-- whether there is one
abbrev pub found : ℕ → List ℕ → Bool
found byte text = ltb (find byte text) (length text)

-- what stands before the first such byte, and what behind it
abbrev pub before : ℕ → List ℕ → List ℕ
before byte text = take (find byte text) text

abbrev pub behind : ℕ → List ℕ → List ℕ
behind byte text = drop (find byte text + 1) text

-- rules 37 and 42: the first line, without its LF (byte 10). Bytes without an LF are no line: they are read as an empty one, which no key fits.
unfoldable pub line_length : List ℕ → ℕ
line_length text = cond (found 10 text) (find 10 text) 0

abbrev pub first_line : List ℕ → List ℕ
first_line text = take (line_length text) text

-- what follows the first line
abbrev pub rest_lines : List ℕ → List ℕ
rest_lines text = drop (line_length text + 1) text

abbrev pub starts_with : List ℕ → List ℕ → Bool
starts_with [] line = true
starts_with (k ∷ ks) [] = false
starts_with (k ∷ ks) (b ∷ bs) = eqb b k && starts_with ks bs

-- rule 37: the part of a line behind its key. A line without the key has the empty part, which is neither a number nor a list.
unfoldable pub value_behind : List ℕ → List ℕ → List ℕ
value_behind key line = cond (starts_with key line) (drop (length key) line) []
