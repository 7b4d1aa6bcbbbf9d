-- Rule 46, the question in the first line of the program's input.
use Rattle.std.specs.Prelude.{ℕ, List, [], ◌∷◌, Option, Some, None, option_map}
use Rattle.model.specs.declared.Question.{Question}
use Rattle.model.specs.declared.Question.TheVariants.{AtLeast, Exactly, All}
use Rattle.lines.specs.Numbers.{number}
use Rattle.lines.specs.Find.{first_line, value_behind}
use Rattle.askline.specs.Sets.{named_set}

-- "ask=atleast,", "ask=exactly,", "ask=all,"
abbrev pub at_least_key : List ℕ
at_least_key = 97 ∷ 115 ∷ 107 ∷ 61 ∷ 97 ∷ 116 ∷ 108 ∷ 101 ∷ 97 ∷ 115 ∷ 116 ∷ 44 ∷ []

abbrev pub exactly_key : List ℕ
exactly_key = 97 ∷ 115 ∷ 107 ∷ 61 ∷ 101 ∷ 120 ∷ 97 ∷ 99 ∷ 116 ∷ 108 ∷ 121 ∷ 44 ∷ []

abbrev pub all_key : List ℕ
all_key = 97 ∷ 115 ∷ 107 ∷ 61 ∷ 97 ∷ 108 ∷ 108 ∷ 44 ∷ []

-- rules 34 and 39: K, in 32 bits
abbrev pub amount : List ℕ → List ℕ → Option ℕ
amount key line = number 4294967295 (value_behind key line)

-- a number asks its question; where there is none, another form is tried
abbrev pub or_ask : Option ℕ → (ℕ → Question) → Option Question → Option Question
or_ask (Some k) question other = Some (question k)
or_ask None question other = other

-- rule 46: a set asks that all its tablets hold a block; a list that names no set asks nothing, as a faulty line
abbrev pub ask_set : Option ℕ → Option Question
ask_set set = option_map All set

-- Rule 46, the three forms. No line has two of the keys, and behind a key that a line lacks stands nothing, which is neither a number
-- nor a list.
unfoldable pub all_form : List ℕ → Option Question
all_form line = ask_set (named_set (value_behind all_key line))

unfoldable pub exactly_form : List ℕ → Option Question
exactly_form line = or_ask (amount exactly_key line) Exactly (all_form line)

unfoldable pub ask_of : List ℕ → Option Question
ask_of line = or_ask (amount at_least_key line) AtLeast (exactly_form line)

-- rule 46: the first line of the input; without an LF it is an empty one, and so faulty
unfoldable pub ask_line : List ℕ → Option Question
ask_line input = ask_of (first_line input)
