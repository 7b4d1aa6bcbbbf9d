-- Rule 39, numbers in decimal digits.
use Rattle.std.specs.Prelude.{ℕ, zero, suc, ◌+◌, ◌-◌, ◌*◌, ◌/◌, ◌%◌, Bool, true, false, cond, not, ◌&&◌, List, [], ◌∷◌, ◌++◌, Option, Some, None, leb, ltb, eqb, length, get_or}

-- a number as it is written: its tenth's digits, if it has ten or more, and its last digit. No number has more digits than
-- its own value and one, so `decimal` counts the steps down from the number itself.
abbrev pub decimal_from : ℕ → ℕ → List ℕ
decimal_from zero n = (48 + n) ∷ []
decimal_from (suc steps) n =
    cond (ltb n 10) ((48 + n) ∷ []) (decimal_from steps (n / 10) ++ ((48 + n % 10) ∷ []))

unfoldable pub decimal : ℕ → List ℕ
decimal n = decimal_from n n

-- rule 39: some bytes, and more than one only without a `0` in front
unfoldable pub plain : List ℕ → Bool
plain text =
    cond (eqb (length text) 0) false (cond (eqb (length text) 1) true (not (eqb (get_or text 0 0) 48)))

-- the bytes `0` to `9`
abbrev pub is_digit : ℕ → Bool
is_digit b = leb 48 b && leb b 57

abbrev pub all_digits : List ℕ → Bool
all_digits [] = true
all_digits (b ∷ bs) = is_digit b && all_digits bs

-- what digits say behind others that say `sum`
abbrev pub value_from : ℕ → List ℕ → ℕ
value_from sum [] = sum
value_from sum (b ∷ bs) = value_from (10 * sum + (b - 48)) bs

-- rule 40: a value up to a limit
abbrev pub up_to : ℕ → ℕ → Option ℕ
up_to limit v = cond (leb v limit) (Some v) None

unfoldable pub digits_from : ℕ → ℕ → List ℕ → Option ℕ
digits_from limit sum text = cond (all_digits text) (up_to limit (value_from sum text)) None

-- the number that a text is, where it is one
unfoldable pub number : ℕ → List ℕ → Option ℕ
number limit text = cond (plain text) (digits_from limit 0 text) None
