-- How long a number, a list and a line get: what a caller shows so that they fit a piece.
use mathlib.Core.Path.{◌≡◌, ap}
use mathlib.Core.Logic.{by_cases}
use mathlib.Core.List.{List, [], ◌∷◌, ◌++◌}
use Prim.Native.Nat.{ℕ, zero, suc, ◌+◌, ◌*◌, ◌/◌, ◌^◌, ◌≤◌, ◌<◌}
use native.Mathlib.Omega.{arith}
use native.Mathlib.Decide.{dec_lt}
use native.Mathlib.Nat.{pow-succ'}
use lib.ListN.{length, get_or, take, length-append}
use Rattle.lines.specs.Numbers.{decimal}
use Rattle.lines.specs.Lists.{comma_list, more_entries}
use Rattle.lines.proofs.Decimals.{decimal_digit, tens_length}
use Rattle.lines.proofs.Entries.{Small, none_left, and_small}
use Rattle.pieces.specs.Lines.{key_line, list_line, pair_line}

-- a number below 10 to the k has at most k digits

pub decimal_length : (k n : ℕ) → n < 10 ^ suc k → length (decimal n) ≤ suc k
decimal_length zero n h = omega (arith, ap length (decimal_digit n h))
decimal_length (suc k) n h =
    let power : 10 ^ suc (suc k) ≡ 10 * 10 ^ suc k = pow-succ' 10 (suc k) in
    by_cases (dec_lt n 10) (λ low. omega (arith, ap length (decimal_digit n low)))
    (λ high. omega (arith, tens_length n (omega arith), decimal_length k (n / 10) (omega (arith, power))))

pub byte_digits : (n : ℕ) → n ≤ 255 → length (decimal n) ≤ 3
byte_digits n h = decimal_length 2 n (omega arith)

pub half_digits : (n : ℕ) → n ≤ 65535 → length (decimal n) ≤ 5
half_digits n h = decimal_length 4 n (omega arith)

pub wide_digits : (n : ℕ) → n < 2 ^ 64 → length (decimal n) ≤ 20
wide_digits n h = decimal_length 19 n (omega arith)

-- a list of bytes: each has at most three digits and one byte behind it, a comma or the LF

pub small_take : (n : ℕ) (l : List ℕ) → ((i : ℕ) → i < n → get_or l i 0 ≤ 255) → Small (take n l)
small_take zero l h = none_left
small_take (suc n) [] h = none_left
small_take (suc n) (x ∷ xs) h = and_small (h 0 (omega arith)) (small_take n xs (λ i k. h (suc i) (omega arith)))

more_long : (vs : List ℕ) → Small vs → length (more_entries vs) ≤ 4 * length vs
more_long [] none_left = omega arith
more_long (v ∷ vs) (and_small h rest) =
    omega (arith, length-append (decimal v) (more_entries vs), byte_digits v h, more_long vs rest)

pub list_long : (vs : List ℕ) → Small vs → 1 ≤ length vs → length (comma_list vs) + 1 ≤ 4 * length vs
list_long [] none_left some = let no : ⊥ = omega arith in absurd no
list_long (v ∷ vs) (and_small h rest) some =
    omega (arith, length-append (decimal v) (more_entries vs), byte_digits v h, more_long vs rest)

-- the lines, by their parts

pub line_length_lem : (key middle : List ℕ) → length (key ++ (middle ++ (10 ∷ []))) ≡ length key + length middle + 1
line_length_lem key middle = omega (arith, length-append key (middle ++ (10 ∷ [])), length-append middle (10 ∷ []))

pub key_line_length : (key : List ℕ) (n : ℕ) → length (key_line key n) ≡ length key + length (decimal n) + 1
unfolding key_line
key_line_length key n = line_length_lem key (decimal n)

pub list_line_length : (key vs : List ℕ) → length (list_line key vs) ≡ length key + length (comma_list vs) + 1
unfolding list_line
list_line_length key vs = line_length_lem key (comma_list vs)

pub pair_line_length : (key : List ℕ) (a b : ℕ) → length (pair_line key a b) ≡ length key + length (decimal a) + length (decimal b) + 2
unfolding pair_line
pair_line_length key a b =
    omega (arith, length-append key (decimal a ++ (44 ∷ (decimal b ++ (10 ∷ [])))), length-append (decimal a) (44 ∷ (decimal b ++ (10 ∷ []))), length-append (decimal b) (10 ∷ []))
