-- The rule that draws numbers in the programs that try the library. It states no rule of the library.
use Rattle.std.specs.Prelude.{ℕ, ◌*◌, ◌/◌, ◌%◌, ◌==◌, if◌then◌else◌}

-- the state that follows one, by linear congruence mod 2^31 - 1
abbrev pub next_state : ℕ → ℕ → ℕ
next_state factor state = state % 2147483647 * factor % 2147483647

-- the number below a bound that a state gives; its lowest bits are left out. Below 0 there is none, and it is 0
abbrev pub drawn : ℕ → ℕ → ℕ
drawn bound state = if bound == 0 then 0 else state / 16 % bound
