-- Rules 37 and 39, the lines that are written: a key, what stands behind it, and an LF (byte 10).
use Rattle.std.specs.Prelude.{ℕ, List, [], ◌∷◌, ◌++◌}
use Rattle.lines.specs.Numbers.{decimal}
use Rattle.lines.specs.Lists.{comma_list}

-- a number
unfoldable pub key_line : List ℕ → ℕ → List ℕ
key_line key n = key ++ (decimal n ++ (10 ∷ []))

-- numbers, parted by commas (byte 44)
unfoldable pub list_line : List ℕ → List ℕ → List ℕ
list_line key values = key ++ (comma_list values ++ (10 ∷ []))

-- two numbers, parted by a comma
unfoldable pub pair_line : List ℕ → ℕ → ℕ → List ℕ
pair_line key a b = key ++ (decimal a ++ (44 ∷ (decimal b ++ (10 ∷ []))))
