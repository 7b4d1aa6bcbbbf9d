-- Rules 39 and 40, lists of numbers parted by commas.
use Rattle.std.specs.Prelude.{ℕ, zero, suc, cond, List, [], ◌∷◌, ◌++◌, Option, Some, None, option_map, leb}
use Rattle.model.specs.Lists.{at, eight}
use Rattle.lines.specs.Numbers.{decimal, number}
use Rattle.lines.specs.Find.{found, before, behind}

-- a list as it is written
abbrev pub more_entries : List ℕ → List ℕ
more_entries [] = []
more_entries (v ∷ vs) = 44 ∷ (decimal v ++ more_entries vs)

abbrev pub comma_list : List ℕ → List ℕ
comma_list [] = []
comma_list (v ∷ vs) = decimal v ++ more_entries vs

-- one entry before others; a fault anywhere spoils the list
abbrev pub with_entry : Option ℕ → Option (List ℕ) → Option (List ℕ)
with_entry None rest = None
with_entry (Some v) None = None
with_entry (Some v) (Some vs) = Some (v ∷ vs)

-- rules 39 and 40: exactly so many numbers up to 255, parted by commas (byte 44); no list is empty
abbrev pub entries : ℕ → List ℕ → Option (List ℕ)
entries zero text = None
entries (suc zero) text = with_entry (number 255 text) (Some [])
entries (suc (suc more)) text =
    cond (found 44 text) (with_entry (number 255 (before 44 text)) (entries (suc more) (behind 44 text))) None

-- the same as the code answers it: eight values, 0 behind the listed ones
abbrev pub listed_by : Option (List ℕ) → Option (List ℕ)
listed_by o = option_map (λ vs. eight (at vs)) o

-- lists of one to eight entries
unfoldable pub listed : ℕ → List ℕ → Option (List ℕ)
listed count text = cond (leb count 8) (listed_by (entries count text)) None
