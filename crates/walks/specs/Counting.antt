-- Rule 32, the number of cuts of a range.
use Rattle.std.specs.Prelude.{◌≡◌, ℕ, ◌^◌, Bool, cond, List, ltb, length}

-- rule 52, 11
abbrev pub fits64 : ℕ → Bool
fits64 count = ltb count (2 ^ 64)

-- the count of a list of cuts, where it fits; 0 where it does not
pub record CountedTo (cuts : List (List ℕ)) (fits : Bool) (count : ℕ) : Type 0 where
  pub fits_is : fits ≡ fits64 (length cuts)
  pub count_is : count ≡ cond (fits64 (length cuts)) (length cuts) 0
