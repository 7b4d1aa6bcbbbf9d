-- Counters of the programs that try the library. They state no rule of the library.
use Rattle.std.specs.Prelude.{ℕ, ◌+◌, List, min, slice_index_or, slice_set}

-- one more at an index, up to the most that a counter holds; past the end nothing changes
abbrev pub counted : List ℕ → ℕ → List ℕ
counted counts index = slice_set counts index (min (slice_index_or counts index 0 + 1) 18446744073709551615)
