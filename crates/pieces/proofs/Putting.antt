-- A list that is put entry after entry.
use Rattle.std.proofs.Common.{ℕ, ◌+◌, ◌≤◌, ◌<◌, List, length, get_or, drop, ap, arith, length-append}
use Rattle.std.proofs.lemmas.List.{drop_more}
use Rattle.lines.specs.Numbers.{decimal}
use Rattle.lines.specs.Lists.{more_entries}

-- an entry that is left, and its comma, are no longer than all entries that are left
pub next_entry : (values : List ℕ) (j : ℕ) → j < length values → 1 + length (decimal (get_or values j 0)) ≤ length (more_entries (drop j values))
next_entry values j more =
    let split = ap (λ l. length (more_entries l)) (drop_more values j 0 more) in
    omega (arith, split, length-append (decimal (get_or values j 0)) (more_entries (drop (j + 1) values)))
