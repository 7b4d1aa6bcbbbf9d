-- The count of a list of cuts, where it fits 64 bits and where it does not.
use mathlib.Core.Path.{◌≡◌, sym, ap, ◌∙◌}
use mathlib.Core.Bool.{Bool, true, false, cond}
use mathlib.Core.List.{List}
use Prim.Native.Nat.{ℕ, ◌^◌, ◌≤◌, ◌<◌}
use native.Mathlib.Omega.{arith}
use borrow.Author.Tests.{lt-ltb, le-ltb}
use lib.ListN.{length}
use Rattle.walks.specs.Counting.{fits64, CountedTo}

pub counted_all : (cuts : List (List ℕ)) (count : ℕ) → length cuts ≡ count → count < 2 ^ 64 → CountedTo cuts true count
counted_all cuts count same fits =
    let within : fits64 (length cuts) ≡ true = lt-ltb (length cuts) (2 ^ 64) (omega arith) in
    record { fits_is = sym within; count_is = sym (ap (λ (b : Bool). cond b (length cuts) 0) within ∙ same) }

pub counted_over : (cuts : List (List ℕ)) → 2 ^ 64 ≤ length cuts → CountedTo cuts false 0
counted_over cuts over =
    let beyond : fits64 (length cuts) ≡ false = le-ltb (length cuts) (2 ^ 64) over in
    record { fits_is = sym beyond; count_is = sym (ap (λ (b : Bool). cond b (length cuts) 0) beyond) }
