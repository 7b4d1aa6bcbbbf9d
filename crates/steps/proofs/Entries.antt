-- Entries read in the lent bytes: whether a tablet can be raised, and the largest of what is known.
use mathlib.Core.Path.{◌≡◌, ap, ap₂}
use mathlib.Core.Bool.{Bool, true, false, ◌&&◌}
use mathlib.Core.List.{List}
use Prim.Native.Nat.{ℕ, ◌+◌, ◌≤◌, ◌<◌}
use borrow.Author.Tests.{lt-ltb, le-ltb, lt-leb}
use lib.Dec.{leb}
use Rattle.model.specs.Lists.{at, all_below}
use Rattle.model.specs.Clocks.{Clocks}
use Rattle.model.specs.Step.{can_raise}
use Rattle.model.proofs.Tests.{all_below_stop}

-- what the next event of the tablet in column k knows of the earlier tablets is in the cut, tested in turn
abbrev pub ready_at : Clocks → List ℕ → ℕ → ℕ → Bool
ready_at clk G k j = leb (at (clk k (at G k + 1)) j) (at G j)

module _ (clk : Clocks) (high G : List ℕ) (k : ℕ) where
  pub raise_no_room : at high k ≤ at G k → can_raise clk high G k ≡ false
  unfolding can_raise
  raise_no_room h = ap (λ (b : Bool). b && all_below k (ready_at clk G k)) (le-ltb (at G k) (at high k) h)

  pub raise_unready : (j : ℕ) → j < k → at G k < at high k → at G j < at (clk k (at G k + 1)) j → can_raise clk high G k ≡ false
  unfolding can_raise
  raise_unready j hj room more =
      ap₂ ◌&&◌ (lt-ltb (at G k) (at high k) room)
      (all_below_stop k j (ready_at clk G k) hj (lt-leb (at (clk k (at G k + 1)) j) (at G j) more))

  pub raise_ready : at G k < at high k → all_below k (ready_at clk G k) ≡ true → can_raise clk high G k ≡ true
  unfolding can_raise
  raise_ready room ready = ap₂ ◌&&◌ (lt-ltb (at G k) (at high k) room) ready
