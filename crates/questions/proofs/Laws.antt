-- Holdings read in the lent numbers, and a mask read bit by bit.
use mathlib.Core.Path.{◌≡◌, sym, ap, ap₂, ◌∙◌}
use mathlib.Core.Logic.{◌≢◌}
use mathlib.Core.Bool.{Bool, true, cond, ◌&&◌}
use mathlib.Core.List.{List}
use Prim.Native.Nat.{ℕ, zero, suc, ◌+◌, ◌/◌, ◌^◌, ◌≤◌, ◌<◌}
use native.Mathlib.Omega.{arith}
use borrow.Author.Tests.{eq-eqb, ne_eqb, le-leb, lt-leb}
use lib.Dec.{leb, ltb, eqb}
use lib.ListN.{get_or}
use Rattle.model.specs.Lists.{at, all_below}
use Rattle.model.specs.Numbers.{slot}
use Rattle.model.specs.Store.{Store}
use Rattle.std.specs.Int.Bits.{bit_and}
use Rattle.std.proofs.Math.Nat.{div-one}
use Rattle.std.proofs.lemmas.Nat.{and_mask, shr-shr}
use Rattle.model.specs.Questions.{holding, names, set_fits}

-- a tablet's holding
pub holds_nothing : (s : Store) (G : List ℕ) (j : ℕ) → at G j ≡ 0 → 0 ≡ holding s G j
unfolding holding
holds_nothing s G j none = sym (ap (λ (b : Bool). cond b 0 (get_or s.held (slot j (at G j)) 0)) (eq-eqb (at G j) 0 none))

pub holds_stored : (s : Store) (held G : List ℕ) (j home : ℕ) → s.held ≡ held → 1 ≤ at G j → home ≡ slot j (at G j) → get_or held home 0 ≡ holding s G j
unfolding holding
holds_stored s held G j home same some there =
    let differ : at G j ≢ 0 = omega arith in
    ap₂ (λ (l : List ℕ) (h : ℕ). get_or l h 0) (sym same) there
    ∙ sym (ap (λ (b : Bool). cond b 0 (get_or s.held (slot j (at G j)) 0)) (ne_eqb (at G j) 0 differ))

-- the bit that the code looks at
pub bit_named : (mask j : ℕ) → eqb (bit_and (mask / 2 ^ j) 1) 1 ≡ names mask j
bit_named mask zero = ap (λ (m : ℕ). eqb m 1) (ap (λ (m : ℕ). bit_and m 1) (div-one mask) ∙ and_mask mask 1)
bit_named mask (suc j) =
    let one_more : 1 + j ≡ suc j = omega arith in
    ap (λ (m : ℕ). eqb (bit_and m 1) 1) (sym (shr-shr mask 1 j ∙ ap (λ (k : ℕ). mask / 2 ^ k) one_more)) ∙ bit_named (mask / 2) j

-- the set: not empty, and only tablets up to n
pub set_empty : (n mask : ℕ) → mask < 1 → leb 1 mask ≡ set_fits n mask
unfolding set_fits
set_empty n mask none = simp (lt-leb 1 mask none)

pub set_by_bits : (n mask : ℕ) → 1 ≤ mask → set_fits n mask ≡ all_below 8 (λ j. cond (names mask j) (ltb j n) true)
unfolding set_fits
set_by_bits n mask some = ap (λ (b : Bool). b && all_below 8 (λ j. cond (names mask j) (ltb j n) true)) (le-leb 1 mask some)
