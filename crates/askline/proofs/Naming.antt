-- Laws of commas and of the tablets that a list names.
use mathlib.Core.Path.{◌≡◌, refl, ap}
use mathlib.Core.Bool.{cond, and-false}
use mathlib.Core.List.{List}
use Prim.Native.Nat.{ℕ, zero, suc, ◌+◌, ◌-◌, ◌*◌, ◌%◌, ◌^◌, ◌≤◌, ◌<◌}
use native.Mathlib.Numerals.{add-one}
use native.Mathlib.Omega.{arith}
use lib.Dec.{eqb, eqb→eq}
use borrow.Author.Tests.{lt-ltb, le-ltb, le-leb, lt-leb}
use lib.ListN.{length, get_or, drop}
use lib.Seq.{drop-cons}
use Rattle.std.specs.Prelude.{None, count_by}
use Rattle.std.proofs.lemmas.List.Recursion.{is_count_by}
use Rattle.model.proofs.Tests.{all_below_at}
use Rattle.lines.proofs.Entries.{listed_many}
use Rattle.askline.specs.Sets.{bit, commas, naming, named_set}

-- commas as the library counts them
pub commas_is : (text : List ℕ) → commas text ≡ count_by (λ b. eqb b 44) text
commas_is =
    is_count_by commas (λ b. eqb b 44) refl (λ b bs. ap (λ (n : ℕ). cond (eqb b 44) n (commas bs)) (omega arith))

-- the bits, as the code shifts to them
pub bit_is : (i : ℕ) → i < 8 → 1 * 2 ^ i % 256 ≡ bit i
bit_is i h = eqb→eq _ _ (all_below_at 8 (λ j. eqb (1 * 2 ^ j % 256) (bit j)) tt i h)

-- a later tablet's bit is not below an earlier one's
bit_later : (i j : ℕ) → i ≤ j → bit i ≤ bit j
bit_later zero zero h = omega arith
bit_later zero (suc j) h = omega (arith, bit_later zero j (omega arith))
bit_later (suc i) zero h = let no : ⊥ = omega arith in absurd no
bit_later (suc i) (suc j) h = omega (arith, bit_later i j (omega arith))

-- the mask of tablets up to the last is below the next bit, also with one tablet more, and so below 256
pub mask_below : (mask last tablet : ℕ) → mask < bit last → last < tablet → mask + bit (tablet - 1) < bit tablet
mask_below mask last zero m h = let no : ⊥ = omega arith in absurd no
mask_below mask last (suc t) m h =
    let e : suc t - 1 ≡ t = omega arith in
    rw e (omega (arith, bit_later last t (omega arith), m))

pub bit_most : (tablet : ℕ) → tablet ≤ 8 → bit tablet ≤ 256
bit_most tablet h = bit_later tablet 8 h

-- the tablet at an index, behind the last and the mask of those before it
module _ (entries : List ℕ) (i : ℕ) (h : i < length entries) (last mask : ℕ) where
  pub names_next : last < get_or entries i 0 → get_or entries i 0 ≤ 8 → naming last mask (drop i entries) ≡ naming (get_or entries i 0) (mask + bit (get_or entries i 0 - 1)) (drop (i + 1) entries)
  names_next above most =
      rw (add-one i, drop-cons entries i 0 h) (simp (lt-ltb _ _ above, le-leb _ _ most))

  pub not_rising : get_or entries i 0 ≤ last → naming last mask (drop i entries) ≡ None
  not_rising low = rw (drop-cons entries i 0 h) (simp (le-ltb _ _ low))

  pub no_tablet : 8 < get_or entries i 0 → naming last mask (drop i entries) ≡ None
  no_tablet high =
      rw (drop-cons entries i 0 h) (simp (lt-leb _ _ high, and-false))

pub ruleset names = (mask_below, bit_most, names_next, not_rising, no_tablet)

-- the set by the number of commas: too many entries, no list, and a list
module _ (text : List ℕ) where
  pub set_of_many : 7 < commas text → named_set text ≡ None
  unfolding named_set
  set_of_many h =
      let many : 8 < suc (commas text) = omega arith in rw (listed_many (suc (commas text)) text many) refl
