-- Filling a raised cut from the front: kept up to column k, the least that is needed behind it, zero above n.
use mathlib.Core.Path.{◌≡◌, refl, sym, ap, ap₂, ◌∙◌}
use mathlib.Core.Logic.{◌≢◌, by_cases}
use mathlib.Core.List.{List}
use Prim.Native.Nat.{ℕ, suc, ◌+◌, ◌-◌, ◌≤◌, ◌<◌, max}
use native.Mathlib.Omega.{arith}
use native.Mathlib.Numerals.{add-one}
use native.Mathlib.Decide.{ℕ_discrete, dec_le, dec_lt}
use lib.ListN.{length, set, length-set}
use lib.Seq.{get_or-set_same, get_or-set_other}
use Rattle.model.specs.Lists.{at, max_below}
use Rattle.model.specs.Clocks.{Clocks, clock_at, known}
use Rattle.model.specs.Step.{up_to, least, raised}
use native.Mathlib.Nat.{add-sub_cancel}
use Rattle.model.proofs.Entries.{same_entries}
use Rattle.model.proofs.Largest.{max_below_same}
use Rattle.model.proofs.Raised.{up_own, up_other, raised_upto, raised_behind, raised_long}
use Rattle.model.proofs.Step.{can_raise_lem, next_inside}
use Rattle.steps.specs.Walk.{Span, Raisable}

-- the least that is needed in column i, by the counts up to column k of a list
abbrev needed : Clocks → List ℕ → List ℕ → ℕ → ℕ → ℕ
needed clk low counts k i = max (at low i) (max_below (k + 1) (λ m. at (known clk m (at counts m)) i))

-- the same told by numbers: of the tablet j + 1, by the tablets up to number i
pub needed_told : (clk : Clocks) (low counts : List ℕ) (i j entry : ℕ) → 1 ≤ i → entry ≡ max (at low j) (max_below i (λ m. at (known clk m (at counts m)) (j + 1 - 1))) → entry ≡ needed clk low counts (i - 1) j
needed_told clk low counts i j entry some told =
    let upto : i ≡ i - 1 + 1 = omega arith in
    told ∙ ap₂ (λ (l x : ℕ). max (at low j) (max_below l (λ m. at (known clk m (at counts m)) x))) upto (add-sub_cancel j 1)

-- the list after the columns before j are filled
pub record Filled (clk : Clocks) (low first : List ℕ) (k n : ℕ) (next : List ℕ) (j : ℕ) : Type 0 where
  pub behind : k < j
  pub within : j ≤ n
  pub long : length next ≡ 8
  pub kept : (i : ℕ) → i ≤ k → at next i ≡ at first i
  pub done : (i : ℕ) → k < i → i < j → at next i ≡ needed clk low first k i
  pub rest : (i : ℕ) → j ≤ i → at next i ≡ at first i

pub filled_more : (clk : Clocks) (low first : List ℕ) (k n : ℕ) (next : List ℕ) (j entry : ℕ) → Filled clk low first k n next j → j < n → n ≤ 8 → entry ≡ needed clk low next k j → Filled clk low first k n (set next j entry) (j + 1)
filled_more clk low first k n next j entry f less narrow told =
    record {
      behind = omega (arith, f.behind);
      within = omega arith;
      long = length-set next j entry ∙ f.long;
      kept = λ i h. get_or-set_other next j i entry 0 (omega (arith, f.behind)) ∙ f.kept i h;
      done = λ i low-i high-i. by_cases (ℕ_discrete i j)
          (λ e. rw e (get_or-set_same next j entry 0 (omega (arith, f.long)) ∙ told ∙ same))
          (λ other. get_or-set_other next j i entry 0 other ∙ f.done i low-i (omega arith));
      rest = λ i h. get_or-set_other next j i entry 0 (omega arith) ∙ f.rest i (omega arith);
    }
  where
    same : needed clk low next k j ≡ needed clk low first k j
    same =
        ap (max (at low j))
        (max_below_same (k + 1) (λ m. at (known clk m (at next m)) j) (λ m. at (known clk m (at first m)) j)
        (λ m h. ap (λ (c : ℕ). at (known clk m c) j) (f.kept m (omega arith))))

module _ {n : ℕ} {clocks low high G : List ℕ} {k : ℕ} (span : Span n clocks low high) (lift : Raisable n clocks low high G k) where
  abbrev clk : Clocks
  clk = clock_at clocks

  abbrev first : List ℕ
  first = set G k (at G k + 1)

  pub column_fits : k < 8
  column_fits = omega (arith, lift.column, span.tablets)

  pub next_fits : at G k + 1 ≤ 254
  next_fits = omega (arith, (can_raise_lem clk high G k lift.can).room, span.stored k column_fits)

  first_own : at first k ≡ at G k + 1
  first_own = get_or-set_same G k (at G k + 1) 0 (omega (arith, lift.inside.long, column_fits))

  first_other : (i : ℕ) → i ≢ k → at first i ≡ at G i
  first_other i other = get_or-set_other G k i (at G k + 1) 0 other

  first_upto : (i : ℕ) → at first i ≡ up_to G k i
  first_upto i =
      by_cases (ℕ_discrete i k) (λ e. rw e (first_own ∙ sym (up_own clk low G k)))
      (λ other. first_other i other ∙ sym (up_other clk low G k i other))

  pub first_stored : (i : ℕ) → i ≤ k → at first i ≤ 254
  first_stored i h =
      by_cases (ℕ_discrete i k) (λ e. rw e (omega (arith, first_own, next_fits)))
      (λ other. omega (arith, first_other i other, lift.inside.cut.most i (omega (arith, column_fits)), span.stored i (omega (arith, column_fits))))

  -- the next column, by whatever number the code has for it
  pub filled_start : (j : ℕ) → j ≡ k + 1 → Filled clk low first k n first j
  filled_start j next =
      record {
        behind = omega arith;
        within = omega (arith, lift.column);
        long = length-set G k (at G k + 1) ∙ lift.inside.long;
        kept = λ i h. refl;
        done = λ i a b. let z : ⊥ = omega arith in absurd z;
        rest = λ i h. refl;
      }

  needed_least : (i : ℕ) → needed clk low first k i ≡ least clk low G k i
  unfolding least
  needed_least i =
      ap (max (at low i))
      (ap (λ (m : ℕ). max_below m (λ m. at (known clk m (at first m)) i)) (add-one k)
      ∙ max_below_same (suc k) (λ m. at (known clk m (at first m)) i) (λ m. at (known clk m (up_to G k m)) i)
      (λ m h. ap (λ (c : ℕ). at (known clk m c) i) (first_upto m)))

  -- above n both are zero, since neither exceeds the upper bound there
  pub filled_end : (next : List ℕ) (j : ℕ) → Filled clk low first k n next j → n ≤ j → next ≡ raised clk low G k
  filled_end next j f end =
      same_entries next (raised clk low G k) f.long (raised_long clk low G k)
      (λ i h. by_cases (dec_le i k)
      (λ near. f.kept i near ∙ first_upto i ∙ sym (raised_upto clk low G k i h near))
      (λ far. by_cases (dec_lt i n)
      (λ listed. f.done i (omega arith) (omega arith) ∙ needed_least i ∙ sym (raised_behind clk low G k i h (omega arith)))
      (λ above. let zero_high = span.above i h (omega arith) in
      let inside = next_inside clk low high span.bounds G lift.inside k column_fits (can_raise_lem clk high G k lift.can) in
      omega (arith, f.rest i (omega (arith, f.within)), first_other i (omega arith), lift.inside.cut.most i h, inside.cut.most i h))))
