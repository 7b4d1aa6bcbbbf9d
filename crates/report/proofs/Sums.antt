-- Laws of counts and of their sum.
use mathlib.Core.Path.{◌≡◌, refl, sym, ap, subst, ◌∙◌}
use mathlib.Core.Bool.{Bool, true, false, cond}
use mathlib.Core.List.{List}
use Prim.Native.Nat.{ℕ, zero, suc, ◌+◌, ◌-◌, ◌^◌, ◌≤◌, ◌<◌}
use native.Mathlib.Numerals.{add-one}
use native.Mathlib.Omega.{arith}
use borrow.Author.Tests.{ltb-true, ltb-false, lt-ltb, le-ltb}
use lib.Dec.{ltb}
use lib.ListN.{length, set}
use lib.Seq.{get_or-set_same, get_or-set_other}
use Rattle.std.specs.Prelude.{Option, Some, None, Result, Ok, Err, is_some, unwrap_or}
use Rattle.std.specs.Result.{result_ok}
use Rattle.model.specs.declared.Refusal.{Refusal}
use Rattle.model.specs.Lists.{at, sum_below}
use Rattle.model.specs.Store.{Store}
use Rattle.model.specs.Cuts.{total}
use Rattle.model.proofs.Refusals.{number_positive}
use Rattle.walks.specs.Counting.{fits64}
use Rattle.cuts.specs.Outcomes.{CountOutcome, counted, count_in}
use Rattle.report.specs.Answers.{count_of}
use Rattle.report.specs.Report.{CountedAll}

-- a sum of more is no smaller
sum_grows : (f : ℕ → ℕ) (more p q : ℕ) → more + p ≡ q → sum_below p f ≤ sum_below q f
sum_grows f zero p q e = let same : p ≡ q = omega arith in subst (λ (k : ℕ). sum_below p f ≤ sum_below k f) same (omega arith)
sum_grows f (suc more) p zero e = let no : ⊥ = omega arith in absurd no
sum_grows f (suc more) p (suc q) e = omega (arith, sum_grows f more p q (omega arith))

-- one count more is stored
each_more : (counts : List ℕ) (p value : ℕ) (f : ℕ → ℕ) → p < length counts → ((q : ℕ) → q < p → at counts q ≡ f q) → value ≡ f p → (q : ℕ) → q < p + 1 → at (set counts p value) q ≡ f q
each_more counts p value f inside below is q h = by_test (ltb q p) refl
  where
    by_test : (b : Bool) → ltb q p ≡ b → at (set counts p value) q ≡ f q
    by_test true e =
        let less : q < p = ltb-true q p e in
        get_or-set_other counts p q value 0 (λ same. let no : ⊥ = omega (arith, less, same) in no) ∙ below q less
    by_test false e =
        let same : p ≡ q = omega (arith, ltb-false q p e) in
        subst (λ (k : ℕ). at (set counts p value) k ≡ f k) same (get_or-set_same counts p value 0 inside ∙ is)

-- the intervals below p counted: their sum, and each count
pub record CountedBelow (s : Store) (p sum : ℕ) (counts : List ℕ) : Type 0 where
  pub sum_is : sum ≡ sum_below p (count_of s)
  pub each : (q : ℕ) → q < p → at counts q ≡ count_of s q

pub none_below : (s : Store) (counts : List ℕ) → CountedBelow s 0 0 counts
none_below s counts = record { sum_is = refl; each = λ q h. let no : ⊥ = omega arith in absurd no }

-- the count of an interval, by whether it fits
abbrev pick : Bool → ℕ → CountOutcome
pick b x = cond b (record { refusal = 0; count = x }) (record { refusal = 11; count = 0 })

-- the call that counts one interval more, and what is known of those below it
module _ (s : Store) (p : ℕ) (inside : p ≤ s.events) (r : Result ℕ Refusal) (is : counted r ≡ count_in s p) where
  picked : counted r ≡ pick (fits64 (count_of s p)) (count_of s p)
  picked = is ∙ simp (le-ltb s.events p inside)

  -- a sum that does not fit at p spoils the whole
  sum_over : 2 ^ 64 ≤ sum_below (p + 1) (count_of s) → fits64 (total s) ≡ false
  unfolding total
  sum_over big = le-ltb (sum_below (suc s.events) (count_of s)) (2 ^ 64) (omega (arith, big, sum_grows (count_of s) (s.events - p) (p + 1) (suc s.events) (omega arith)))

  -- and so does a count that was refused
  pub count_over : None ≡ result_ok r → fits64 (total s) ≡ false
  count_over none =
      let big : 2 ^ 64 ≤ count_of s p = ltb-false _ _ (by_fit r (fits64 (count_of s p)) none picked) in
      sum_over (rw (add-one p) (omega (arith, big)))
    where
      by_fit : (r : Result ℕ Refusal) (b : Bool) → None ≡ result_ok r → counted r ≡ pick b (count_of s p) → b ≡ false
      by_fit (Ok x) b none e = cc
      by_fit (Err why) true none e = let no : ⊥ = omega (arith, number_positive why, ap (λ (o : CountOutcome). o.refusal) e) in absurd no
      by_fit (Err why) false none e = refl

  -- a count that was given, and the sum with it
  module _ (given sum : ℕ) (counts : List ℕ) (some : Some given ≡ result_ok r) (below : CountedBelow s p sum counts) where
    count_is : given ≡ count_of s p
    count_is = by_fit r (fits64 (count_of s p)) some picked
      where
        by_fit : (r : Result ℕ Refusal) (b : Bool) → Some given ≡ result_ok r → counted r ≡ pick b (count_of s p) → given ≡ count_of s p
        by_fit (Err why) b some e = cc
        by_fit (Ok x) true some e = let same : x ≡ count_of s p = ap (λ (o : CountOutcome). o.count) e in cc
        by_fit (Ok x) false some e = let no : ⊥ = omega (arith, ap (λ (o : CountOutcome). o.refusal) e) in absurd no

    sum_more : sum + given ≡ sum_below (p + 1) (count_of s)
    sum_more = rw (add-one p) (omega (arith, below.sum_is, count_is))

    pub given_over : 2 ^ 64 ≤ sum + given → fits64 (total s) ≡ false
    given_over big = sum_over (omega (arith, big, sum_more))

    pub counted_more : (next : ℕ) → next ≡ sum + given → p < length counts → CountedBelow s (p + 1) next (set counts p given)
    counted_more next next_is room =
        record { sum_is = next_is ∙ sum_more; each = each_more counts p given (count_of s) room below.each count_is }

-- where the sum does not fit, nothing is said of the counts
pub none_counted : (s : Store) (given : Option ℕ) (counts : List ℕ) → given ≡ None → fits64 (total s) ≡ false → CountedAll s (is_some given) (unwrap_or given 0) counts
none_counted s None counts e over =
    record { fits_is = sym over; sum_is = λ some. cc; each = λ some. cc }
none_counted s (Some x) counts e over = cc

-- the sum of all, where it fits
pub all_counted : (s : Store) (p sum : ℕ) (counts : List ℕ) → p ≡ s.events + 1 → sum < 2 ^ 64 → CountedBelow s p sum counts → CountedAll s true sum counts
unfolding total
all_counted s p sum counts all small below =
    let last : p ≡ suc s.events = omega arith in
    let whole : sum ≡ total s = below.sum_is ∙ ap (λ (k : ℕ). sum_below k (count_of s)) last in
    record {
      fits_is = sym (lt-ltb _ _ (subst (λ (k : ℕ). k < 2 ^ 64) whole small));
      sum_is = λ fits. whole;
      each = λ fits q h. below.each q (omega arith);
    }
