-- Gathering every interval: the joined intervals are the consistent cuts, each once; and the counts of the calls add up.
use mathlib.Core.Path.{◌≡◌, refl, sym, ap, ◌∙◌, subst}
use mathlib.Core.Logic.{◌↔◌, ⊎_elim, by_cases}
use mathlib.Core.Bool.{Bool, true, false, cond, false≢true}
use mathlib.Core.List.Memᴰ
use mathlib.Core.List.{List, [], ◌∷◌, ◌++◌, Memᴰ}
use Prim.Native.Nat.{ℕ, zero, suc, ◌+◌, ◌-◌, ◌≤◌, ◌<◌}
use native.Mathlib.Omega.{arith}
use native.Mathlib.Decide.{ℕ_discrete}
use borrow.Author.Tests.{le-ltb, eq-eqb}
use lib.ListN.{length, length-append}
use Rattle.std.specs.Prelude.{Result, Ok, Err, is_ok}
use Rattle.std.specs.Result.{result_unwrap_or}
use Rattle.model.specs.declared.Refusal.{Refusal}
use Rattle.model.specs.Lists.{sum_below}
use Rattle.model.specs.Store.{Store, clocks_of, tallies_of, store_refusal}
use Rattle.model.specs.Cuts.{interval, all_cuts, total}
use Rattle.model.proofs.Sound.{Sound}
use Rattle.model.proofs.Questions.{interval_rising}
use Rattle.model.proofs.Valid.{length_tallies}
use Rattle.model.proofs.Intervals.{interval_literal}
use Rattle.model.proofs.Partition.{cut_into, counts_add_up, in_one_interval}
use Rattle.std.proofs.lemmas.Bool.{cond-true}
use Rattle.walks.specs.Counting.{fits64}
use Rattle.cuts.specs.Outcomes.{CountOutcome, counted, counting}
use Rattle.cuts.specs.Gathering.{joined, gathered_from, gathering}
use Rattle.cuts.proofs.Members.{interval_long}
use Rattle.demands.specs.Calls.{NoneTwice}
use Rattle.demands.proofs.Rising.{rising_none_twice, append_none_twice}

in_left : {G : List ℕ} (Gs Hs : List (List ℕ)) → Memᴰ G Gs → Memᴰ G (Gs ++ Hs)
in_left [] Hs m = absurd (Memᴰ.not-nil m)
in_left (K ∷ Gs) Hs m = ⊎_elim Memᴰ.head (λ n. Memᴰ.tail (in_left Gs Hs n)) (Memᴰ.cases_cons m)

in_right : {G : List ℕ} (Gs Hs : List (List ℕ)) → Memᴰ G Hs → Memᴰ G (Gs ++ Hs)
in_right [] Hs m = m
in_right (K ∷ Gs) Hs m = Memᴰ.tail (in_right Gs Hs m)

module _ (s : Store) (snd : Sound s) where
  -- a cut of an interval is one of the trace's
  in_all : (p : ℕ) → p ≤ s.events → (G : List ℕ) → Memᴰ G (interval s p) → Memᴰ G (all_cuts s)
  unfolding all_cuts
  in_all p h G m =
      let long = interval_long s p G m in
      cut_into (clocks_of s) (tallies_of s) (length_tallies s.order s.events) G long ((interval_literal s snd p h G long).0 m).0

  in_two : (p q : ℕ) → p ≤ s.events → q ≤ s.events → (G : List ℕ) → Memᴰ G (interval s p) → Memᴰ G (interval s q) → p ≡ q
  in_two p q hp hq G m n =
      let one = in_one_interval s snd G (in_all p hp G m) in
      one.3 p hp m ∙ sym (one.3 q hq n)

  one_more : (k : ℕ) → joined s 0 (suc k) ≡ joined s 0 k ++ interval s k
  one_more k =
      let e : 0 + k ≡ k = omega arith in
      ap (λ (p : ℕ). joined s 0 k ++ interval s p) e

  -- the first k intervals joined have exactly the cuts of these intervals
  joined_from : (k : ℕ) (G : List ℕ) → Memᴰ G (joined s 0 k) → (q : ℕ) × (q < k) × Memᴰ G (interval s q)
  joined_from zero G m = absurd (Memᴰ.not-nil m)
  joined_from (suc k) G m =
      ⊎_elim (λ n. let r = joined_from k G n in (r.0, omega (arith, r.1), r.2))
      (λ n. (k, omega arith, n))
      (Memᴰ.append_cases (joined s 0 k) (subst (Memᴰ G) (one_more k) m))

  joined_into : (k q : ℕ) → q < k → (G : List ℕ) → Memᴰ G (interval s q) → Memᴰ G (joined s 0 k)
  joined_into zero q h G m = let z : ⊥ = omega arith in absurd z
  joined_into (suc k) q h G m =
      subst (Memᴰ G) (sym (one_more k))
      (by_cases (ℕ_discrete q k) (λ e. in_right (joined s 0 k) (interval s k) (subst (λ (j : ℕ). Memᴰ G (interval s j)) e m))
      (λ n. in_left (joined s 0 k) (interval s k) (joined_into k q (omega (arith, n)) G m)))

  pub joined_none_twice : (k : ℕ) → k ≤ suc s.events → NoneTwice (joined s 0 k)
  joined_none_twice zero h = tt
  joined_none_twice (suc k) h =
      subst NoneTwice (sym (one_more k))
      (append_none_twice (joined s 0 k) (interval s k) (joined_none_twice k (omega arith)) (rising_none_twice (interval s k) (interval_rising s k))
      (λ G m n. let r = joined_from k G m in
      let z : ⊥ = omega (arith, r.1, in_two r.0 k (omega (arith, r.1)) (omega arith) G r.2 n) in z))

  pub joined_is_all : (G : List ℕ) → Memᴰ G (joined s 0 (suc s.events)) ↔ Memᴰ G (all_cuts s)
  joined_is_all G = (
    λ m. let r = joined_from (suc s.events) G m in in_all r.0 (omega (arith, r.1)) G r.2,
    λ m. let one = in_one_interval s snd G m in joined_into (suc s.events) one.0 (omega (arith, one.1)) G one.2,
  )

  joined_count : (k : ℕ) → length (joined s 0 k) ≡ sum_below k (λ p. length (interval s p))
  joined_count zero = refl
  joined_count (suc k) = ap length (one_more k) ∙ length-append (joined s 0 k) (interval s k) ∙ omega (arith, joined_count k)

  pub joined_long : length (joined s 0 (suc s.events)) ≡ length (all_cuts s)
  unfolding total
  joined_long = joined_count (suc s.events) ∙ counts_add_up s snd

-- gathering of a sound store, where neither 9 nor 14 applies
pub gathers : (s : Store) → store_refusal s ≡ 0 → (first last : ℕ) → first ≤ last → last ≤ s.events → (out : List ℕ) → 8 ≤ length out → gathering s first last out ≡ gathered_from s first (last - first) out
gathers s none first last rising within out fits =
    cond-true _ _ _ (eq-eqb (store_refusal s) 0 none)
    ∙ simp (le-ltb s.events last within, le-ltb last first rising, le-ltb (length out) 8 fits) refl

-- what the calls of counting give, where none refuses
module _ (s : Store) (none : store_refusal s ≡ 0) where
  abbrev counts : List (List ℕ) → CountOutcome
  counts cuts = cond (fits64 (length cuts)) (record { refusal = 0; count = length cuts }) (record { refusal = 11; count = 0 })

  count_is : (p : ℕ) → p ≤ s.events → (counting s p).refusal ≡ 0 → (counting s p).count ≡ length (interval s p)
  count_is p within passed = ap (λ (o : CountOutcome). o.count) here ∙ by_test (fits64 (length (interval s p))) (sym (ap (λ (o : CountOutcome). o.refusal) here) ∙ passed)
    where
      here : counting s p ≡ counts (interval s p)
      here =
          cond-true _ _ _ (eq-eqb (store_refusal s) 0 none)
          ∙ ap (λ (b : Bool). cond b (record { refusal = 9; count = 0 }) (counts (interval s p))) (le-ltb s.events p within)

      either : Bool → CountOutcome
      either b = cond b (record { refusal = 0; count = length (interval s p) }) (record { refusal = 11; count = 0 })

      by_test : (b : Bool) → (either b).refusal ≡ 0 → (either b).count ≡ length (interval s p)
      by_test true e = refl
      by_test false e = let z : ⊥ = omega (arith, e) in absurd z

  -- of an answer that is Ok, what it gives
  given : (r : Result ℕ Refusal) → is_ok r ≡ true → ((counted r).refusal ≡ 0) × ((counted r).count ≡ result_unwrap_or r 0)
  given (Ok n) e = (refl, refl)
  given (Err why) e = absurd (false≢true e)

  pub sums : (c : ℕ → Result ℕ Refusal) → ((p : ℕ) → p ≤ s.events → counted (c p) ≡ counting s p) → ((p : ℕ) → p ≤ s.events → is_ok (c p) ≡ true) → (k : ℕ) → k ≤ suc s.events → sum_below k (λ p. result_unwrap_or (c p) 0) ≡ sum_below k (λ p. length (interval s p))
  sums c told passed zero h = refl
  sums c told passed (suc k) h =
      let here = told k (omega arith) in
      let is = given (c k) (passed k (omega arith)) in
      let zero-here : (counting s k).refusal ≡ 0 = sym (ap (λ (o : CountOutcome). o.refusal) here) ∙ is.0 in
      omega (arith, sums c told passed k (omega arith), ap (λ (o : CountOutcome). o.count) here, is.1, count_is k (omega arith) zero-here)
