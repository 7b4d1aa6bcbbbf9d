-- Theorem 6 (rule 25): each consistent cut is in exactly one interval, and so their counts are all of them.
use mathlib.Core.Path.{◌≡◌, sym, ap, ◌∙◌, subst}
use mathlib.Core.Logic.{◌≢◌, ◌⊎◌, inl, inr, ⊎_elim, by_cases}
use mathlib.Core.Bool.{Bool, not, ◌&&◌}
use mathlib.Core.List.{List, Memᴰ}
use Prim.Native.Nat.{ℕ, zero, suc, ◌+◌, ◌≤◌, ◌<◌}
use native.Mathlib.Omega.{arith}
use native.Mathlib.Decide.{ℕ_discrete, dec_le, dec_lt}
use lib.Dec.{T, T_not, not_T}
use lib.ListN.{length, get_or}
use Rattle.model.specs.Lists.{at, sum_below, keep}
use Rattle.model.specs.Clocks.{Clocks, covered}
use Rattle.model.specs.Follow.{column_at, tallies, event_at}
use Rattle.model.specs.Store.{Store, clocks_of}
use Rattle.model.specs.Cuts.{consistent, box, cuts_between, gmin, interval, all_cuts, total}
use Rattle.model.proofs.Tests.{and_left, and_right, and_both, decided}
use Rattle.model.proofs.Entries.{AtMost, covered_at_most, at_most_covered, at_most_trans}
use Rattle.model.proofs.Lists.{keep_from, keep_into, keep_parts}
use Rattle.model.proofs.Lexical.{keep_rising, rising_equal}
use Rattle.model.proofs.Box.{box_rising, box_from, box_into}
use Rattle.model.proofs.Ranges.{Consistent, consistent_holds, holds_consistent}
use Rattle.model.proofs.Causal.{closed_has}
use Rattle.model.proofs.Valid.{at_tallies, length_tallies, tally_other, tallies_grow}
use Rattle.model.proofs.Sound.{Sound, causal_at, follows_at, index_fits}
use Rattle.model.proofs.Bounds.{tested_range}
use Rattle.model.proofs.Intervals.{interval_high, interval_has, later_outside}

-- the consistent cuts of the first p events, found by testing every vector up to their tallies
pub cuts_to : Store → ℕ → List (List ℕ)
cuts_to s p = keep (consistent (clocks_of s) (tallies s.order p)) (box (tallies s.order p))

-- a member of a tested box, both ways
module _ (clk : Clocks) (bound : List ℕ) (eight-long : length bound ≡ 8) where
  pub cut_from : (G : List ℕ) → Memᴰ G (keep (consistent clk bound) (box bound)) → (length G ≡ 8) × Consistent clk bound G
  cut_from G m =
      let k = keep_from (consistent clk bound) (box bound) m in
      ((box_from bound G k.0).long ∙ eight-long, consistent_holds clk bound G k.1)

  pub in_box : (G : List ℕ) → length G ≡ 8 → AtMost G bound → Memᴰ G (box bound)
  in_box G long most = box_into bound G (record { long = long ∙ sym eight-long; most = λ j h. most j (omega (arith, eight-long)) })

  pub cut_into : (G : List ℕ) → length G ≡ 8 → Consistent clk bound G → Memᴰ G (keep (consistent clk bound) (box bound))
  cut_into G long c = keep_into (consistent clk bound) (box bound) (in_box G long c.most) (holds_consistent clk bound G c)

-- one more event: the cuts of the first q + 1 events are the cuts of the first q, and those that contain the new one
module _ (s : Store) (snd : Sound s) (q : ℕ) (h : q < s.events) where
  abbrev clk : Clocks
  clk = clocks_of s

  abbrev was : List ℕ
  was = tallies s.order q

  abbrev now : List ℕ
  now = tallies s.order (suc q)

  abbrev low : List ℕ
  low = gmin s (suc q)

  abbrev own : ℕ
  own = column_at s.order q

  others_stay : (j : ℕ) → j < 8 → j ≢ own → at now j ≡ at was j
  others_stay j hj other =
      let f = follows_at s snd q h in
      let differ : get_or s.order q 0 ≢ suc j = omega (arith, f.positive) in
      at_tallies s.order (suc q) j hj ∙ tally_other s.order q j differ ∙ sym (at_tallies s.order q j hj)

  -- a cut within the old tallies does not contain the new event
  old_not_new : (G : List ℕ) → AtMost G was → T (covered low G) → ⊥
  old_not_new G most c =
      let own_fits = index_fits s snd q h in
      omega (arith, most own own_fits, covered_at_most low G c own own_fits, (follows_at s snd q h).own)

  -- a consistent cut without what the new event knows is within the old tallies
  not_new_old : (G : List ℕ) → Consistent clk now G → (T (covered low G) → ⊥) → AtMost G was
  not_new_old G c without j hj =
      by_cases (ℕ_discrete j own)
      (λ same. rw same
      (by_cases (dec_le (at G own) (at was own)) (λ fine. fine) (λ over. absurd (without (at_most_covered low G (has over))))))
      (λ other. omega (arith, c.most j hj, others_stay j hj other))
    where
      has : (at G own ≤ at was own → ⊥) → AtMost low G
      has over =
          let own_fits = index_fits s snd q h in
          closed_has clk now (causal_at s snd (suc q) h) G c (event_at s.order q)
          (record { column = own_fits; first = omega arith; last = omega (arith, at_tallies s.order q own own_fits) })

  without_new : keep (λ G. not (covered low G) && consistent clk now G) (box now) ≡ cuts_to s q
  unfolding cuts_to
  without_new =
      rising_equal (keep test (box now)) (keep (consistent clk was) (box was))
      (keep_rising test (box now) (box_rising now))
      (keep_rising (consistent clk was) (box was) (box_rising was))
      into
      back
    where
      test : List ℕ → Bool
      test G = not (covered low G) && consistent clk now G

      into : (G : List ℕ) → Memᴰ G (keep test (box now)) → Memᴰ G (keep (consistent clk was) (box was))
      into G m =
          let k = keep_from test (box now) m in
          let c = consistent_holds clk now G (and_right (not (covered low G)) (consistent clk now G) k.1) in
          let most = not_new_old G c (T_not (covered low G) (and_left (not (covered low G)) (consistent clk now G) k.1)) in
          cut_into clk was (length_tallies s.order q) G ((box_from now G k.0).long ∙ length_tallies s.order (suc q))
          (record { most = most; known_in = c.known_in })

      back : (G : List ℕ) → Memᴰ G (keep (consistent clk was) (box was)) → Memᴰ G (keep test (box now))
      back G m =
          let c = cut_from clk was (length_tallies s.order q) G m in
          let most : AtMost G now = at_most_trans G was now c.1.most (tallies_grow s.order q (suc q) (omega arith)) in
          keep_into test (box now) (in_box clk now (length_tallies s.order (suc q)) G c.0 most)
          (and_both (not (covered low G)) (consistent clk now G) (not_T (covered low G) (old_not_new G c.1.most))
          (holds_consistent clk now G (record { most = most; known_in = c.1.known_in })))

  pub one_more : length (cuts_to s (suc q)) ≡ length (cuts_to s q) + length (interval s (suc q))
  unfolding cuts_to interval cuts_between
  one_more =
      keep_parts (consistent clk now) (covered low) (box now)
      ∙ ap (λ (Gs : List (List ℕ)). length Gs + length (interval s (suc q))) without_new

  -- a cut of the first q + 1 events is in interval q + 1, or a cut of the first q
  pub newest_or_older : (G : List ℕ) → Memᴰ G (cuts_to s (suc q)) → Memᴰ G (interval s (suc q)) ⊎ Memᴰ G (cuts_to s q)
  unfolding cuts_to interval cuts_between
  newest_or_older G m =
      let k = keep_from (consistent clk now) (box now) m in
      by_cases (decided (covered low G))
      (λ c. inl (keep_into (λ G. covered low G && consistent clk now G) (box now) k.0 (and_both (covered low G) (consistent clk now G) c k.1)))
      (λ n. let c = consistent_holds clk now G k.1 in
      inr (cut_into clk was (length_tallies s.order q) G ((box_from now G k.0).long ∙ length_tallies s.order (suc q))
      (record { most = not_new_old G c n; known_in = c.known_in })))

-- before the first event there is interval 0
cuts_at_zero : (s : Store) → cuts_to s 0 ≡ interval s 0
unfolding cuts_to interval
cuts_at_zero s = tested_range (clocks_of s) (tallies s.order 0)

module _ (s : Store) (snd : Sound s) where
  sum_to : (p : ℕ) → p ≤ s.events → sum_below (suc p) (λ q. length (interval s q)) ≡ length (cuts_to s p)
  sum_to zero h = omega (arith, ap length (cuts_at_zero s))
  sum_to (suc p) h = omega (arith, sum_to p (omega arith), one_more s snd p h)

  -- Theorem 6, the counts (rule 25)
  pub counts_add_up : total s ≡ length (all_cuts s)
  unfolding total all_cuts cuts_to
  counts_add_up = sum_to s.events (omega arith)

  some_interval : (p : ℕ) → p ≤ s.events → (G : List ℕ) → Memᴰ G (cuts_to s p) → (q : ℕ) × (q ≤ p) × Memᴰ G (interval s q)
  some_interval zero h G m = (0, omega arith, subst (Memᴰ G) (cuts_at_zero s) m)
  some_interval (suc p) h G m =
      ⊎_elim (λ here. (suc p, omega arith, here))
      (λ older. let r = some_interval p (omega arith) G older in (r.0, omega (arith, r.1), r.2))
      (newest_or_older s snd p h G m)

  -- an interval's cuts are in no later interval
  apart : (p q : ℕ) → p < q → q ≤ s.events → (G : List ℕ) → Memᴰ G (interval s p) → Memᴰ G (interval s q) → ⊥
  apart p zero less hq G m n = omega arith
  apart p (suc q) less hq G m n =
      later_outside s snd p G (interval_high s snd p G m) q (omega arith) hq (interval_has s snd q hq G n)

  -- Theorem 6, the cuts (rule 25)
  pub in_one_interval : (G : List ℕ) → Memᴰ G (all_cuts s) → (p : ℕ) × (p ≤ s.events) × Memᴰ G (interval s p) × ((q : ℕ) → q ≤ s.events → Memᴰ G (interval s q) → q ≡ p)
  unfolding all_cuts cuts_to
  in_one_interval G m =
      let r = some_interval s.events (omega arith) G m in
      (r.0, r.1, r.2, only r.0 r.1 r.2)
    where
      only : (p : ℕ) → p ≤ s.events → Memᴰ G (interval s p) → (q : ℕ) → q ≤ s.events → Memᴰ G (interval s q) → q ≡ p
      only p hp mp q hq mq =
          by_cases (dec_lt p q) (λ less. absurd (apart p q less hq G mp mq))
          (λ n. by_cases (dec_lt q p) (λ less. absurd (apart q p less hp G mq mp)) (λ n'. omega arith))
