-- Theorem 5: interval p is the consistent cuts that contain the event at p and no event accepted after it.
use mathlib.Core.Path.{◌≡◌, refl, sym, subst}
use mathlib.Core.Logic.{◌↔◌, by_cases}
use mathlib.Core.List.{List, [], ◌∷◌, Memᴰ}
use Prim.Native.Nat.{ℕ, zero, suc, ◌+◌, ◌≤◌, ◌<◌}
use native.Mathlib.Omega.{arith}
use native.Mathlib.Decide.{ℕ_discrete, dec_le}
use lib.ListN.{length, get_or}
use Rattle.model.specs.Lists.{at, eight, zeros}
use Rattle.model.specs.Clocks.{EventName, covered}
use Rattle.model.specs.Follow.{column_at, tally, tallies, event_at}
use Rattle.model.specs.Store.{Store, clocks_of, tallies_of}
use Rattle.model.specs.Cuts.{Contains, closed, consistent, cuts_between, gmin, gbnd, interval}
use Rattle.model.proofs.Entries.{AtMost, at_most_trans}
use Rattle.model.proofs.Ranges.{Consistent, range_from, range_into}
use Rattle.model.proofs.Causal.{closed_has}
use Rattle.model.proofs.Valid.{at_tallies, length_tallies, tally_own, tally_other, tally_mono, tallies_grow}
use Rattle.model.proofs.Sound.{Sound, causal_at, follows_at, index_fits}

-- rule 24
pub interval_zero : (s : Store) → interval s 0 ≡ zeros ∷ []
unfolding interval cuts_between consistent closed covered tallies eight zeros
interval_zero s = refl

-- where a tablet's event of a given number was accepted
pub record AcceptedAt (order : List ℕ) (p r j k : ℕ) : Type 0 where
  pub position : ℕ
  pub from : p ≤ position
  pub to : position < r
  pub event : event_at order position ≡ record { column = j; number = k }

pub accepted_at : (order : List ℕ) (p r j k : ℕ) → p ≤ r → tally order p j < k → k ≤ tally order r j → AcceptedAt order p r j k
accepted_at order p zero j k h low high = let e : p ≡ 0 = omega arith in let z : ⊥ = omega (arith, rw e at low) in absurd z
accepted_at order p (suc r) j k h low high =
    by_cases (ℕ_discrete p (suc r)) (λ e. let z : ⊥ = omega (arith, rw e at low) in absurd z)
    (λ n. by_cases (dec_le k (tally order r j))
    (λ old. let a = accepted_at order p r j k (omega arith) low old in
    record { position = a.position; from = a.from; to = omega (arith, a.to); event = a.event })
    (λ new. by_cases (ℕ_discrete (get_or order r 0) (suc j)) (here (omega arith) (omega arith))
    (λ other. let z : ⊥ = omega (arith, tally_other order r j other) in absurd z)))
  where
    here : p ≤ r → tally order r j < k → get_or order r 0 ≡ suc j → AcceptedAt order p (suc r) j k
    here hp new same =
        let own : column_at order r ≡ j = omega arith in
        let count : tally order r (column_at order r) + 1 ≡ k = rw own (omega (arith, tally_own order r j same)) in
        record { position = r; from = hp; to = omega arith; event = λ i. record { column = own i; number = count i } }

module _ (s : Store) (snd : Sound s) where
  -- a cut of an interval contains no event accepted after it
  pub interval_high : (p : ℕ) (G : List ℕ) → Memᴰ G (interval s p) → AtMost G (tallies s.order p)
  unfolding interval
  interval_high p G m = (range_from (clocks_of s) (gmin s p) (gbnd s p) (length_tallies s.order p) G m).cut.most

  -- and the event at its position
  pub interval_has : (q : ℕ) → q < s.events → (G : List ℕ) → Memᴰ G (interval s (suc q)) → Contains G (event_at s.order q)
  unfolding interval
  interval_has q h G m =
      let e : EventName = event_at s.order q in
      let own = index_fits s snd q h in
      let low = (range_from (clocks_of s) (gmin s (suc q)) (gbnd s (suc q)) (length_tallies s.order (suc q)) G m).least in
      record { column = own; first = omega arith; last = omega (arith, low e.column own, (follows_at s snd q h).own, at_tallies s.order q e.column own) }

  -- an event accepted after position p is not within the tallies after p
  pub later_outside : (p : ℕ) (G : List ℕ) → AtMost G (tallies s.order p) → (q : ℕ) → p ≤ q → q < s.events → Contains G (event_at s.order q) → ⊥
  later_outside p G most q h hq c =
      let j : ℕ = column_at s.order q in
      omega (arith, c.last, most j c.column, at_tallies s.order p j c.column, tally_mono s.order j p q h)

  -- a cut of the trace that has no event accepted after position p is within the tallies after p
  pub within_of_none : (p : ℕ) → p ≤ s.events → (G : List ℕ) → AtMost G (tallies_of s) → ((q : ℕ) → p ≤ q → q < s.events → Contains G (event_at s.order q) → ⊥) → AtMost G (tallies s.order p)
  within_of_none p hp G most none j hj =
      by_cases (dec_le (at G j) (at (tallies s.order p) j)) (λ h. h)
      (λ over. absurd (found (omega (arith, at_tallies s.order p j hj)) (omega (arith, most j hj, at_tallies s.order s.events j hj))))
    where
      found : tally s.order p j < at G j → at G j ≤ tally s.order s.events j → ⊥
      found low high =
          let a = accepted_at s.order p s.events j (at G j) hp low high in
          none a.position a.from a.to
          (subst (Contains G) (sym a.event) (record { column = hj; first = omega arith; last = omega arith }))

  -- Theorem 5, for p = q + 1
  pub interval_means : (q : ℕ) → q < s.events → (G : List ℕ) → length G ≡ 8 → Memᴰ G (interval s (suc q)) ↔ (Consistent (clocks_of s) (tallies_of s) G × Contains G (event_at s.order q) × ((r : ℕ) → suc q ≤ r → r < s.events → Contains G (event_at s.order r) → ⊥))
  unfolding interval
  interval_means q h G long = (
    λ m. let most = interval_high (suc q) G m in
        let r = range_from (clocks_of s) (gmin s (suc q)) (gbnd s (suc q)) (length_tallies s.order (suc q)) G m in (
          record {
            most = at_most_trans G (tallies s.order (suc q)) (tallies_of s) most (tallies_grow s.order (suc q) s.events h);
            known_in = r.cut.known_in;
          },
          interval_has q h G m,
          later_outside (suc q) G most,
        ),
    λ c. range_into (clocks_of s) (gmin s (suc q)) (gbnd s (suc q)) (length_tallies s.order (suc q)) G
        (record {
          long = long;
          least = closed_has (clocks_of s) (tallies_of s) (causal_at s snd s.events (omega arith)) G c.0 (event_at s.order q) c.1;
          cut = record { most = within_of_none (suc q) h G c.0.most c.2; known_in = c.0.known_in };
        }),
  )

  -- the same in rule 23's words: consistent with regard to the final tallies, and between Gmin and Gbnd
  pub interval_literal : (p : ℕ) → p ≤ s.events → (G : List ℕ) → length G ≡ 8 → Memᴰ G (interval s p) ↔ (Consistent (clocks_of s) (tallies_of s) G × AtMost (gmin s p) G × AtMost G (gbnd s p))
  unfolding interval
  interval_literal p h G long = (
    λ m. let r = range_from (clocks_of s) (gmin s p) (gbnd s p) (length_tallies s.order p) G m in
        (record { most = at_most_trans G (gbnd s p) (tallies_of s) r.cut.most (tallies_grow s.order p s.events h); known_in = r.cut.known_in }, r.least, r.cut.most),
    λ c. range_into (clocks_of s) (gmin s p) (gbnd s p) (length_tallies s.order p) G
        (record { long = long; least = c.1; cut = record { most = c.2; known_in = c.0.known_in } }),
  )
