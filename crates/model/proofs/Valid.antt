-- The tallies grow by one at each position, and the clocks of a valid trace are causal (theorem 2).
use mathlib.Core.Path.{◌≡◌, refl, sym, subst}
use mathlib.Core.Logic.{◌≢◌, ◌⊎◌, inl, inr, ⊎_elim, by_cases}
use mathlib.Core.List.{List}
use Prim.Native.Nat.{ℕ, zero, suc, ◌+◌, ◌≤◌, ◌<◌}
use native.Mathlib.Omega.{arith}
use native.Mathlib.Decide.{ℕ_discrete, dec_le}
use borrow.Author.Tests.{eq-eqb, ne_eqb}
use lib.Dec.{T, eqb→eq}
use lib.ListN.{length, get_or}
use Rattle.model.specs.Lists.{at}
use Rattle.model.specs.Clocks.{Clocks, EventName, clock_of, known}
use Rattle.model.specs.Follow.{column_at, tally, tallies, event_at, last_known, follow_to}
use Rattle.model.specs.Cuts.{Contains}
use Rattle.model.proofs.Tests.{and_left, and_right}
use Rattle.model.proofs.Entries.{AtMost, at_most_trans, at_eight, length_eight}
use Rattle.model.proofs.Ranges.{known_event}
use Rattle.model.proofs.Follow.{Follows, may_follow_lem}
use Rattle.model.proofs.Causal.{Causal, event}

pub at_tallies : (order : List ℕ) (p j : ℕ) → j < 8 → at (tallies order p) j ≡ tally order p j
unfolding tallies
at_tallies order p j h = at_eight (tally order p) j h

pub length_tallies : (order : List ℕ) (p : ℕ) → length (tallies order p) ≡ 8
unfolding tallies
length_tallies order p = length_eight (tally order p)

-- the tally of the tablet at the next position rises by one, the others stay
pub tally_own : (order : List ℕ) (p j : ℕ) → get_or order p 0 ≡ suc j → tally order (suc p) j ≡ suc (tally order p j)
tally_own order p j e = simp (eq-eqb (get_or order p 0) (suc j) e)

pub tally_other : (order : List ℕ) (p j : ℕ) → get_or order p 0 ≢ suc j → tally order (suc p) j ≡ tally order p j
tally_other order p j n = simp (ne_eqb (get_or order p 0) (suc j) n)

pub tally_grows : (order : List ℕ) (p j : ℕ) → tally order p j ≤ tally order (suc p) j
tally_grows order p j =
    by_cases (ℕ_discrete (get_or order p 0) (suc j))
    (λ e. omega (arith, tally_own order p j e))
    (λ n. omega (arith, tally_other order p j n))

pub tally_mono : (order : List ℕ) (j p q : ℕ) → p ≤ q → tally order p j ≤ tally order q j
tally_mono order j p zero h = let e : p ≡ 0 = omega arith in rw e (omega arith)
tally_mono order j p (suc q) h =
    by_cases (ℕ_discrete p (suc q)) (λ e. rw e (omega arith))
    (λ n. omega (arith, tally_mono order j p q (omega arith), tally_grows order q j))

-- what the test of the first p + 1 events says of the last of them
module _ (n : ℕ) (clk : Clocks) (order : List ℕ) where
  pub follow_before : (p : ℕ) → T (follow_to n clk order (suc p)) → T (follow_to n clk order p)
  follow_before p t = and_left (follow_to n clk order p) _ t

  pub follow_at : (p : ℕ) → T (follow_to n clk order (suc p)) → Follows n clk (tallies order p) (get_or order p 0) (clock_of clk (event_at order p))
  follow_at p t =
      may_follow_lem n clk (tallies order p) (get_or order p 0) (clock_of clk (event_at order p))
      (eqb→eq _ 0 (and_right (follow_to n clk order p) _ t))

  pub follow_prefix : (p q : ℕ) → p ≤ q → T (follow_to n clk order q) → T (follow_to n clk order p)
  follow_prefix p zero h t = let e : p ≡ 0 = omega arith in rw e tt
  follow_prefix p (suc q) h t =
      by_cases (ℕ_discrete p (suc q)) (λ e. rw e t) (λ m. follow_prefix p q (omega arith) (follow_before q t))

-- the event at position p + 1 is of the first p + 1
pub contained_at : (n : ℕ) → n ≤ 8 → (clk : Clocks) (order : List ℕ) (p : ℕ) → T (follow_to n clk order (suc p)) → Contains (tallies order (suc p)) (event_at order p)
contained_at n narrow clk order p t =
    let f = follow_at n clk order p t in
    let own : column_at order p < 8 = omega (arith, f.positive, f.listed) in
    let byte : get_or order p 0 ≡ suc (column_at order p) = omega (arith, f.positive) in
    record {
      column = own;
      first = omega arith;
      last = omega (arith, at_tallies order (suc p) (column_at order p) own, tally_own order p (column_at order p) byte);
    }

-- an event of the first p + 1 is one of the first p, or the one at position p + 1
pub new_or_old : (order : List ℕ) (p : ℕ) → 1 ≤ get_or order p 0 → (e : EventName) → Contains (tallies order (suc p)) e → Contains (tallies order p) e ⊎ ((e.column ≡ column_at order p) × (e.number ≡ (event_at order p).number))
new_or_old order p positive e c =
    let now = at_tallies order (suc p) e.column c.column in
    let was = at_tallies order p e.column c.column in
    by_cases (dec_le e.number (tally order p e.column))
    (λ h. inl (record { column = c.column; first = c.first; last = omega (arith, was) }))
    (λ h. by_cases (ℕ_discrete (get_or order p 0) (suc e.column))
    (λ same. let here : e.column ≡ column_at order p = omega arith in
    inr (here, subst (λ (j : ℕ). e.number ≡ tally order p j + 1) here (omega (arith, now, c.last, tally_own order p e.column same))))
    (λ other. let z : ⊥ = omega (arith, now, c.last, tally_other order p e.column other) in absurd z))

pub tallies_grow : (order : List ℕ) (p q : ℕ) → p ≤ q → AtMost (tallies order p) (tallies order q)
tallies_grow order p q h j hj =
    omega (arith, at_tallies order p j hj, at_tallies order q j hj, tally_mono order j p q h)

-- one more event: what holds of the events before it, and of it, holds of all
module _ (n : ℕ) (narrow : n ≤ 8) (clk : Clocks) (order : List ℕ) (p : ℕ) (follows : Follows n clk (tallies order p) (get_or order p 0) (clock_of clk (event_at order p))) (before : Causal clk (tallies order p)) where
  own : ℕ
  own = column_at order p

  new : EventName
  new = event_at order p

  each : (P : EventName → Type 0) → ((e : EventName) → Contains (tallies order p) e → P e) → P new → (e : EventName) → Contains (tallies order (suc p)) e → P e
  unfolding new
  each P old here e c =
      ⊎_elim (old e) (λ h. subst P (λ i. record { column = sym h.0 i; number = sym h.1 i }) here)
      (new_or_old order p follows.positive e c)

  own_index : own < 8
  unfolding own
  own_index = omega (arith, follows.positive, follows.listed)

  -- the tallies before and after, at the new event's tablet
  was : at (tallies order p) own ≡ tally order p own
  was = at_tallies order p own own_index

  now : at (tallies order (suc p)) own ≡ (event_at order p).number
  unfolding own
  now =
      let positive : get_or order p 0 ≡ suc own = omega (arith, follows.positive) in
      omega (arith, at_tallies order (suc p) own own_index, tally_own order p own positive)

  own_entry : at (clock_of clk new) own ≡ (event_at order p).number
  unfolding own new
  own_entry = omega (arith, follows.own, was)

  next_new : (k : ℕ) → 1 ≤ k → (event_at order p).number ≡ suc k → AtMost (clk own k) (clock_of clk new)
  unfolding own new
  next_new k h e =
      let last : at (tallies order p) own ≡ k = omega (arith, was) in
      let mine : last_known own own (at (tallies order p) own) (at (clock_of clk new) own) ≡ k = simp (eq-eqb own own refl, last) in
      subst (λ (X : List ℕ). AtMost X (clock_of clk new)) (known_event clk own k h)
      (subst (λ (m : ℕ). AtMost (known clk own m) (clock_of clk new)) mine (follows.covering own own_index))

  told_new : (i : ℕ) → i < 8 → i ≢ own → 1 ≤ at (clock_of clk new) i → AtMost (clk i (at (clock_of clk new) i)) (clock_of clk new)
  unfolding own new
  told_new i hi other named =
      let its : last_known own i (at (tallies order p) i) (at (clock_of clk new) i) ≡ at (clock_of clk new) i = simp (ne_eqb i own other) in
      subst (λ (X : List ℕ). AtMost X (clock_of clk new)) (known_event clk i (at (clock_of clk new) i) named)
      (subst (λ (m : ℕ). AtMost (known clk i m) (clock_of clk new)) its (follows.covering i hi))

  within_new : AtMost (clock_of clk new) (tallies order (suc p))
  unfolding own new
  within_new j hj =
      by_cases (ℕ_discrete j own) (λ e. rw e (omega (arith, own_entry, now)))
      (λ other. omega (arith, follows.others j hj other, tallies_grow order p (suc p) (omega arith) j hj))

  fresh_new : (i : ℕ) → i < 8 → i ≢ own → 1 ≤ at (clock_of clk new) i → at (clk i (at (clock_of clk new) i)) own < (event_at order p).number
  unfolding own new
  fresh_new i hi other named =
      let e : EventName = event i (at (clock_of clk new) i) in
      omega (
        arith,
        before.within e (record { column = hi; first = named; last = follows.others i hi other }) own own_index,
        was,
      )

  pub causal_next : Causal clk (tallies order (suc p))
  unfolding own new
  causal_next =
      record {
        own = each (λ e. at (clock_of clk e) e.column ≡ e.number) before.own own_entry;
        next = λ j k hj h1 h. each
            (λ e. (k : ℕ) → 1 ≤ k → e.number ≡ suc k → AtMost (clk e.column k) (clock_of clk e))
            (λ e c k h e=. subst (λ (m : ℕ). AtMost (clk e.column k) (clk e.column m)) (sym e=) (before.next e.column k c.column h (omega (arith, c.last))))
            next_new
            (event j (suc k))
            (record { column = hj; first = omega arith; last = h })
            k
            h1
            refl;
        told = each
            (λ e. (i : ℕ) → i < 8 → i ≢ e.column → 1 ≤ at (clock_of clk e) i → AtMost (clk i (at (clock_of clk e) i)) (clock_of clk e))
            before.told
            told_new;
        within = each (λ e. AtMost (clock_of clk e) (tallies order (suc p)))
            (λ e c. at_most_trans (clock_of clk e) (tallies order p) (tallies order (suc p)) (before.within e c) (tallies_grow order p (suc p) (omega arith)))
            within_new;
        fresh = each
            (λ e. (i : ℕ) → i < 8 → i ≢ e.column → 1 ≤ at (clock_of clk e) i → at (clk i (at (clock_of clk e) i)) e.column < e.number)
            before.fresh
            fresh_new;
      }

-- no event yet: nothing to say
no_event : (order : List ℕ) (e : EventName) → Contains (tallies order 0) e → ⊥
no_event order e c = omega (arith, at_tallies order 0 e.column c.column, c.first, c.last)

-- Theorem 2: the clocks of a trace whose events each may follow are causal, after each position
pub causal_of_valid : (n : ℕ) → n ≤ 8 → (clk : Clocks) (order : List ℕ) (p : ℕ) → T (follow_to n clk order p) → Causal clk (tallies order p)
causal_of_valid n narrow clk order zero t =
    record {
      own = λ e c. absurd (no_event order e c);
      next = λ j k hj h1 h. let z : ⊥ = omega (arith, at_tallies order 0 j hj) in absurd z;
      told = λ e c. absurd (no_event order e c);
      within = λ e c. absurd (no_event order e c);
      fresh = λ e c. absurd (no_event order e c);
    }
causal_of_valid n narrow clk order (suc p) t =
    causal_next n narrow clk order p (follow_at n clk order p t)
    (causal_of_valid n narrow clk order p (follow_before n clk order p t))
