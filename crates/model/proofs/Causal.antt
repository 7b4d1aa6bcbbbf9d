-- What the clocks of a valid trace have, for the events that the tallies contain. Every theorem on cuts is over this.
use mathlib.Core.Path.{sym, subst}
use mathlib.Core.Logic.{by_cases}
use mathlib.Core.List.{List}
use Prim.Native.Nat.{ℕ, zero, suc, ◌≤◌, ◌<◌}
use native.Mathlib.Omega.{arith}
use native.Mathlib.Decide.{ℕ_discrete}
use Rattle.model.specs.Lists.{at}
use Rattle.model.specs.Clocks.{Clocks, EventName, clock_of}
use Rattle.model.specs.Cuts.{Contains}
pub use Rattle.model.specs.Ranges.{Causal}
use Rattle.model.proofs.Entries.{AtMost, at_most_refl, at_most_trans}
use Rattle.model.proofs.Ranges.{known_event, known_at_most, Consistent}

abbrev pub event : ℕ → ℕ → EventName
event j k = record { column = j; number = k }

module _ (clk : Clocks) (tal : List ℕ) (causal : Causal clk tal) where
  -- on one tablet knowledge only grows
  pub grows : (j k l : ℕ) → j < 8 → 1 ≤ k → k ≤ l → l ≤ at tal j → AtMost (clk j k) (clk j l)
  grows j k zero hj h1 hk hl = let z : ⊥ = omega arith in absurd z
  grows j k (suc l) hj h1 hk hl =
      by_cases (ℕ_discrete k (suc l))
      (λ e. subst (λ (m : ℕ). AtMost (clk j k) (clk j m)) e (at_most_refl (clk j k)))
      (λ n. at_most_trans (clk j k) (clk j l) (clk j (suc l)) (grows j k l hj h1 (omega arith) (omega arith))
      (causal.next j l hj (omega arith) (omega arith)))

  -- Theorem 2: an event's clock covers the clocks of all that it knows
  pub knows_all : (e f : EventName) → Contains tal f → e.column < 8 → 1 ≤ e.number → e.number ≤ at (clock_of clk f) e.column → AtMost (clock_of clk e) (clock_of clk f)
  knows_all e f cf ht h1 hk =
      by_cases (ℕ_discrete e.column f.column)
      (λ same. let last : e.number ≤ f.number = omega (arith, causal.own f cf, rw same at hk) in
      subst (λ (j : ℕ). AtMost (clk j e.number) (clock_of clk f)) (sym same)
      (grows f.column e.number f.number cf.column h1 last cf.last))
      (λ other. let named : 1 ≤ at (clock_of clk f) e.column = omega arith in
      at_most_trans (clock_of clk e) (clk e.column (at (clock_of clk f) e.column)) (clock_of clk f)
      (grows e.column e.number (at (clock_of clk f) e.column) ht h1 hk (causal.within f cf e.column ht))
      (causal.told f cf e.column ht other named))

  -- an event's clock, taken as a cut, is consistent
  pub clock_consistent : (e : EventName) → Contains tal e → Consistent clk tal (clock_of clk e)
  clock_consistent e ce =
      record {
        most = causal.within e ce;
        known_in = λ j hj. known_at_most clk j (at (clock_of clk e) j) (clock_of clk e)
            (λ h. knows_all (event j (at (clock_of clk e) j)) e ce hj h (omega arith));
      }

  -- so are the tallies
  pub tallies_consistent : Consistent clk tal tal
  tallies_consistent =
      record {
        most = at_most_refl tal;
        known_in = λ j hj. known_at_most clk j (at tal j) tal
            (λ h. causal.within (event j (at tal j)) (record { column = hj; first = h; last = omega arith }));
      }

  -- a closed cut contains what its events know
  pub closed_has : (G : List ℕ) → Consistent clk tal G → (e : EventName) → Contains G e → AtMost (clock_of clk e) G
  closed_has G c e ce =
      let top : AtMost (clk e.column (at G e.column)) G = subst (λ (X : List ℕ). AtMost X G) (known_event clk e.column (at G e.column) (omega (arith, ce.first, ce.last))) (c.known_in e.column ce.column) in
      at_most_trans (clock_of clk e) (clk e.column (at G e.column)) G
      (grows e.column e.number (at G e.column) ce.column ce.first ce.last (c.most e.column ce.column)) top
