-- Theorems 3 and 4: happened-before and the clocks; consistent cuts and happened-before.
use mathlib.Core.Path.{◌≡◌, refl, sym, subst}
use mathlib.Core.Logic.{◌≢◌, ◌↔◌, by_cases}
use mathlib.Core.List.{List}
use Prim.Native.Nat.{ℕ, ◌≤◌, ◌<◌}
use native.Mathlib.Omega.{arith}
use native.Mathlib.Decide.{ℕ_discrete, dec_le}
use Rattle.model.specs.Lists.{at}
use Rattle.model.specs.Clocks.{Clocks, EventName, clock_of}
use Rattle.model.specs.Cuts.{Contains}
use Rattle.model.specs.Happened.{HappenedBefore, earlier, told, through}
use Rattle.model.proofs.Entries.{AtMost, at_most_trans}
use Rattle.model.proofs.Ranges.{known_at_most, Consistent}
use Rattle.model.proofs.Causal.{Causal, event, grows, closed_has}

-- what happened before an event of the trace is of the trace, is known to it in full, and does not know it
pub record Past (clk : Clocks) (tal : List ℕ) (e f : EventName) : Type 0 where
  pub of_trace : Contains tal e
  pub clocks : AtMost (clock_of clk e) (clock_of clk f)
  pub unaware : at (clock_of clk e) f.column < f.number

module _ (clk : Clocks) (tal : List ℕ) (causal : Causal clk tal) where
  past : (e f : EventName) → Contains tal f → HappenedBefore clk e f → Past clk tal e f
  past e f cf (earlier same first less) =
      let low : e.number ≤ at tal e.column = rw same (omega (arith, cf.last)) in
      let ce : Contains tal e = record { column = rw same cf.column; first = first; last = low } in
      record {
        of_trace = ce;
        clocks = subst (λ (j : ℕ). AtMost (clk j e.number) (clock_of clk f)) (sym same)
            (grows clk tal causal f.column e.number f.number cf.column first (omega arith) cf.last);
        unaware = rw (← same) (omega (arith, causal.own e ce));
      }
  past e f cf (told ht other first names) =
      let ce : Contains tal e = record { column = ht; first = first; last = omega (arith, causal.within f cf e.column ht) } in
      let named : 1 ≤ at (clock_of clk f) e.column = omega arith in
      record {
        of_trace = ce;
        clocks = subst (λ (k : ℕ). AtMost (clk e.column k) (clock_of clk f)) names (causal.told f cf e.column ht other named);
        unaware = subst (λ (k : ℕ). at (clk e.column k) f.column < f.number) names (causal.fresh f cf e.column ht other named);
      }
  past e f cf (through d before after) =
      let pd = past d f cf after in
      let pe = past e d pd.of_trace before in
      record {
        of_trace = pe.of_trace;
        clocks = at_most_trans (clock_of clk e) (clock_of clk d) (clock_of clk f) pe.clocks pd.clocks;
        unaware = omega (arith, pe.clocks f.column cf.column, pd.unaware);
      }

  -- of two different events one whose clock is at most the other's happened before it
  before_of_clocks : (e f : EventName) → Contains tal e → Contains tal f → e ≢ f → AtMost (clock_of clk e) (clock_of clk f) → HappenedBefore clk e f
  before_of_clocks e f ce cf differ most =
      let reached : e.number ≤ at (clock_of clk f) e.column = omega (arith, causal.own e ce, most e.column ce.column) in
      by_cases (ℕ_discrete e.column f.column)
      (λ same. on_one_tablet same (omega (arith, causal.own f cf, rw same at reached)))
      (λ other. by_cases (ℕ_discrete (at (clock_of clk f) e.column) e.number)
      (λ exact. told ce.column other ce.first exact)
      (λ later. through (event e.column (at (clock_of clk f) e.column))
      (earlier refl ce.first (omega arith))
      (told ce.column other (omega (arith, ce.first)) refl)))
    where
      on_one_tablet : e.column ≡ f.column → e.number ≤ f.number → HappenedBefore clk e f
      on_one_tablet same h =
          by_cases (ℕ_discrete e.number f.number)
          (λ equal. absurd (differ (λ i. record { column = same i; number = equal i })))
          (λ n. earlier same ce.first (omega arith))

  -- Theorem 3 (rule 19) ..
  pub happened_before_clocks : (e f : EventName) → Contains tal e → Contains tal f → e ≢ f → HappenedBefore clk e f ↔ AtMost (clock_of clk e) (clock_of clk f)
  happened_before_clocks e f ce cf differ = (λ h. (past e f cf h).clocks, before_of_clocks e f ce cf differ)

  -- .. it is a strict order ..
  pub happened_before_irrefl : (e : EventName) → Contains tal e → HappenedBefore clk e e → ⊥
  happened_before_irrefl e ce h = omega (arith, (past e e ce h).unaware, causal.own e ce)

  pub happened_before_trans : (d e f : EventName) → HappenedBefore clk d e → HappenedBefore clk e f → HappenedBefore clk d f
  happened_before_trans d e f h k = through e h k

  -- .. and on one tablet it is the tablet's order
  pub happened_before_tablet : (e f : EventName) → Contains tal e → Contains tal f → e.column ≡ f.column → HappenedBefore clk e f ↔ (e.number < f.number)
  happened_before_tablet e f ce cf same = (
    λ h. let less : at (clock_of clk e) e.column < f.number = subst (λ (j : ℕ). at (clock_of clk e) j < f.number) (sym same) (past e f cf h).unaware in omega (arith, causal.own e ce),
    λ less. earlier same ce.first less,
  )

  -- Theorem 4: a cut within the tallies is consistent exactly when its events are closed under happened-before
  pub consistent_is_closed : (G : List ℕ) → AtMost G tal → Consistent clk tal G ↔ ((e f : EventName) → Contains G f → HappenedBefore clk e f → Contains G e)
  consistent_is_closed G most = (forth, back)
    where
      of_trace : (f : EventName) → Contains G f → Contains tal f
      of_trace f cf = record { column = cf.column; first = cf.first; last = omega (arith, cf.last, most f.column cf.column) }

      forth : Consistent clk tal G → (e f : EventName) → Contains G f → HappenedBefore clk e f → Contains G e
      forth c e f cf h =
          let p = past e f (of_trace f cf) h in
          let pe = p.of_trace in
          record {
            column = pe.column;
            first = pe.first;
            last = omega (arith, causal.own e pe, p.clocks e.column pe.column, closed_has clk tal causal G c f cf e.column pe.column);
          }

      -- the last event of tablet j in the cut knows only events of the cut
      last_of : ((e f : EventName) → Contains G f → HappenedBefore clk e f → Contains G e) → (j : ℕ) → j < 8 → 1 ≤ at G j → AtMost (clk j (at G j)) G
      last_of shut j hj first i hi =
          let f : EventName = event j (at G j) in
          let cf : Contains G f = record { column = hj; first = first; last = omega arith } in
          by_cases (ℕ_discrete i j)
          (λ same. rw same (omega (arith, causal.own f (of_trace f cf))))
          (λ other. by_cases (dec_le 1 (at (clk j (at G j)) i))
          (λ named. (shut (event i (at (clk j (at G j)) i)) f cf (told hi other named refl)).last)
          (λ none. omega arith))

      back : ((e f : EventName) → Contains G f → HappenedBefore clk e f → Contains G e) → Consistent clk tal G
      back shut = record { most = most; known_in = λ j hj. known_at_most clk j (at G j) G (last_of shut j hj) }
