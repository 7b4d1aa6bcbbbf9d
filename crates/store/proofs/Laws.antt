-- One turn of the store test: the tallies of the next position, and what a verdict on the event there says of the trace.
use mathlib.Core.Path.{◌≡◌, sym, ap, ap₂, ◌∙◌, subst}
use mathlib.Core.Logic.{◌≢◌, by_cases}
use mathlib.Core.Bool.{false}
use mathlib.Core.List.{List}
use Prim.Native.Nat.{ℕ, suc, ◌+◌, ◌-◌, ◌≤◌, ◌<◌}
use native.Mathlib.Omega.{arith}
use native.Mathlib.Numerals.{add-one}
use native.Mathlib.Decide.{ℕ_discrete, dec_le}
use borrow.Author.Tests.{ne_eqb, lt-ltb}
use lib.Dec.{T, eqb→eq}
use lib.ListN.{length, get_or, set, take, length-set}
use lib.Seq.{get_or-set_same, get_or-set_other, get_or-take, length-take-le}
use Rattle.std.specs.Prelude.{Option, Result, Some, None}
use Rattle.std.specs.Result.{result_ok}
use Rattle.model.specs.declared.Refusal.{Refusal}
use Rattle.model.specs.Lists.{at}
use Rattle.model.specs.Refusals.{verdict_number}
use Rattle.model.specs.Clocks.{Clocks, clock_at, clock_of}
use Rattle.model.specs.Follow.{tallies, event_at, tablet_refusal, follow_refusal, follow_to}
use Rattle.model.proofs.Tests.{and_right, and_both, fails}
use Rattle.model.proofs.Refusals.{none_refused, some_passed}
use Rattle.model.proofs.Follow.{Follows, may_follow_lem}
use Rattle.model.proofs.Entries.{same_entries}
use Rattle.model.proofs.Valid.{at_tallies, length_tallies, tally_own, tally_other, follow_prefix}
use Rattle.model.proofs.Total.{tally_bounded}
use Rattle.store.specs.Testing.{Followed}

-- the tallies after one more event: its tablet's is raised by one
pub tallies_raised : (order : List ℕ) (p own : ℕ) → own < 8 → get_or order p 0 ≡ suc own → tallies order (p + 1) ≡ set (tallies order p) own (at (tallies order p) own + 1)
tallies_raised order p own h byte =
    ap (tallies order) (add-one p)
    ∙ same_entries (tallies order (suc p)) (set (tallies order p) own (at (tallies order p) own + 1)) (length_tallies order (suc p))
    (length-set (tallies order p) own (at (tallies order p) own + 1) ∙ length_tallies order p)
    (λ j hj. by_cases (ℕ_discrete j own)
    (λ e. rw e
    (omega (arith, at_tallies order (suc p) own h, tally_own order p own byte, at_tallies order p own h, get_or-set_same (tallies order p) own (at (tallies order p) own + 1) 0 (omega (arith, length_tallies order p)))))
    (λ other. let differ : get_or order p 0 ≢ suc j = omega arith in
    at_tallies order (suc p) j hj ∙ tally_other order p j differ ∙ sym (at_tallies order p j hj)
    ∙ sym (get_or-set_other (tallies order p) own j (at (tallies order p) own + 1) 0 other)))

module _ (n : ℕ) (narrow : n ≤ 8) (clk : Clocks) (order : List ℕ) (p : ℕ) where
  abbrev tablet : ℕ
  tablet = get_or order p 0

  -- the clock of the event at the position, read by the tallies; where there is no such tablet the clock does not matter
  pub verdict_at : follow_refusal n clk (tallies order p) tablet (clk (tablet - 1) (at (tallies order p) (tablet - 1) + 1)) ≡ follow_refusal n clk (tallies order p) tablet (clock_of clk (event_at order p))
  unfolding follow_refusal tablet_refusal
  verdict_at =
      by_cases (dec_le tablet n)
      (λ low. ap (λ (k : ℕ). follow_refusal n clk (tallies order p) tablet (clk (tablet - 1) (k + 1))) (at_tallies order p (tablet - 1) (omega arith)))
      (λ high. let some : tablet ≢ 0 = omega arith in
      let above : n < tablet = omega arith in
      simp (ne_eqb tablet 0 some, lt-ltb n tablet above))

  pub passes_at : T (follow_to n clk order p) → follow_refusal n clk (tallies order p) tablet (clock_of clk (event_at order p)) ≡ 0 → T (follow_to n clk order (p + 1))
  passes_at before here =
      subst (λ (q : ℕ). T (follow_to n clk order q)) (sym (add-one p))
      (and_both (follow_to n clk order p) _ before (rw here tt))

  pub stops_at : (events : ℕ) → p < events → 1 ≤ follow_refusal n clk (tallies order p) tablet (clock_of clk (event_at order p)) → follow_to n clk order events ≡ false
  stops_at events h some =
      fails (follow_to n clk order events)
      (λ t. let here : follow_refusal n clk (tallies order p) tablet (clock_of clk (event_at order p)) ≡ 0 = eqb→eq _ 0 (and_right (follow_to n clk order p) _ (follow_prefix n clk order (suc p) events h t)) in
      omega arith)

-- a turn of the test: the byte of the order list at the position, the tallies before it, and the verdict that these give
module _ (n : ℕ) (narrow : n ≤ 8) (clocks order : List ℕ) (p : ℕ) (before : T (follow_to n (clock_at clocks) order p)) (counts : List ℕ) (is : counts ≡ tallies order p) where
  abbrev clk : Clocks
  clk = clock_at clocks

  -- no tally is above 254
  pub turn_bounded : (j : ℕ) → j < 8 → at counts j ≤ 254
  turn_bounded j h =
      rw is (omega (arith, at_tallies order p j h, tally_bounded n narrow clk order p before j))

  module _ (events : ℕ) (fits : events ≤ length order) (turn : p < length (take events order)) (v : Result (Unit {0}) Refusal) where
    -- the byte as the loop has it, which goes over the first `events`
    abbrev byte : ℕ
    byte = get_or (take events order) p 0

    inside : p < events
    inside = omega (arith, turn, length-take-le events order fits)

    same : byte ≡ get_or order p 0
    same = get_or-take events order p 0 inside

    abbrev refusal : ℕ
    refusal = follow_refusal n clk (tallies order p) (get_or order p 0) (clock_of clk (event_at order p))

    module _ (told : verdict_number v ≡ follow_refusal n clk counts byte (clk (byte - 1) (at counts (byte - 1) + 1))) where
      here : verdict_number v ≡ refusal
      here =
          told
          ∙ ap₂ (λ (tal : List ℕ) (b : ℕ). follow_refusal n clk tal b (clk (b - 1) (at tal (b - 1) + 1))) is same
          ∙ verdict_at n narrow clk order p

      -- where the event may not follow, the trace does not either
      pub turn_stops : (given : Option (List ℕ)) → result_ok v ≡ None → given ≡ None → Followed n clocks order events given
      turn_stops given none nothing =
          rw nothing (record { answer = sym (stops_at n narrow clk order p events inside (omega (arith, here, none_refused v none))); tally = tt })

      -- where it may, its tablet's tally is raised
      pub turn_passes : (given : Unit {0}) → result_ok v ≡ Some given → T (follow_to n clk order (p + 1)) × (set counts (byte - 1) (at counts (byte - 1) + 1) ≡ tallies order (p + 1))
      turn_passes given some =
          let passed : refusal ≡ 0 = sym here ∙ some_passed v given some in
          let follows : Follows n clk (tallies order p) (get_or order p 0) (clock_of clk (event_at order p)) = may_follow_lem _ _ _ _ _ passed in (
            passes_at n narrow clk order p before passed,
            ap₂ (λ (tal : List ℕ) (b : ℕ). set tal (b - 1) (at tal (b - 1) + 1)) is same
                ∙ sym (tallies_raised order p (get_or order p 0 - 1) (omega (arith, follows.positive, follows.listed)) (omega (arith, follows.positive))),
          )
