-- No second answer satisfies a contract of this crate.
use mathlib.Core.Path.{◌≡◌, sym, ◌∙◌}
use mathlib.Core.Bool.{Bool}
use mathlib.Core.List.{List}
use Prim.Native.Nat.{ℕ, ◌+◌}
use Rattle.std.specs.Prelude.{Result}
use Rattle.model.specs.declared.Refusal.{Refusal}
use Rattle.model.specs.declared.Tablet.{Tablet}
use Rattle.model.specs.declared.EventNumber.{EventNumber}
use Rattle.model.specs.Lists.{at}
use Rattle.model.specs.Numbers.{column, slot_of}
use Rattle.model.specs.Clocks.{clock_at, covered, known}
use Rattle.model.specs.Refusals.{verdict_number}
use Rattle.model.specs.Follow.{follow_refusal}
use Rattle.model.proofs.Refusals.{verdict_unique}

pub slot_of_unique : (tablet : Tablet) (number : EventNumber) (a b : ℕ) → a ≡ slot_of tablet number → b ≡ slot_of tablet number → a ≡ b
slot_of_unique tablet number a b p q = p ∙ sym q

pub stored_unique : (clocks : List ℕ) (tablet : Tablet) (number : EventNumber) (a b : List ℕ) → a ≡ clock_at clocks (column tablet) number.0 → b ≡ clock_at clocks (column tablet) number.0 → a ≡ b
stored_unique clocks tablet number a b p q = p ∙ sym q

pub is_covered_unique : (told clock : List ℕ) (a b : Bool) → a ≡ covered told clock → b ≡ covered told clock → a ≡ b
is_covered_unique told clock a b p q = p ∙ sym q

pub known_covered_unique : (clocks : List ℕ) (tablet : Tablet) (number : EventNumber) (clock : List ℕ) (a b : Bool) → a ≡ covered (known (clock_at clocks) (column tablet) number.0) clock → b ≡ covered (known (clock_at clocks) (column tablet) number.0) clock → a ≡ b
known_covered_unique clocks tablet number clock a b p q = p ∙ sym q

pub offered_verdict_unique : (n : ℕ) (clocks tallies : List ℕ) (tablet : Tablet) (clock : List ℕ) (v w : Result (Unit {0}) Refusal) → verdict_number v ≡ follow_refusal n (clock_at clocks) tallies tablet.0 clock → verdict_number w ≡ follow_refusal n (clock_at clocks) tallies tablet.0 clock → v ≡ w
offered_verdict_unique n clocks tallies tablet clock v w p q = verdict_unique v w (p ∙ sym q)

pub stored_verdict_unique : (n : ℕ) (clocks tallies : List ℕ) (tablet : Tablet) (v w : Result (Unit {0}) Refusal) → verdict_number v ≡ follow_refusal n (clock_at clocks) tallies tablet.0 (clock_at clocks (column tablet) (at tallies (column tablet) + 1)) → verdict_number w ≡ follow_refusal n (clock_at clocks) tallies tablet.0 (clock_at clocks (column tablet) (at tallies (column tablet) + 1)) → v ≡ w
stored_verdict_unique n clocks tallies tablet v w p q = verdict_unique v w (p ∙ sym q)
