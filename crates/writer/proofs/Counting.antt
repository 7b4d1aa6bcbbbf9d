-- How many of the first order bytes name a tablet, as the library counts them.
use mathlib.Core.Path.{◌≡◌, refl, sym, ap, ◌∙◌}
use mathlib.Core.Logic.{by_cases}
use mathlib.Core.List.{List}
use Prim.Native.Nat.{ℕ, zero, suc, ◌≤◌}
use native.Mathlib.Omega.{arith}
use native.Mathlib.Numerals.{add-one}
use native.Mathlib.Decide.{ℕ_discrete}
use borrow.Author.Tests.{eq-eqb, ne_eqb}
use lib.Dec.{eqb}
use lib.ListN.{length, get_or, take}
use Rattle.std.specs.List.{count_by}
use Rattle.std.proofs.lemmas.List.Sums.{count_by_more_yes, count_by_more_no}
use Rattle.model.specs.Follow.{tally}
use Rattle.model.proofs.Valid.{tally_own, tally_other}

pub counted_tally : (order : List ℕ) (tablet j : ℕ) → tablet ≡ suc j → (p : ℕ) → p ≤ length order → count_by (λ b. eqb b tablet) (take p order) ≡ tally order p j
counted_tally order tablet j is zero h = refl
counted_tally order tablet j is (suc p) h =
    ap (λ (k : ℕ). count_by (λ b. eqb b tablet) (take k order)) (sym (add-one p))
    ∙ by_cases (ℕ_discrete (get_or order p 0) tablet)
    (λ same. count_by_more_yes (λ b. eqb b tablet) order p 0 (omega arith) (eq-eqb (get_or order p 0) tablet same)
    ∙ add-one (count_by (λ b. eqb b tablet) (take p order))
    ∙ ap suc (counted_tally order tablet j is p (omega arith))
    ∙ sym (tally_own order p j (same ∙ is)))
    (λ other. count_by_more_no (λ b. eqb b tablet) order p 0 (omega arith) (ne_eqb (get_or order p 0) tablet other)
    ∙ counted_tally order tablet j is p (omega arith)
    ∙ sym (tally_other order p j (λ e. other (e ∙ sym is))))
