-- No second outcome satisfies a contract of this crate, but for the columns of tablets that do not exist.
use Rattle.std.proofs.Common.{◌≡◌, ℕ, ◌+◌, ◌<◌, ◌≤◌, ◌↔◌, List, Bool, IsTrue, length, max, get_or, set, slice_index, replicate, ap, sym, ◌∙◌, rules, arith}
use Rattle.std.proofs.lemmas.Grind.{same_number_lists}
use Rattle.trials.specs.Draws.{next_state, drawn}
use Rattle.trials.specs.Counters.{counted}

pub new_draw_unique : (seed r s : ℕ) → r ≡ seed → s ≡ seed → r ≡ s
new_draw_unique seed r s p q = p ∙ sym q

pub below_unique : (factor bound old r s p q : ℕ) → p ≡ next_state factor old → r ≡ drawn bound p → q ≡ next_state factor old → s ≡ drawn bound q → r ≡ s
below_unique factor bound old r s p q a b c d = b ∙ (ap (drawn bound) (a ∙ sym c) ∙ sym d)

pub column_unique : (factor tablets old r s p q : ℕ) → p ≡ next_state factor old → r ≡ drawn tablets p → q ≡ next_state factor old → s ≡ drawn tablets q → r ≡ s
column_unique factor tablets old r s p q a b c d = below_unique factor tablets old r s p q a b c d

-- two tests of one fact; `at_most` is another such
pub once_in_unique : (p : Type 0) (r s : Bool) → (IsTrue r ↔ p) → (IsTrue s ↔ p) → r ≡ s
once_in_unique p r s a b = search rules

pub new_counts_unique : (n : ℕ) (r s : List ℕ) → r ≡ replicate n 0 → s ≡ replicate n 0 → r ≡ s
new_counts_unique n r s p q = p ∙ sym q

pub add_unique : (old : List ℕ) (index : ℕ) (r s : List ℕ) → r ≡ counted old index → s ≡ counted old index → r ≡ s
add_unique old index r s p q = p ∙ sym q

pub column_of_unique : (tablet r s : ℕ) → 0 < tablet → tablet ≤ 8 → (0 < tablet → tablet ≤ 8 → r + 1 ≡ tablet) → (0 < tablet → tablet ≤ 8 → s + 1 ≡ tablet) → r ≡ s
column_of_unique tablet r s some most p q = omega (arith, p some most, q some most)

-- `entry` has the same equation
pub at_unique : (counts : List ℕ) (index r s : ℕ) → r ≡ get_or counts index 0 → s ≡ get_or counts index 0 → r ≡ s
at_unique counts index r s p q = p ∙ sym q

pub with_entry_unique : (entries : List ℕ) (column value : ℕ) (r s : List ℕ) → r ≡ set entries column value → s ≡ set entries column value → r ≡ s
with_entry_unique entries column value r s p q = p ∙ sym q

pub largest_unique : (a b r s : List ℕ) → length r ≡ 8 → length s ≡ 8 → ((j : ℕ) → j < 8 → slice_index r j ≡ max (slice_index a j) (slice_index b j)) → ((j : ℕ) → j < 8 → slice_index s j ≡ max (slice_index a j) (slice_index b j)) → r ≡ s
largest_unique a b r s m n p q = same_number_lists r s (m ∙ sym n) (λ k below. p k (omega (arith, m, below)) ∙ sym (q k (omega (arith, m, below))))
