-- A store written out by calls of `write`, one for each piece 0 to T+1, and what they leave in the fronts of their outputs.
use Rattle.std.specs.Prelude.{◌≡◌, List, ◌++◌, ℕ, zero, suc, ◌+◌, ◌≤◌, take, Result, IsOk}
use Rattle.model.specs.declared.Refusal.{Refusal}
use Rattle.model.specs.Store.{Store}
use Rattle.writer.specs.Writing.{written, length_given, writing}

-- the calls: what each answered, and its output before and after. Each meets the contract of `write` (`met`) and was not
-- refused. The outputs may be one buffer used again, or others.
pub record Written (s : Store) : Type 0 where
  pub answer : ℕ → Result ℕ Refusal
  pub before : ℕ → List ℕ
  pub after : ℕ → List ℕ
  pub met : (p : ℕ) → p ≤ s.events + 1 → written (answer p) (after p) ≡ writing s p (before p)
  pub passed : (p : ℕ) → p ≤ s.events + 1 → IsOk (answer p)

-- of the outputs 0 to p the first so many bytes, joined in order
abbrev pub fronts : (ℕ → ℕ) → (ℕ → List ℕ) → ℕ → List ℕ
fronts lengths outputs zero = take (lengths 0) (outputs 0)
fronts lengths outputs (suc p) = fronts lengths outputs p ++ take (lengths (suc p)) (outputs (suc p))

-- rule 45: what all the calls wrote, each as many bytes as it answered
abbrev pub joined : (s : Store) → Written s → List ℕ
joined s w = fronts (λ p. length_given (w.answer p)) w.after (s.events + 1)
