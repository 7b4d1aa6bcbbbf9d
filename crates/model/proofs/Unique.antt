-- No second number satisfies the ghost member of the conversion, and no two refusals have one number: `refusal_unique`, of
-- proofs/Refusals.
use mathlib.Core.Path.{◌≡◌, sym, ◌∙◌}
use Prim.Native.Nat.{ℕ}
use Rattle.model.specs.declared.Refusal.{Refusal}
use Rattle.model.specs.Refusals.{number_of}

pub u8_from_unique : (why : Refusal) (a b : ℕ) → a ≡ number_of why → b ≡ number_of why → a ≡ b
u8_from_unique why a b p q = p ∙ sym q
