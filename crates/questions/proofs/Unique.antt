-- No second answer satisfies a contract.
use mathlib.Core.Path.{◌≡◌, refl, sym, ◌∙◌}
use mathlib.Core.Bool.{Bool}
use mathlib.Core.List.{List, []}
use Prim.Native.Nat.{ℕ}
use Rattle.model.specs.declared.Question.{Question}
use Rattle.model.specs.Store.{Store, store_of, no_record}
use Rattle.model.specs.Questions.{meets}
use Rattle.questions.specs.Holdings.{ForHeld, question_fits}

pub cut_meets_unique : (held : List ℕ) (question : Question) (counts : List ℕ) (a b : Bool) → ForHeld held (λ s. a ≡ meets s question counts) → ForHeld held (λ s. b ≡ meets s question counts) → a ≡ b
cut_meets_unique held question counts a b f g = f some refl ∙ sym (g some refl)
  where
    some : Store
    some = store_of no_record [] held []

pub question_fits_unique : (n : ℕ) (question : Question) (a b : Bool) → a ≡ question_fits n question → b ≡ question_fits n question → a ≡ b
question_fits_unique n question a b p q = p ∙ sym q
