-- The first of a list that passes a test: the head where it passes, else the first of the rest.
use mathlib.Core.Path.{◌≡◌, sym, ap, ◌∙◌}
use mathlib.Core.Bool.{Bool, false}
use mathlib.Core.List.{List, [], ◌∷◌}
use Prim.Native.Nat.{ℕ}
use Rattle.model.specs.declared.Question.{Question}
use Rattle.model.specs.Lists.{zeros, cons_if, keep}
use Rattle.model.specs.Store.{Store}
use Rattle.model.specs.Questions.{meets, Witness, first_of}
use Rattle.walks.specs.Finding.{AskedOf}

module _ (s : Store) (q : Question) (cuts : List (List ℕ)) (G : List ℕ) (rest : List (List ℕ)) where
  abbrev first : List (List ℕ) → Witness
  first Gs = first_of (keep (meets s q) Gs)

  pub first_skips : first cuts ≡ first (G ∷ rest) → meets s q G ≡ false → first cuts ≡ first rest
  first_skips left e = left ∙ ap (λ (b : Bool). first_of (cons_if b G (keep (meets s q) rest))) e

  pub first_ends : first cuts ≡ first (G ∷ rest) → meets s q G ≡ false → rest ≡ [] → AskedOf s q cuts false zeros
  first_ends left e end =
      let none : first cuts ≡ record { found = false; cut = zeros } = first_skips left e ∙ ap first end in
      record { found_is = sym (ap (λ (w : Witness). w.found) none); cut_is = sym (ap (λ (w : Witness). w.cut) none) }
