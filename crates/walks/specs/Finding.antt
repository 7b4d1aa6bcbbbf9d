-- Rule 36 as the code meets it.
use Rattle.std.specs.Prelude.{◌≡◌, ℕ, Bool, List, Option, None, Some}
use Rattle.model.specs.declared.Cut.{Cut}
use Rattle.model.specs.declared.Question.{Question}
use Rattle.model.specs.Lists.{zeros, keep}
use Rattle.model.specs.Store.{Store}
use Rattle.model.specs.Questions.{meets, first_of}

-- rule 36: the cut that was found, and zeros where there is none
abbrev pub cut_found : Option Cut → List ℕ
cut_found None = zeros
cut_found (Some cut) = cut.counts

-- the first cut of a list that meets a question, or none
pub record AskedOf (s : Store) (question : Question) (cuts : List (List ℕ)) (found : Bool) (cut : List ℕ) : Type 0 where
  pub found_is : found ≡ (first_of (keep (meets s question) cuts)).found
  pub cut_is : cut ≡ (first_of (keep (meets s question) cuts)).cut
