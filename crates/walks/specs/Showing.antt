-- Rules 29 and 30, as far as they are about the cuts that are written.
use Rattle.std.specs.Prelude.{◌≡◌, ℕ, ◌*◌, ◌/◌, Bool, true, List, [], ◌∷◌, ◌++◌, ltb, length, take, drop}
use Rattle.model.specs.declared.Place.{Place}
use Rattle.model.specs.Lists.{keep}
use Rattle.model.specs.Lexical.{lex_before}

-- a cut and all that stand behind it
abbrev pub from_cut : List (List ℕ) → List ℕ → List (List ℕ)
from_cut cuts G = G ∷ keep (lex_before G) cuts

-- rule 29: cuts as bytes, and how many fit whole
abbrev pub flat : List (List ℕ) → List ℕ
flat [] = []
flat (G ∷ Gs) = G ++ flat Gs

abbrev pub room : List ℕ → ℕ
room out = length out / 8

-- rule 29: what was shown, and behind it the output as it was
abbrev pub written : List (List ℕ) → List ℕ → List ℕ
written shown out = flat shown ++ drop (8 * length shown) out

-- rule 30: the place behind the last of some cuts; the place before where there is none
abbrev pub place_behind : List ℕ → Place
place_behind G = record { begun = true; cut = record { counts = G } }

abbrev pub behind_all : Place → List (List ℕ) → Place
behind_all place [] = place
behind_all place (G ∷ Gs) = behind_all (place_behind G) Gs

-- rules 29 and 30: as many as there are and fit. The place does not depend on the one before, since a cut is written.
pub record ShownOf (cuts : List (List ℕ)) (out : List ℕ) (count : ℕ) (after : Place) (more : Bool) (result : List ℕ) : Type 0 where
  pub count_is : count ≡ length (take (room out) cuts)
  pub place_is : (before : Place) → after ≡ behind_all before (take (room out) cuts)
  pub more_is : more ≡ ltb (room out) (length cuts)
  pub output_is : result ≡ written (take (room out) cuts) out
