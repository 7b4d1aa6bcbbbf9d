-- Rules 33 and 34 as the code meets them: what is read of a store for a question is its held values alone.
use Rattle.std.specs.Prelude.{◌≡◌, ℕ, Bool, true, cond, List, leb}
use Rattle.model.specs.declared.Question.{Question}
use Rattle.model.specs.declared.Question.TheVariants.{AtLeast, Exactly, All}
use Rattle.model.specs.Lists.{all_below}
use Rattle.model.specs.Store.{Store}
use Rattle.model.specs.Questions.{holding, names, set_fits}

-- of every store that has these held values
abbrev pub ForHeld : List ℕ → (Store → Type 0) → Type 0
ForHeld held fact = (s : Store) → s.held ≡ held → fact s

-- rule 34: each tablet of a set holds 1 or more
abbrev pub each_named : Store → ℕ → List ℕ → Bool
each_named s mask G = all_below 8 (λ j. cond (names mask j) (leb 1 (holding s G j)) true)

-- rule 52, 13: only a set can be refused
abbrev pub question_fits : ℕ → Question → Bool
question_fits n (AtLeast k) = true
question_fits n (Exactly k) = true
question_fits n (All mask) = set_fits n mask
