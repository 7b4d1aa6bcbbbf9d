-- What is printed of a store: the count of each interval, and the witness.
use Rattle.std.specs.Prelude.{ℕ, length}
use Rattle.model.specs.declared.Question.{Question}
use Rattle.model.specs.declared.Range.TheVariants.{Whole}
use Rattle.model.specs.Store.{Store}
use Rattle.model.specs.Cuts.{interval}
use Rattle.model.specs.Questions.{Witness, answer}

-- rule 46: the question is asked of all cuts
abbrev pub witness_of : Store → Question → Witness
witness_of s question = answer s (record { question = question; range = Whole })

-- the number of cuts of interval p
abbrev pub count_of : Store → ℕ → ℕ
count_of s p = length (interval s p)
