-- What the public calls answer: for each call one definition of its whole outcome.
use Rattle.std.specs.Prelude.{◌≡◌, ℕ, ◌≤◌, Bool, true, false, cond, not, List, Option, is_some, Result, Ok, Err, leb, ltb, eqb, length}
use Rattle.model.specs.declared.Record.{Record}
use Rattle.model.specs.declared.Cut.{Cut}
use Rattle.model.specs.declared.Refusal.{Refusal}
use Rattle.model.specs.declared.Range.{Range}
use Rattle.model.specs.declared.Range.TheVariants.{Interval, Whole}
use Rattle.model.specs.declared.Job.{Job}
use Rattle.model.specs.Lists.{zeros}
use Rattle.model.specs.Refusals.{number_of}
use Rattle.model.specs.Store.{Store, store_of, store_refusal}
use Rattle.model.specs.Follow.{tallies}
use Rattle.model.specs.Cuts.{interval}
use Rattle.model.specs.Questions.{answer}
pub use Rattle.questions.specs.Holdings.{question_fits}
pub use Rattle.walks.specs.Counting.{fits64}
pub use Rattle.walks.specs.Finding.{cut_found}

-- a record with clocks and order that make a sound store with some held values, which the cuts do not depend on
pub record SoundTrace (r : Record) (clocks order : List ℕ) : Type 0 where
  pub held : List ℕ
  pub none : store_refusal (store_of r clocks held order) ≡ 0

-- a position of the trace, 0 to T, and the tallies after it
pub record TalliedAt (r : Record) (order : List ℕ) (p : ℕ) (counts : List ℕ) : Type 0 where
  pub inside : p ≤ r.events
  pub counts_are : counts ≡ tallies order p

-- Counting: the refusal's number, 0 for none, and the count
pub record CountOutcome : Type 0 where
  pub refusal : ℕ
  pub count : ℕ

-- rule 51: a refusal comes with a count of 0
abbrev pub counted : Result ℕ Refusal → CountOutcome
counted (Ok count) = record { refusal = 0; count = count }
counted (Err why) = record { refusal = number_of why; count = 0 }

-- rules 32 and 53, of a sound store: 9, 11
abbrev pub count_in : Store → ℕ → CountOutcome
count_in s p =
    cond (ltb s.events p) (record { refusal = 9; count = 0 })
    (cond (fits64 (length (interval s p))) (record { refusal = 0; count = length (interval s p) })
    (record { refusal = 11; count = 0 }))

-- rules 51 and 53, of any store: 1, 2 and 3 come first, with a count of 0
abbrev pub counting : Store → ℕ → CountOutcome
counting s p = cond (eqb (store_refusal s) 0) (count_in s p) (record { refusal = store_refusal s; count = 0 })

-- Asking: the refusal's number, 0 for none; whether a cut was found; and the cut. With a refusal "none" is not said.
pub record AskOutcome : Type 0 where
  pub refusal : ℕ
  pub found : Bool
  pub cut : List ℕ

-- rule 51: a refusal finds no cut and gives zeros
abbrev pub refused_asking : ℕ → AskOutcome
refused_asking number = record { refusal = number; found = false; cut = zeros }

-- rules 36 and 51: zeros where no cut is found, and with a refusal
abbrev pub asked : Result (Option Cut) Refusal → AskOutcome
asked (Ok found) = record { refusal = 0; found = is_some found; cut = cut_found found }
asked (Err why) = refused_asking (number_of why)

-- rule 52, 9
abbrev pub range_known : Store → Range → Bool
range_known s (Interval p) = leb p.0 s.events
range_known s Whole = true

-- rules 36 and 53, of a sound store: 9, 13
abbrev pub ask_in : Store → Job → AskOutcome
ask_in s job =
    cond (not (range_known s job.range)) (refused_asking 9)
    (cond (not (question_fits s.tablets job.question)) (refused_asking 13)
    (record { refusal = 0; found = (answer s job).found; cut = (answer s job).cut }))

-- rule 53, of any store: 1, 2 and 3 come first
abbrev pub asking : Store → Job → AskOutcome
asking s job =
    cond (eqb (store_refusal s) 0) (ask_in s job) (refused_asking (store_refusal s))
