-- What the store test establishes.
use Rattle.std.specs.Prelude.{◌≡◌, ℕ, List, Option, Result, is_some, IfSome, IfOk}
use Rattle.model.specs.declared.Refusal.{Refusal}
use Rattle.model.specs.Refusals.{verdict_number}
use Rattle.model.specs.Clocks.{clock_at}
use Rattle.model.specs.Follow.{tallies, follow_to}
use Rattle.model.specs.Store.{Store, tallies_of, store_refusal}

-- the events were followed to the end, or not; where they were, what is given are the tallies after them
pub record Followed (n : ℕ) (clocks order : List ℕ) (events : ℕ) (given : Option (List ℕ)) : Type 0 where
  pub answer : is_some given ≡ follow_to n (clock_at clocks) order events
  pub tally : IfSome given (λ counts. counts ≡ tallies order events)

-- the verdict on a store; where it passed, what is given are its tallies
pub record StoreTested (s : Store) (given : Result (List ℕ) Refusal) : Type 0 where
  pub number : verdict_number given ≡ store_refusal s
  pub tally : IfOk given (λ counts. counts ≡ tallies_of s)
