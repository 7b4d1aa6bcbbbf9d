-- What a question asks of a cut, and its answer.
use Rattle.std.specs.Prelude.{ℕ, zero, suc, ◌/◌, ◌%◌, Bool, true, false, cond, ◌&&◌, List, [], ◌∷◌, leb, ltb, eqb}
use Rattle.model.specs.declared.Question.{Question}
use Rattle.model.specs.declared.Question.TheVariants.{AtLeast, Exactly, All}
use Rattle.model.specs.declared.Job.{Job}
use Rattle.model.specs.Lists.{at, zeros, all_below, sum_below, keep}
use Rattle.model.specs.Store.{Store, held_of}
use Rattle.model.specs.Cuts.{cuts_in}

-- rule 33: what the tablet in column j holds at a cut
unfoldable pub holding : Store → List ℕ → ℕ → ℕ
holding s G j = cond (eqb (at G j) 0) 0 (held_of s (record { column = j; number = at G j }))

unfoldable pub sum_held : Store → List ℕ → ℕ
sum_held s G = sum_below 8 (holding s G)

-- the mask names tablet 1 by its lowest bit, and so on
abbrev pub names : ℕ → ℕ → Bool
names mask zero = eqb (mask % 2) 1
names mask (suc j) = names (mask / 2) j

-- rule 34: the three questions, of one cut
unfoldable pub meets : Store → Question → List ℕ → Bool
meets s (AtLeast k) G = leb k (sum_held s G)
meets s (Exactly k) G = eqb (sum_held s G) k
meets s (All mask) G = all_below 8 (λ j. cond (names mask j) (leb 1 (holding s G j)) true)

-- rule 36: a cut that was found, or none, and then zeros
pub record Witness : Type 0 where
  pub found : Bool
  pub cut : List ℕ

abbrev pub first_of : List (List ℕ) → Witness
first_of [] = record { found = false; cut = zeros }
first_of (G ∷ rest) = record { found = true; cut = G }

-- rule 52, 13: a set that can be asked of n tablets
unfoldable pub set_fits : ℕ → ℕ → Bool
set_fits n mask = leb 1 mask && all_below 8 (λ j. cond (names mask j) (ltb j n) true)

-- rules 35 and 36: the first cut of the job's range that meets its question. Read only where neither 9 nor 13 applies.
unfoldable pub answer : Store → Job → Witness
answer s job = first_of (keep (meets s job.question) (cuts_in s job.range))
