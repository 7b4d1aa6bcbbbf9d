-- The ways through counting and asking, each as its outcome.
use mathlib.Core.Path.{◌≡◌, sym, ap, ap₂, ◌∙◌}
use mathlib.Core.Bool.{Bool, true, cond}
use mathlib.Core.List.{List}
use Prim.Native.Nat.{ℕ, ◌≤◌}
use borrow.Author.Tests.{le-ltb}
use lib.ListN.{length}
use Rattle.std.specs.Prelude.{Option, None, Some, is_some, Ok}
use Rattle.std.specs.Option.{unwrap_or, ok_or}
use Rattle.model.specs.declared.Cut.{Cut}
use Rattle.model.specs.declared.Job.{Job}
use Rattle.model.specs.declared.Refusal.TheVariants.{CountTooLarge}
use Rattle.model.specs.Lists.{keep}
use Rattle.model.specs.Store.{Store}
use Rattle.model.specs.Cuts.{cuts_in}
use Rattle.model.specs.Questions.{meets, first_of, answer}
use Rattle.steps.specs.declared.walk.Walk.{Walk}
use Rattle.steps.specs.Walked.{cuts_of}
use Rattle.walks.specs.Counting.{fits64, CountedTo}
use Rattle.walks.specs.Finding.{AskedOf, cut_found}
use Rattle.cuts.specs.declared.sound.Sound.{Sound}
use Rattle.cuts.specs.Outcomes.{CountOutcome, counted, count_in, AskOutcome, range_known, question_fits, asked, ask_in}
use Rattle.cuts.specs.Ranges.{with_held, IntervalWalk}
use Rattle.cuts.proofs.Traces.{interval_walked}

-- counting
abbrev count_of : List (List ℕ) → CountOutcome
count_of cuts = cond (fits64 (length cuts)) (record { refusal = 0; count = length cuts }) (record { refusal = 11; count = 0 })

read_count : (cuts : List (List ℕ)) (found : Option ℕ) → CountedTo cuts (is_some found) (unwrap_or found 0) → counted (ok_or found CountTooLarge) ≡ count_of cuts
read_count cuts None told = ap (λ (b : Bool). cond b (record { refusal = 0; count = length cuts }) (record { refusal = 11; count = 0 })) told.fits_is
read_count cuts (Some count) told =
    ap {B = CountOutcome} (λ (k : ℕ). record { refusal = 0; count = k }) (told.count_is ∙ sym (ap (λ (b : Bool). cond b (length cuts) 0) told.fits_is))
    ∙ ap (λ (b : Bool). cond b (record { refusal = 0; count = length cuts }) (record { refusal = 11; count = 0 })) told.fits_is

pub count_walked : (t : Sound) (p : ℕ) (w : Walk) (held : List ℕ) (found : Option ℕ) → p ≤ t.«record».events → IntervalWalk t p w → CountedTo (cuts_of w) (is_some found) (unwrap_or found 0) → counted (ok_or found CountTooLarge) ≡ count_in (with_held t held) p
count_walked t p w held found within walk told =
    read_count (cuts_of w) found told
    ∙ ap count_of (interval_walked t p w held walk)
    ∙ sym (simp (le-ltb t.«record».events p within))

-- asking
module _ (s : Store) (job : Job) (known : range_known s job.range ≡ true) where
  pub ask_answered : (cuts : List (List ℕ)) (found : Option Cut) → question_fits s.tablets job.question ≡ true → cuts ≡ cuts_in s job.range → AskedOf s job.question cuts (is_some found) (cut_found found) → asked (Ok found) ≡ ask_in s job
  unfolding answer
  ask_answered cuts found fits same told =
      ap₂ {C = AskOutcome} (λ (b : Bool) (G : List ℕ). record { refusal = 0; found = b; cut = G }) told.found_is told.cut_is
      ∙ ap {B = AskOutcome} (λ (l : List (List ℕ)). record { refusal = 0; found = (first_of (keep (meets s job.question) l)).found; cut = (first_of (keep (meets s job.question) l)).cut }) same
      ∙ sym (simp (known, fits))
