-- The answer to a question is the first cut that meets it, and "none" is said exactly when no cut does.
use mathlib.Core.Path.{◌≡◌, refl}
use mathlib.Core.Logic.{◌⊎◌, inl, inr, ⊎_elim}
use mathlib.Core.Bool.{true, false, true≢false, false≢true}
use mathlib.Core.List.Memᴰ
use mathlib.Core.List.{List, [], ◌∷◌, Memᴰ}
use Prim.Native.Nat.{ℕ}
use lib.Dec.{T}
use Rattle.model.specs.declared.Range.{Range}
use Rattle.model.specs.declared.Range.TheVariants.{Interval, Whole}
use Rattle.model.specs.declared.Job.{Job}
use Rattle.model.specs.Lists.{zeros, keep}
use Rattle.model.specs.Store.{Store, clocks_of, tallies_of}
use Rattle.model.specs.Cuts.{consistent, box, gmin, gbnd, interval, all_cuts, cuts_in}
use Rattle.model.specs.Lexical.{lex_before, Rising}
use Rattle.model.specs.Questions.{meets, first_of, answer}
use Rattle.model.proofs.Lists.{keep_from, keep_into}
use Rattle.model.proofs.Lexical.{keep_rising}
use Rattle.model.proofs.Box.{box_rising}
use Rattle.model.proofs.Ranges.{range_rising}

-- the cuts that a question is put to rise, so the first of them that meets it is the lexically first
pub interval_rising : (s : Store) (p : ℕ) → Rising (interval s p)
unfolding interval
interval_rising s p = range_rising (clocks_of s) (gmin s p) (gbnd s p)

pub all_rising : (s : Store) → Rising (all_cuts s)
unfolding all_cuts
all_rising s = keep_rising (consistent (clocks_of s) (tallies_of s)) (box (tallies_of s)) (box_rising (tallies_of s))

cuts_rising : (s : Store) (range : Range) → Rising (cuts_in s range)
cuts_rising s (Interval p) = interval_rising s p.0
cuts_rising s Whole = all_rising s

-- the first of a list
first_member : (Gs : List (List ℕ)) → (first_of Gs).found ≡ true → Memᴰ (first_of Gs).cut Gs
first_member [] e = absurd (false≢true e)
first_member (G ∷ Gs) e = Memᴰ.head refl

first_before : (Gs : List (List ℕ)) → Rising Gs → (H : List ℕ) → Memᴰ H Gs → (H ≡ (first_of Gs).cut) ⊎ T (lex_before (first_of Gs).cut H)
first_before [] r H m = absurd (Memᴰ.not-nil m)
first_before (G ∷ Gs) r H m = ⊎_elim inl (λ n. inr (r.0 H n)) (Memᴰ.cases_cons m)

first_none : (Gs : List (List ℕ)) → (first_of Gs).found ≡ false → ((first_of Gs).cut ≡ zeros) × ((H : List ℕ) → Memᴰ H Gs → ⊥)
first_none [] e = (refl, λ H m. Memᴰ.not-nil m)
first_none (G ∷ Gs) e = absurd (true≢false e)

-- a cut is found: it is one of those asked about, meets the question, and every other that does stands behind it
pub record FirstThatMeets (s : Store) (job : Job) (G : List ℕ) : Type 0 where
  pub among : Memᴰ G (cuts_in s job.range)
  pub meeting : T (meets s job.question G)
  pub first : (H : List ℕ) → Memᴰ H (cuts_in s job.range) → T (meets s job.question H) → (H ≡ G) ⊎ T (lex_before G H)

module _ (s : Store) (job : Job) where
  abbrev asked : List (List ℕ)
  asked = keep (meets s job.question) (cuts_in s job.range)

  pub answer_found_lem : (answer s job).found ≡ true → FirstThatMeets s job (answer s job).cut
  unfolding answer
  answer_found_lem e =
      let k = keep_from (meets s job.question) (cuts_in s job.range) (first_member asked e) in
      record {
        among = k.0;
        meeting = k.1;
        first = λ H m t. first_before asked (keep_rising (meets s job.question) (cuts_in s job.range) (cuts_rising s job.range)) H
            (keep_into (meets s job.question) (cuts_in s job.range) m t);
      }

  pub answer_none : (answer s job).found ≡ false → ((answer s job).cut ≡ zeros) × ((H : List ℕ) → Memᴰ H (cuts_in s job.range) → T (meets s job.question H) → ⊥)
  unfolding answer
  answer_none e =
      let n = first_none asked e in
      (n.0, λ H m t. n.1 H (keep_into (meets s job.question) (cuts_in s job.range) m t))
