-- Walking a range: it begins at its least cut, and each step gives what stands behind a cut, or the end.
use mathlib.Core.Path.{◌≡◌, refl, sym, ap, ◌∙◌, subst}
use mathlib.Core.Bool.{Bool, true, false, cond, false≢true}
use mathlib.Core.List.{List, [], ◌∷◌, Memᴰ}
use mathlib.Core.Option.{Option, none, some}
use Prim.Native.Nat.{ℕ}
use Rattle.model.specs.Lists.{keep}
use Rattle.model.specs.Clocks.{clock_at}
use Rattle.model.specs.Cuts.{cuts_between}
use Rattle.model.specs.Lexical.{lex_before}
use Rattle.model.specs.Ranges.{InRange}
use Rattle.model.specs.Step.{step, following}
use Rattle.model.proofs.Entries.{at_most_refl}
use Rattle.model.proofs.Lists.{keep_from}
use Rattle.model.proofs.Ranges.{range_from}
use Rattle.model.proofs.Step.{step_next, range_first}
use Rattle.steps.specs.Walk.{Span, Stepped, stepped, next_after}

abbrev pub walked : List ℕ → List ℕ → List ℕ → List (List ℕ)
walked clocks low high = cuts_between (clock_at clocks) low high

-- what is left from a cut on: the cut and what stands behind it
abbrev pub from_cut_lem : List (List ℕ) → List ℕ → List (List ℕ)
from_cut_lem cuts G = G ∷ keep (lex_before G) cuts

module _ {n : ℕ} {clocks low high : List ℕ} (span : Span n clocks low high) where
  pub walk_begins : InRange (clock_at clocks) low high low
  walk_begins = record { long = span.long; least = at_most_refl low; cut = span.bounds.bottom }

  pub all_from_first : walked clocks low high ≡ from_cut_lem (walked clocks low high) low
  all_from_first = range_first (clock_at clocks) low high span.bounds span.long

  -- one step from a cut of the range
  module _ {G : List ℕ} (stand : InRange (clock_at clocks) low high G) {found : Bool} {H : List ℕ} (told : stepped found H ≡ next_after G (step (clock_at clocks) low high G)) where
    pub walk_behind : keep (lex_before G) (walked clocks low high) ≡ cond found (from_cut_lem (walked clocks low high) H) []
    walk_behind =
        step_next (clock_at clocks) low high span.bounds G stand
        ∙ shape (step (clock_at clocks) low high G)
        ∙ ap (λ (x : Stepped). cond x.found (from_cut_lem (walked clocks low high) x.counts) []) (sym told)
      where
        shape : (o : Option (List ℕ)) → following (walked clocks low high) o ≡ cond (next_after G o).found (from_cut_lem (walked clocks low high) (next_after G o).counts) []
        shape none = refl
        shape (some J) = refl

    pub walk_ends : found ≡ false → keep (lex_before G) (walked clocks low high) ≡ []
    walk_ends e = walk_behind ∙ ap (λ (b : Bool). cond b (from_cut_lem (walked clocks low high) H) []) e

    -- the counts then are as they were
    pub walk_stays : found ≡ false → H ≡ G
    walk_stays e = kept (step (clock_at clocks) low high G) told
      where
        kept : (o : Option (List ℕ)) → stepped found H ≡ next_after G o → H ≡ G
        kept none t = ap (λ (x : Stepped). x.counts) t
        kept (some J) t = absurd (false≢true (sym e ∙ ap (λ (x : Stepped). x.found) t))

    pub walk_goes_on : found ≡ true → keep (lex_before G) (walked clocks low high) ≡ from_cut_lem (walked clocks low high) H
    walk_goes_on e = walk_behind ∙ ap (λ (b : Bool). cond b (from_cut_lem (walked clocks low high) H) []) e

    pub walk_stands : found ≡ true → InRange (clock_at clocks) low high H
    walk_stands e =
        let member : Memᴰ H (keep (lex_before G) (walked clocks low high)) = subst (Memᴰ H) (sym (walk_goes_on e)) (mathlib.Core.List.Memᴰ.head refl) in
        range_from (clock_at clocks) low high span.bounds.long H (keep_from (lex_before G) (walked clocks low high) member).0
