-- The ways through a listing, each as its outcome.
use mathlib.Core.Path.{◌≡◌, sym, ap, ap₂, ◌∙◌}
use mathlib.Core.Bool.{Bool, true, false, cond, not, ◌&&◌}
use mathlib.Core.List.{List, []}
use Prim.Native.Nat.{ℕ, ◌≤◌}
use native.Mathlib.Omega.{arith}
use borrow.Author.Tests.{le-ltb}
use lib.ListN.{length}
use lib.Seq.{take_all}
use Rattle.std.specs.Prelude.{Ok}
use Rattle.model.specs.declared.Place.{Place}
use Rattle.model.specs.Lists.{keep}
use Rattle.model.specs.Clocks.{clock_at, covered}
use Rattle.model.specs.Cuts.{consistent}
use Rattle.model.specs.Lexical.{lex_before}
use Rattle.std.proofs.lemmas.Float.{T_from_true}
use Rattle.model.proofs.Tests.{and_left, and_right}
use Rattle.model.proofs.Entries.{covered_at_most}
use Rattle.model.proofs.Ranges.{consistent_holds}
use Rattle.steps.specs.declared.walk.Walk.{Walk}
use Rattle.steps.specs.Walked.{Standing, walk_clocks, cuts_of}
use Rattle.walks.specs.Showing.{ShownOf}
use Rattle.cuts.specs.declared.sound.Sound.{Sound}
use Rattle.cuts.specs.Ranges.{with_held, IntervalWalk}
use Rattle.cuts.specs.Listing.{room, written, behind_all, done, more, ListOutcome, listed, refused_listing, shown_from, list_of, list_in}
use Rattle.cuts.proofs.Traces.{interval_walked}

-- the test of a cut against a walk's bounds
abbrev pub in_test : Walk → List ℕ → Bool
in_test w G = covered w.low.counts G && consistent (walk_clocks w) w.high.counts G

-- what was shown, told as an outcome
pub shown_listed : (shown rest : List (List ℕ)) (place : Place) (out : List ℕ) (count : ℕ) (after : Place) (later : Bool) (result : List ℕ) → ShownOf shown out count after later result → shown ≡ rest → listed place (Ok (record { written = count; place = after; more = later })) result ≡ shown_from rest place out
shown_listed shown rest place out count after later result told same =
    (λ i. record {
      refusal = 0;
      said = cond (told.more_is i) more done;
      count = told.count_is i;
      place = told.place_is place i;
      output = told.output_is i;
    })
    ∙ ap (λ (l : List (List ℕ)). shown_from l place out) same

-- nothing was left to show
pub none_listed : (rest : List (List ℕ)) (place : Place) (out : List ℕ) → rest ≡ [] → record { refusal = 0; said = done; count = 0; place = place; output = out } ≡ shown_from rest place out
none_listed rest place out none =
    sym
    (ap (λ (l : List (List ℕ)). shown_from l place out) none
    ∙ ap₂ (λ (b : Bool) (l : List (List ℕ)). outcome b l) (le-ltb (room out) 0 (omega arith)) (take_all (room out) [] (omega arith)))
  where
    outcome : Bool → List (List ℕ) → ListOutcome
    outcome b l = record { refusal = 0; said = cond b more done; count = length l; place = behind_all place l; output = written l out }

-- a cut that passes the test stands in the range
pub stand_inside : (w : Walk) (G : List ℕ) → length G ≡ 8 → in_test w G ≡ true → Standing w G
stand_inside w G long inside =
    let both = T_from_true (in_test w G) inside in
    record {
      long = long;
      least = covered_at_most w.low.counts G (and_left (covered w.low.counts G) (consistent (walk_clocks w) w.high.counts G) both);
      cut = consistent_holds (walk_clocks w) w.high.counts G (and_right (covered w.low.counts G) (consistent (walk_clocks w) w.high.counts G) both);
    }

module _ (cuts : List (List ℕ)) (inside : Bool) (place : Place) (out : List ℕ) (o : ListOutcome) where
  abbrev begun : ListOutcome
  begun = cond (not inside) (refused_listing 10 place out) (shown_from (keep (lex_before place.cut.counts) cuts) place out)

  pub list_outside : place.begun ≡ true → inside ≡ false → o ≡ refused_listing 10 place out → o ≡ list_of cuts inside place out
  list_outside started no_cut told =
      told ∙ sym (ap (λ (b : Bool). cond b begun (shown_from cuts place out)) started
      ∙ ap (λ (b : Bool). cond (not b) (refused_listing 10 place out) (shown_from (keep (lex_before place.cut.counts) cuts) place out)) no_cut)

  pub list_begun : place.begun ≡ true → inside ≡ true → o ≡ shown_from (keep (lex_before place.cut.counts) cuts) place out → o ≡ list_of cuts inside place out
  list_begun started a-cut told =
      told ∙ sym (ap (λ (b : Bool). cond b begun (shown_from cuts place out)) started
      ∙ ap (λ (b : Bool). cond (not b) (refused_listing 10 place out) (shown_from (keep (lex_before place.cut.counts) cuts) place out)) a-cut)

  pub list_fresh : place.begun ≡ false → o ≡ shown_from cuts place out → o ≡ list_of cuts inside place out
  list_fresh fresh told = told ∙ sym (ap (λ (b : Bool). cond b begun (shown_from cuts place out)) fresh)

-- the interval that was read is listed as the interval itself
pub list_within : (t : Sound) (p : ℕ) (w : Walk) (place : Place) (out held : List ℕ) → p ≤ t.«record».events → 8 ≤ length out → IntervalWalk t p w → list_of (cuts_of w) (in_test w place.cut.counts) place out ≡ list_in (with_held t held) p place out
list_within t p w place out held within fits walk =
    ap₂ (λ (c : List (List ℕ)) (b : Bool). list_of c b place out) (interval_walked t p w held walk)
    (λ i. covered (walk.low_is held i) place.cut.counts && consistent (clock_at (walk.clocks_are i)) (walk.high_is i) place.cut.counts)
    ∙ sym (simp (le-ltb t.«record».events p within, le-ltb (length out) 8 fits))
