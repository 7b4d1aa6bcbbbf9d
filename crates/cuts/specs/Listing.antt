-- Rules 28 to 30, listing.
use Rattle.std.specs.Prelude.{ℕ, Bool, false, cond, not, ◌&&◌, List, Result, Ok, Err, ltb, eqb, length, take}
use Rattle.model.specs.declared.Place.{Place}
use Rattle.model.specs.declared.Refusal.{Refusal}
use Rattle.model.specs.Lists.{zeros, keep}
use Rattle.model.specs.Refusals.{number_of}
use Rattle.model.specs.Clocks.{covered}
use Rattle.model.specs.Store.{Store, clocks_of, store_refusal}
use Rattle.model.specs.Cuts.{consistent, gmin, gbnd, interval}
use Rattle.model.specs.Lexical.{lex_before}
use Rattle.walks.specs.declared.showing.Listed.{Listed}
pub use Rattle.walks.specs.Showing.{flat, room, written, behind_all}
use Rattle.cuts.specs.declared.Moved.{Moved}

-- what is said of a listing; with a refusal nothing is
pub data Said : Type 0 where
  done more nothing : Said

-- the refusal's number, 0 for none; what is said; how many cuts were written; the place and the output at exit
pub record ListOutcome : Type 0 where
  pub refusal : ℕ
  pub said : Said
  pub count : ℕ
  pub place : Place
  pub output : List ℕ

-- rule 51: what a refusal leaves and gives
abbrev pub refused_listing : ℕ → Place → List ℕ → ListOutcome
refused_listing number place out = record { refusal = number; said = nothing; count = 0; place = place; output = out }

-- the place by value: the one that is returned. rule 51: with a refusal 0 are written, and the place is as it was, the one
-- given
abbrev pub listed : Place → Result Listed Refusal → List ℕ → ListOutcome
listed given (Ok r) output = record { refusal = 0; said = cond r.more more done; count = r.written; place = r.place; output = output }
listed given (Err why) output = refused_listing (number_of why) given output

-- the same where the place was lent: what it is at exit. rule 51: with a refusal 0 are written, and the place is as it was
abbrev pub moved : Result Moved Refusal → Place → List ℕ → ListOutcome
moved (Ok r) place output = record { refusal = 0; said = cond r.more more done; count = r.written; place = place; output = output }
moved (Err why) place output = refused_listing (number_of why) place output

-- rules 29 and 30: the outcome where some cuts are still to be listed
abbrev pub shown_from : List (List ℕ) → Place → List ℕ → ListOutcome
shown_from rest place out =
    record {
      refusal = 0;
      said = cond (ltb (room out) (length rest)) more done;
      count = length (take (room out) rest);
      place = behind_all place (take (room out) rest);
      output = written (take (room out) rest) out;
    }

-- rule 28: from the first cut, or behind the place's cut, which has to be one of them
abbrev pub list_of : List (List ℕ) → Bool → Place → List ℕ → ListOutcome
list_of cuts inside place out =
    cond place.begun
    (cond (not inside) (refused_listing 10 place out) (shown_from (keep (lex_before place.cut.counts) cuts) place out))
    (shown_from cuts place out)

-- rule 52, 10: the test of a begun place's cut
abbrev pub in_interval : Store → ℕ → List ℕ → Bool
in_interval s p G = covered (gmin s p) G && consistent (clocks_of s) (gbnd s p) G

-- rule 53, of a sound store: 9, 14, 10
abbrev pub list_in : Store → ℕ → Place → List ℕ → ListOutcome
list_in s p place out =
    cond (ltb s.events p) (refused_listing 9 place out)
    (cond (ltb (length out) 8) (refused_listing 14 place out)
    (list_of (interval s p) (in_interval s p place.cut.counts) place out))

-- rule 53, of any store: 1, 2 and 3 come first
abbrev pub listing : Store → ℕ → Place → List ℕ → ListOutcome
listing s p place out =
    cond (eqb (store_refusal s) 0) (list_in s p place out) (refused_listing (store_refusal s) place out)

-- a place not begun
abbrev pub fresh : Place
fresh = record { begun = false; cut = record { counts = zeros } }
