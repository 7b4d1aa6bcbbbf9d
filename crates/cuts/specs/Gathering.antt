-- Rule 31, gathering: interval after interval, each listed behind the cuts already written.
use Rattle.std.specs.Prelude.{ℕ, zero, suc, ◌+◌, ◌-◌, ◌≤◌, cond, List, [], ◌++◌, Result, Ok, Err, ltb, eqb, length, take}
use Rattle.model.specs.declared.Refusal.{Refusal}
use Rattle.model.specs.Refusals.{number_of}
use Rattle.model.specs.Store.{Store, store_refusal}
use Rattle.model.specs.Cuts.{interval}
use Rattle.cuts.specs.declared.Gathered.{Gathered}
use Rattle.cuts.specs.Listing.{room, done, more, ListOutcome, refused_listing, shown_from, fresh}

-- what a listing says, and the position of the interval where it stopped
pub record GatherOutcome : Type 0 where
  pub listing : ListOutcome
  pub position : ℕ

-- rule 51, a refusal: nothing is said or written, counts are 0, the position too, and the place is not begun
abbrev pub refused_gathering : ℕ → List ℕ → GatherOutcome
refused_gathering number out = record { listing = refused_listing number fresh out; position = 0 }

-- rule 51: a refusal comes with position 0 and a place not begun
abbrev pub gathered : Result Gathered Refusal → List ℕ → GatherOutcome
gathered (Ok r) output =
    record {
      listing = record { refusal = 0; said = cond r.more more done; count = r.written; place = r.place; output = output };
      position = r.position.0;
    }
gathered (Err why) output = refused_gathering (number_of why) output

-- rule 31: the cuts of k intervals from the first on, one interval behind the other
abbrev pub joined : Store → ℕ → ℕ → List (List ℕ)
joined s first zero = []
joined s first (suc k) = joined s first k ++ interval s (first + k)

-- the position of the interval that has the w-th of them, where k intervals stand behind the first one: the last that has
-- fewer than w cuts before it
abbrev pub stands_in : Store → ℕ → ℕ → ℕ → ℕ
stands_in s first zero w = first
stands_in s first (suc k) w = cond (ltb (length (joined s first (suc k))) w) (first + suc k) (stands_in s first k w)

-- rules 29 to 31: all cuts from the first position to the last, k positions behind the first, as many as fit, as one listing
-- of them; where it stopped is the place behind the last cut written, in that cut's interval
abbrev pub gathered_from : Store → ℕ → ℕ → List ℕ → GatherOutcome
gathered_from s first k out =
    record {
      listing = shown_from (joined s first (suc k)) fresh out;
      position = stands_in s first k (length (take (room out) (joined s first (suc k))));
    }

-- rule 53, of a sound store: 9 for a last position above T or below the first, then 14
abbrev pub gather_in : Store → ℕ → ℕ → List ℕ → GatherOutcome
gather_in s first last out =
    cond (ltb s.events last) (refused_gathering 9 out)
    (cond (ltb last first) (refused_gathering 9 out)
    (cond (ltb (length out) 8) (refused_gathering 14 out) (gathered_from s first (last - first) out)))

-- rule 53, of any store: 1, 2 and 3 come first
abbrev pub gathering : Store → ℕ → ℕ → List ℕ → GatherOutcome
gathering s first last out =
    cond (eqb (store_refusal s) 0) (gather_in s first last out) (refused_gathering (store_refusal s) out)

-- what the loop over the intervals may assume: positions that 9 does not refuse, an output that 14 does not
pub record GatherReady (events first last : ℕ) (out : List ℕ) : Type 0 where
  pub rising : first ≤ last
  pub within : last ≤ events
  pub room_left : 8 ≤ length out
