-- No second outcome satisfies a contract: answers, counts, cuts, places and outputs are fixed by what the calls promise.
use mathlib.Core.Path.{◌≡◌, refl, sym, ap, ◌∙◌}
use mathlib.Core.Bool.{Bool, true, false, cond}
use mathlib.Core.List.{List}
use Prim.Native.Nat.{ℕ}
use Rattle.std.specs.Prelude.{Option, Result, Ok, Err}
use Rattle.model.specs.declared.Cut.{Cut}
use Rattle.model.specs.declared.Refusal.{Refusal}
use Rattle.model.specs.declared.Place.{Place}
use Rattle.model.specs.declared.Job.{Job}
use Rattle.model.specs.Refusals.{verdict_number}
use Rattle.model.specs.Store.{Store}
use Rattle.model.proofs.Refusals.{answer_unique}
use Rattle.walks.specs.declared.showing.Listed.{Listed}
use Rattle.walks.proofs.Unique.{same_answer}
use Rattle.cuts.specs.declared.Moved.{Moved}
use Rattle.cuts.specs.declared.Gathered.{Gathered}
use Rattle.cuts.specs.Outcomes.{CountOutcome, counted, count_in, counting, AskOutcome, cut_found, asked, ask_in, asking}
use Rattle.cuts.specs.Listing.{Said, done, more, nothing, ListOutcome, listed, moved, listing}
use Rattle.cuts.specs.Gathering.{GatherOutcome, gathered, gathering}

-- an outcome tells its answer where it gives the refusal's number and, where nothing is refused, tells what the answer gives
module _ {A O : Type 0} (number : O → ℕ) (one two : Result A Refusal → O) (first : (v : Result A Refusal) → number (one v) ≡ verdict_number v) (second : (v : Result A Refusal) → number (two v) ≡ verdict_number v) (tells : (x y : A) → one (Ok x) ≡ two (Ok y) → x ≡ y) where
  told_unique : (v w : Result A Refusal) → one v ≡ two w → v ≡ w
  told_unique v w same =
      answer_unique v w (sym (first v) ∙ ap number same ∙ second w) (λ x y p q. tells x y (ap one (sym p) ∙ same ∙ ap two q))

-- counting
count_number : (c : Result ℕ Refusal) → (counted c).refusal ≡ verdict_number c
count_number (Ok n) = refl
count_number (Err why) = refl

counted_unique : (c d : Result ℕ Refusal) → counted c ≡ counted d → c ≡ d
counted_unique = told_unique (λ (o : CountOutcome). o.refusal) counted counted count_number count_number (λ m n same. ap (λ (o : CountOutcome). o.count) same)

pub count_unique : (s : Store) (p : ℕ) (c d : Result ℕ Refusal) → counted c ≡ counting s p → counted d ≡ counting s p → c ≡ d
count_unique s p c d m n = counted_unique c d (m ∙ sym n)

pub count_interval_unique : (s : Store) (p : ℕ) (c d : Result ℕ Refusal) → counted c ≡ count_in s p → counted d ≡ count_in s p → c ≡ d
count_interval_unique s p c d m n = counted_unique c d (m ∙ sym n)

pub count_interval_with_unique : (s : Store) (p : ℕ) (c d : Result ℕ Refusal) → counted c ≡ count_in s p → counted d ≡ count_in s p → c ≡ d
count_interval_with_unique = count_interval_unique

-- asking: an answer is told by its number, whether a cut was found, and the cut
ask_number : (a : Result (Option Cut) Refusal) → (asked a).refusal ≡ verdict_number a
ask_number (Ok found) = refl
ask_number (Err why) = refl

asked_unique : (a b : Result (Option Cut) Refusal) → asked a ≡ asked b → a ≡ b
asked_unique =
    told_unique (λ (o : AskOutcome). o.refusal) asked asked ask_number ask_number
    (λ x y same. same_answer cut_found (λ (c d : Cut) e. λ i. record { counts = e i }) x y (ap (λ (o : AskOutcome). o.found) same) (ap (λ (o : AskOutcome). o.cut) same))

pub ask_unique : (s : Store) (job : Job) (a b : Result (Option Cut) Refusal) → asked a ≡ asking s job → asked b ≡ asking s job → a ≡ b
ask_unique s job a b m n = asked_unique a b (m ∙ sym n)

pub answer_job_unique : (s : Store) (job : Job) (a b : Result (Option Cut) Refusal) → asked a ≡ ask_in s job → asked b ≡ ask_in s job → a ≡ b
answer_job_unique s job a b m n = asked_unique a b (m ∙ sym n)

-- listing: what is said tells whether more is left
abbrev spoken : Said → Bool
spoken done = false
spoken more = true
spoken nothing = false

said_unique : (a b : Bool) → cond a more done ≡ cond b more done → a ≡ b
said_unique true true e = refl
said_unique true false e = ap spoken e
said_unique false true e = ap spoken e
said_unique false false e = refl

list_number : (place : Place) (out : List ℕ) (r : Result Listed Refusal) → (listed place r out).refusal ≡ verdict_number r
list_number place out (Ok r) = refl
list_number place out (Err why) = refl

list_output : (place : Place) (out : List ℕ) (r : Result Listed Refusal) → (listed place r out).output ≡ out
list_output place out (Ok r) = refl
list_output place out (Err why) = refl

pub list_unique : (s : Store) (p : ℕ) (place : Place) (out : List ℕ) (a b : Result Listed Refusal) (first second : List ℕ) → listed place a first ≡ listing s p place out → listed place b second ≡ listing s p place out → (a ≡ b) × (first ≡ second)
list_unique s p place out a b first second m n =
    let same : listed place a first ≡ listed place b second = m ∙ sym n in (
      told_unique (λ (o : ListOutcome). o.refusal) (λ r. listed place r first) (λ r. listed place r second) (list_number place first) (list_number place second)
          (λ x y e. λ i. record {
            written = ap (λ (o : ListOutcome). o.count) e i;
            place = ap (λ (o : ListOutcome). o.place) e i;
            more = said_unique x.more y.more (ap (λ (o : ListOutcome). o.said) e) i;
          }) a b same,
      sym (list_output place first a) ∙ ap (λ (o : ListOutcome). o.output) same ∙ list_output place second b,
    )

move_number : (place : Place) (out : List ℕ) (r : Result Moved Refusal) → (moved r place out).refusal ≡ verdict_number r
move_number place out (Ok r) = refl
move_number place out (Err why) = refl

move_place : (place : Place) (out : List ℕ) (r : Result Moved Refusal) → ((moved r place out).place ≡ place) × ((moved r place out).output ≡ out)
move_place place out (Ok r) = (refl, refl)
move_place place out (Err why) = (refl, refl)

pub list_moving_unique : (s : Store) (p : ℕ) (place : Place) (out : List ℕ) (a b : Result Moved Refusal) (after behind : Place) (first second : List ℕ) → moved a after first ≡ listing s p place out → moved b behind second ≡ listing s p place out → (a ≡ b) × (after ≡ behind) × (first ≡ second)
list_moving_unique s p place out a b after behind first second m n =
    let same : moved a after first ≡ moved b behind second = m ∙ sym n in
    let one = move_place after first a in
    let two = move_place behind second b in (
      told_unique (λ (o : ListOutcome). o.refusal) (λ r. moved r after first) (λ r. moved r behind second) (move_number after first) (move_number behind second)
          (λ x y e. λ i. record { written = ap (λ (o : ListOutcome). o.count) e i; more = said_unique x.more y.more (ap (λ (o : ListOutcome). o.said) e) i }) a b same,
      sym one.0 ∙ ap (λ (o : ListOutcome). o.place) same ∙ two.0,
      sym one.1 ∙ ap (λ (o : ListOutcome). o.output) same ∙ two.1,
    )

gather_number : (out : List ℕ) (r : Result Gathered Refusal) → (gathered r out).listing.refusal ≡ verdict_number r
gather_number out (Ok r) = refl
gather_number out (Err why) = refl

gather_output : (out : List ℕ) (r : Result Gathered Refusal) → (gathered r out).listing.output ≡ out
gather_output out (Ok r) = refl
gather_output out (Err why) = refl

pub gather_unique : (s : Store) (first last : ℕ) (out : List ℕ) (a b : Result Gathered Refusal) (one two : List ℕ) → gathered a one ≡ gathering s first last out → gathered b two ≡ gathering s first last out → (a ≡ b) × (one ≡ two)
gather_unique s first last out a b one two m n =
    let same : gathered a one ≡ gathered b two = m ∙ sym n in (
      told_unique (λ (o : GatherOutcome). o.listing.refusal) (λ r. gathered r one) (λ r. gathered r two) (gather_number one) (gather_number two)
          (λ x y e. λ i. record {
            written = ap (λ (o : GatherOutcome). o.listing.count) e i;
            more = said_unique x.more y.more (ap (λ (o : GatherOutcome). o.listing.said) e) i;
            position = record { 0 = ap (λ (o : GatherOutcome). o.position) e i };
            place = ap (λ (o : GatherOutcome). o.listing.place) e i;
          }) a b same,
      sym (gather_output one a) ∙ ap (λ (o : GatherOutcome). o.listing.output) same ∙ gather_output two b,
    )
