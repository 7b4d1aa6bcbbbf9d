-- What the calls on cuts give together, told of the outcomes `counting`, `listing` and `gathering`: the contracts of the calls
-- equate each call with these, so that it holds of the calls. `store_refusal s ≡ 0` says that the store is sound, `s.events` is T, `↔` that each
-- side implies the other, `List.Memᴰ G Gs` that G is in the list Gs.
use mathlib.Core.Path.{◌≡◌, refl, sym, ap, ◌∙◌, subst}
use mathlib.Core.Logic.{◌↔◌}
use mathlib.Core.Bool.{Bool, true, false, cond}
use mathlib.Core.List.{List, ◌∷◌, ◌++◌, Memᴰ}
use Prim.Native.Nat.{ℕ, suc, ◌-◌, ◌*◌, ◌≤◌}
use native.Mathlib.Omega.{arith}
use borrow.Author.Tests.{le-ltb, ltb-false}
use lib.Dec.{T, ltb}
use lib.ListN.{length, take, drop}
use lib.Seq.{take_all}
use Rattle.std.specs.Prelude.{Result, is_ok}
use Rattle.std.specs.Result.{result_unwrap_or}
use Rattle.model.specs.declared.Refusal.{Refusal}
use Rattle.model.specs.declared.Place.{Place}
use Rattle.model.specs.Lists.{sum_below}
use Rattle.model.specs.Store.{Store, store_refusal}
use Rattle.model.specs.Cuts.{interval, all_cuts, total}
use Rattle.model.proofs.Partition.{counts_add_up}
use Rattle.store.proofs.Ready.{tested_sound}
use Rattle.cuts.specs.Outcomes.{counted, counting}
use Rattle.cuts.specs.Listing.{flat, room, written, Said, done, more, nothing, ListOutcome, in_interval, listing}
use Rattle.cuts.specs.Gathering.{GatherOutcome, joined, gathered_from, gathering}
use Rattle.cuts.proofs.Members.{interval_long, interval_test}
use Rattle.demands.specs.Calls.{Listable, behind_place, front, wrote_all, last_says, Roomy, rooms, EachOnce}
use Rattle.demands.proofs.Going.{goes_on, all_written, last_says_lem}
use Rattle.demands.proofs.Gathered.{joined_none_twice, joined_is_all, joined_long, gathers, sums}
use Rattle.demands.proofs.Stopping.{stops}
pub use Rattle.demands.proofs.Prefix.{count_same, list_same, ask_same, gather_same}

-- Rule 25, of the calls: where no `count` of 0 to T refuses, the counts that the calls give add up to the number of
-- consistent cuts found by testing every vector up to the tallies.
pub counts_of_calls : (s : Store) → store_refusal s ≡ 0 → (c : ℕ → Result ℕ Refusal) → ((p : ℕ) → p ≤ s.events → counted (c p) ≡ counting s p) → ((p : ℕ) → p ≤ s.events → is_ok (c p) ≡ true) → sum_below (suc s.events) (λ p. result_unwrap_or (c p) 0) ≡ length (all_cuts s)
unfolding total
counts_of_calls s none c told passed =
    sums s none c told passed (suc s.events) (omega arith) ∙ counts_add_up s (tested_sound s none)

-- The cuts of an interval have eight entries each, and of eight entries the test of a begun place's cut holds exactly where
-- they are one of the interval's: refusal 10 is about the interval itself.
pub eight_entries : (s : Store) (p : ℕ) (G : List ℕ) → Memᴰ G (interval s p) → length G ≡ 8
eight_entries s p G m = interval_long s p G m

pub inside_is_member : (s : Store) (p : ℕ) (G : List ℕ) → length G ≡ 8 → T (in_interval s p G) ↔ Memᴰ G (interval s p)
inside_is_member s p G long = interval_test s p G long

-- what is said, told apart
abbrev says_more : Said → Type 0
says_more done = ⊥
says_more more = Unit {0}
says_more nothing = ⊥

more_not_done : more ≡ done → ⊥
more_not_done e = subst says_more e tt

-- Listing, of a sound store, at a position up to T, from a place not begun or at one of the interval's cuts, into outputs of 8
-- bytes or more.
module _ (s : Store) (none : store_refusal s ≡ 0) (p : ℕ) (within : p ≤ s.events) where
  -- A second call from the place that the first left writes exactly what comes next.
  pub list_goes_on : (place : Place) → Listable s p place → (out next : List ℕ) → 8 ≤ length out → 8 ≤ length next → front (listing s p (listing s p place out).place next) ≡ flat (take (room next) (drop (room out) (behind_place s p place)))
  list_goes_on place ok out next fits fits_next =
      let g = goes_on s p none within place ok out fits in
      (goes_on s p none within (listing s p place out).place g.again next fits_next).wrote
      ∙ ap (λ (l : List (List ℕ)). flat (take (room next) l)) g.left

  -- Calls one after the other write what stands behind the place in order, as many as there is room for ..
  pub lists_in_order : (place : Place) → Listable s p place → (outs : List (List ℕ)) → Roomy outs → wrote_all s p place outs ≡ flat (take (rooms outs) (behind_place s p place))
  lists_in_order place ok outs fit = all_written s p none within outs fit place ok

  -- .. and the last of them says "done" exactly where there was room for all: they are then written once each.
  pub done_when_all : (place : Place) → Listable s p place → (out : List ℕ) (outs : List (List ℕ)) → Roomy (out ∷ outs) → last_says s p place out outs ≡ cond (ltb (rooms (out ∷ outs)) (length (behind_place s p place))) more done
  done_when_all place ok out outs fit = last_says_lem s p none within outs out fit place ok

  pub lists_all : (place : Place) → Listable s p place → (out : List ℕ) (outs : List (List ℕ)) → Roomy (out ∷ outs) → last_says s p place out outs ≡ done → wrote_all s p place (out ∷ outs) ≡ flat (behind_place s p place)
  lists_all place ok out outs fit said =
      lists_in_order place ok (out ∷ outs) fit
      ∙ ap flat (take_all (rooms (out ∷ outs)) rest (enough (ltb (rooms (out ∷ outs)) (length rest)) refl))
    where
      rest : List (List ℕ)
      rest = behind_place s p place

      enough : (b : Bool) → ltb (rooms (out ∷ outs)) (length rest) ≡ b → length rest ≤ rooms (out ∷ outs)
      enough true e = absurd (more_not_done (sym (done_when_all place ok out outs fit ∙ ap (λ (c : Bool). cond c more done) e) ∙ said))
      enough false e = ltb-false (rooms (out ∷ outs)) (length rest) e

-- Where a gathering stopped: at one of its positions, at a begun place there, and what is left of all its cuts is what stands
-- behind that place and the cuts of the later intervals.
pub record StoppedAt (s : Store) (first last : ℕ) (out : List ℕ) (o : GatherOutcome) : Type 0 where
  pub from : first ≤ o.position
  pub to : o.position ≤ last
  pub begun : o.listing.place.begun ≡ true
  pub listable : Listable s o.position o.listing.place
  pub left : drop (room out) (joined s first (suc (last - first))) ≡ behind_place s o.position o.listing.place ++ joined s (suc o.position) (last - o.position)

pub gather_stops : (s : Store) → store_refusal s ≡ 0 → (first last : ℕ) → first ≤ last → last ≤ s.events → (out : List ℕ) → 8 ≤ length out → StoppedAt s first last out (gathering s first last out)
gather_stops s none first last rising within out fits =
    let e = gathers s none first last rising within out fits in
    let t = stops s none first last rising within out fits in
    record {
      from = subst (λ (o : GatherOutcome). first ≤ o.position) (sym e) t.from;
      to = subst (λ (o : GatherOutcome). o.position ≤ last) (sym e) t.to;
      begun = ap (λ (o : GatherOutcome). o.listing.place.begun) e ∙ t.begun;
      listable = subst (λ (o : GatherOutcome). Listable s o.position o.listing.place) (sym e) t.listable;
      left = t.left ∙ sym (ap (λ (o : GatherOutcome). behind_place s o.position o.listing.place ++ joined s (suc o.position) (last - o.position)) e);
    }

-- Gathering from 0 to T with room enough writes each consistent cut of the trace exactly once: what is written is the list of
-- the joined intervals, which has the consistent cuts and no other, and none twice.
module _ (s : Store) (none : store_refusal s ≡ 0) (out : List ℕ) (fits : 8 ≤ length out) (room-for-all : 8 * length (all_cuts s) ≤ length out) where
  abbrev every : List (List ℕ)
  every = joined s 0 (suc s.events)

  pub gathers_all : ((gathering s 0 s.events out).listing.refusal ≡ 0) × ((gathering s 0 s.events out).listing.said ≡ done) × ((gathering s 0 s.events out).listing.count ≡ length (all_cuts s)) × ((gathering s 0 s.events out).listing.output ≡ written every out) × EachOnce s every
  gathers_all =
      let zeroth : s.events - 0 ≡ s.events = omega arith in
      let snd = tested_sound s none in
      let long = joined_long s snd in
      let o = ap (λ (g : GatherOutcome). g.listing) (gathers s none 0 s.events (omega arith) (omega arith) out fits ∙ ap (λ (m : ℕ). gathered_from s 0 m out) zeroth) in
      let whole : take (room out) every ≡ every = take_all (room out) every (omega (arith, long)) in (
        ap (λ (l : ListOutcome). l.refusal) o,
        ap (λ (l : ListOutcome). l.said) o ∙ ap (λ (b : Bool). cond b more done) (le-ltb (room out) (length every) (omega (arith, long))),
        ap (λ (l : ListOutcome). l.count) o ∙ ap length whole ∙ long,
        ap (λ (l : ListOutcome). l.output) o ∙ ap (λ (l : List (List ℕ)). written l out) whole,
        record { members = joined_is_all s snd; none_twice = joined_none_twice s snd (suc s.events) (omega arith) },
      )
