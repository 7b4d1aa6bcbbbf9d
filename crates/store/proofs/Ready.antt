-- What a writer may go by: a store that passed its test and an event that may follow have room for it, and what the code
-- writes is the accepted store.
use mathlib.Core.Path.{◌≡◌, sym, ap, ◌∙◌}
use mathlib.Core.Bool.{true, not}
use mathlib.Core.List.{List}
use Prim.Native.Nat.{ℕ, suc, ◌+◌, ◌*◌, ◌≤◌, ◌<◌}
use native.Mathlib.Omega.{arith}
use borrow.Author.Tests.{not-false}
use lib.ListN.{get_or, set}
use lib.Seq.{sets, get_or-set_same, get_or-set_other}
use Rattle.model.specs.declared.Event.{Event}
use Rattle.model.specs.Lists.{at}
use Rattle.model.specs.Numbers.{tablets_fit, slot, column}
use Rattle.model.specs.Follow.{tally, tallies}
use Rattle.model.specs.Store.{Store, record_of, clocks_of, tallies_of, full_size, valid, record_refusal, store_refusal, accepted, event_refusal}
use Rattle.std.proofs.lemmas.Float.{T_from_true}
use Rattle.model.proofs.Follow.{Follows, may_follow_lem, passes, or_else_none}
use Rattle.model.proofs.Causal.{event}
use Rattle.model.proofs.Valid.{at_tallies}
use Rattle.model.proofs.Total.{tally_bounded, room_left}
use Rattle.model.proofs.Slots.{slot_below}
use Rattle.model.proofs.Sound.{Sound, sound, Full, full_sizes_lem}
use Rattle.model.proofs.Agree.{tallies_same}
use Rattle.store.specs.Outcomes.{WriteReady, Stored}
use Rattle.store.specs.Room.{Room}
use Rattle.store.proofs.Laws.{tallies_raised}
use Rattle.store.proofs.Verdicts.{record_fits}

-- a store that no test refuses is sound and of full size
module _ (s : Store) (none : store_refusal s ≡ 0) where
  links : (tablets_fit s.tablets ≡ true) × (full_size s ≡ true) × (valid s ≡ true)
  unfolding store_refusal
  links =
      let groups = or_else_none (record_refusal (record_of s)) _ none in
      let p2 = passes (not (full_size s)) 2 _ (omega arith) groups.1 in
      let p3 = passes (not (valid s)) 3 0 (omega arith) p2.1 in
      (record_fits (record_of s) groups.0, not-false (full_size s) p2.0, not-false (valid s) p3.0)

  pub tested_sound : Sound s
  tested_sound = sound s (T_from_true (tablets_fit s.tablets) links.0) (T_from_true (valid s) links.2)

  pub tested_full : Full s
  tested_full = full_sizes_lem s (T_from_true (full_size s) links.1)

  -- no tally is above 254
  pub tested_bounded : (j : ℕ) → j < 8 → at (tallies_of s) j ≤ 254
  tested_bounded j h =
      omega (arith, at_tallies s.order s.events j h, tally_bounded s.tablets tested_sound.narrow (clocks_of s) s.order s.events tested_sound.follow j)

module _ (s : Store) (counts : List ℕ) (e : Event) (ready : WriteReady s counts e) where
  abbrev own : ℕ
  own = column e.tablet

  snd : Sound s
  snd = tested_sound s ready.ready.refusal

  follows : Follows s.tablets (clocks_of s) (tallies_of s) e.tablet.0 e.clock
  unfolding event_refusal
  follows = may_follow_lem s.tablets (clocks_of s) (tallies_of s) e.tablet.0 e.clock ready.may

  own_fits : own < 8
  own_fits = omega (arith, follows.positive, follows.listed, snd.narrow)

  count_room : at counts own < 254
  count_room = rw ready.ready.tally follows.room

  own_tally : at counts own ≡ tally s.order s.events own
  own_tally = ap (λ (l : List ℕ). at l own) ready.ready.tally ∙ at_tallies s.order s.events own own_fits

  slot_room : slot own (at counts own + 1) < 2032
  slot_room = slot_below (event own (at counts own + 1)) (record { column = own_fits; first = omega arith; last = omega (arith, count_room) })

  event_room : s.events < 2032
  event_room =
      room_left s.tablets snd.narrow (clocks_of s) s.order s.events snd.follow own own_fits
      (omega (arith, count_room, own_tally))

  pub room : Room s counts e
  room =
      let full = tested_full s ready.ready.refusal in
      record {
        some = follows.positive;
        listed = own_fits;
        count = count_room;
        slots = slot_room;
        clocks = full.clocks;
        held = full.held;
        order = full.order;
        events = event_room;
      }

  -- the tallies after the write
  counts_after : set counts own (at counts own + 1) ≡ tallies_of (accepted s e)
  unfolding accepted
  counts_after =
      let bytes = set s.order s.events e.tablet.0 in
      let there : get_or bytes s.events 0 ≡ suc own = get_or-set_same s.order s.events e.tablet.0 0 (omega (arith, event_room, (tested_full s ready.ready.refusal).order)) ∙ omega (arith, follows.positive) in
      let before : tallies s.order s.events ≡ tallies bytes s.events = tallies_same s.order bytes s.events (λ q h. sym (get_or-set_other s.order s.events q e.tablet.0 0 (omega arith))) in
      ap (λ (l : List ℕ). set l own (at l own + 1)) (ready.ready.tally ∙ before)
      ∙ sym (tallies_raised bytes s.events own own_fits there)

  -- the writes of the code, at the slot that it computed, give the accepted store
  pub written : (home : ℕ) (clocks : List ℕ) → home ≡ slot own (at counts own + 1) → clocks ≡ sets s.clocks (8 * home) e.clock → Stored s e (record { refusal = 0; store = record { tablets = s.tablets; events = s.events + 1; clocks = clocks; held = set s.held home e.held; order = set s.order s.events e.tablet.0 } }) (set counts own (at counts own + 1))
  unfolding accepted
  written home clocks at_slot bytes =
      let there : home ≡ slot own (tally s.order s.events own + 1) = at_slot ∙ ap (λ (k : ℕ). slot own (k + 1)) own_tally in
      record {
        outcome_is = λ i. record { refusal = 0; store = record { tablets = s.tablets; events = s.events + 1; clocks = (bytes ∙ ap (λ (h : ℕ). sets s.clocks (8 * h) e.clock) there) i; held = set s.held (there i) e.held; order = set s.order s.events e.tablet.0 } };
        tally = counts_after;
      }
