-- Theorem 10: accepting an event that may follow leaves a valid store of T + 1 events, with all earlier events as they were.
use mathlib.Core.Path.{◌≡◌, refl, sym, ap, ◌∙◌, subst, subst₃}
use mathlib.Core.Logic.{◌≢◌, by_cases}
use mathlib.Core.List.{List}
use Prim.Native.Nat.{ℕ, zero, suc, ◌+◌, ◌-◌, ◌*◌, ◌≤◌, ◌<◌}
use native.Mathlib.Omega.{arith}
use native.Mathlib.Numerals.{add-one}
use native.Mathlib.Decide.{ℕ_discrete}
use borrow.Author.Tests.{eq-eqb, ne_eqb}
use lib.Dec.{T}
use lib.ListN.{length, get_or, length-set}
use lib.Seq.{get_or-set_same, get_or-set_other, length-sets}
use Rattle.model.specs.declared.Event.{Event}
use Rattle.model.specs.Lists.{at}
use Rattle.model.specs.Numbers.{slot, column}
use Rattle.model.specs.Clocks.{Clocks, EventName, clock_of}
use Rattle.model.specs.Follow.{column_at, tally, tallies, event_at, last_known, follow_to}
use Rattle.model.specs.Store.{Store, clocks_of, held_of, tallies_of, next_slot, accepted, event_refusal}
use Rattle.model.specs.Cuts.{Contains}
use Rattle.model.specs.Agree.{AgreeTo}
use Rattle.model.proofs.Tests.{and_both}
use Rattle.model.proofs.Entries.{AtMost}
use Rattle.model.proofs.Follow.{Follows, may_follow_lem, follows_passes}
use Rattle.model.proofs.Causal.{event}
use Rattle.model.proofs.Valid.{at_tallies, tallies_grow, contained_at, follow_before, follow_at}
use Rattle.model.proofs.Total.{room_left}
use Rattle.model.proofs.Slots.{Storable, slot_below, slots_differ, clock_other, clock_written}
use Rattle.model.proofs.Sound.{Sound, Full, storable}
use Rattle.model.proofs.Agree.{ClocksAgree, known_same, tally_same, tallies_same, event_same}

-- what an event may rest on is the clocks of the events before it
pub follows_moves : (n : ℕ) (clk other : Clocks) (tal : List ℕ) (i : ℕ) (clock : List ℕ) → ClocksAgree clk other tal → Follows n clk tal i clock → Follows n other tal i clock
follows_moves n clk other tal i clock agree f =
    record {
      positive = f.positive;
      listed = f.listed;
      room = f.room;
      own = f.own;
      others = f.others;
      above = f.above;
      covering = λ j hj. subst (λ (X : List ℕ). AtMost X clock) (known_same clk other tal agree j (last_known (i - 1) j (at tal j) (at clock j)) hj (in_use j hj)) (f.covering j hj);
    }
  where
    in_use : (j : ℕ) → j < 8 → last_known (i - 1) j (at tal j) (at clock j) ≤ at tal j
    in_use j hj =
        by_cases (ℕ_discrete j (i - 1)) (λ e. simp (eq-eqb j (i - 1) e) (omega arith))
        (λ other. simp (ne_eqb j (i - 1) other) (f.others j hj other))

-- one more event passes where it may follow
passes_next : (n : ℕ) (clk : Clocks) (order : List ℕ) (p : ℕ) → T (follow_to n clk order p) → Follows n clk (tallies order p) (get_or order p 0) (clock_of clk (event_at order p)) → T (follow_to n clk order (suc p))
passes_next n clk order p t f =
    and_both (follow_to n clk order p) _ t
    (rw (follows_passes n clk (tallies order p) (get_or order p 0) (clock_of clk (event_at order p)) f) tt)

-- a trace whose first p events are those of another passes where that one does
follow_agrees : (n : ℕ) → n ≤ 8 → (clk other : Clocks) (order bytes : List ℕ) (p : ℕ) → ((q : ℕ) → q < p → get_or order q 0 ≡ get_or bytes q 0) → ClocksAgree clk other (tallies order p) → T (follow_to n clk order p) → T (follow_to n other bytes p)
follow_agrees n narrow clk other order bytes zero same agree t = tt
follow_agrees n narrow clk other order bytes (suc p) same agree t =
    passes_next n other bytes p
    (follow_agrees n narrow clk other order bytes p (λ q h. same q (omega arith)) earlier (follow_before n clk order p t))
    (subst₃ (Follows n other) (tallies_same order bytes p (λ q h. same q (omega arith))) (same p (omega arith))
    (agree (event_at order p) (contained_at n narrow clk order p t) ∙ ap (clock_of other) (event_same order bytes p same))
    (follows_moves n clk other (tallies order p) (get_or order p 0) (clock_of clk (event_at order p)) earlier (follow_at n clk order p t)))
  where
    earlier : ClocksAgree clk other (tallies order p)
    earlier e c =
        agree e
        (record { column = c.column; first = c.first; last = omega (arith, c.last, tallies_grow order p (suc p) (omega arith) e.column c.column) })

module _ (s : Store) (snd : Sound s) (full : Full s) (e : Event) (long : length e.clock ≡ 8) (may : event_refusal s e ≡ 0) where
  abbrev own : ℕ
  own = column e.tablet

  -- the name that the event gets
  abbrev pub new_name : EventName
  new_name = event own (tally s.order s.events own + 1)

  follows : Follows s.tablets (clocks_of s) (tallies_of s) e.tablet.0 e.clock
  unfolding event_refusal
  follows = may_follow_lem s.tablets (clocks_of s) (tallies_of s) e.tablet.0 e.clock may

  own_fits : own < 8
  own_fits = omega (arith, follows.positive, follows.listed, snd.narrow)

  room : tally s.order s.events own < 254
  room = omega (arith, follows.room, at_tallies s.order s.events own own_fits)

  -- "T stays at most 2,032"
  pub room_for_one : s.events < 2032
  room_for_one = room_left s.tablets snd.narrow (clocks_of s) s.order s.events snd.follow own own_fits room

  new_storable : Storable new_name
  new_storable = record { column = own_fits; first = omega arith; last = omega (arith, room) }

  -- an event of the store is not the new one
  old_differs : (f : EventName) → Contains (tallies_of s) f → f ≢ new_name
  old_differs f c same =
      let t : f.column ≡ own = ap (λ (x : EventName). x.column) same in
      let k : f.number ≡ tally s.order s.events own + 1 = ap (λ (x : EventName). x.number) same in
      omega (arith, c.last, ap (at (tallies_of s)) t, at_tallies s.order s.events own own_fits)

  -- rule 11: the first T events are as they were
  pub accepted_agrees : AgreeTo s.events s (accepted s e)
  unfolding accepted
  accepted_agrees =
      record {
        tablets = refl;
        order = λ q h. sym (get_or-set_other s.order s.events q e.tablet.0 0 (omega arith));
        clocks = λ f c. sym (clock_other s.clocks f new_name e.clock long (storable s snd f c) new_storable (old_differs f c));
        held = λ f c. sym (get_or-set_other s.held (next_slot s e) (slot f.column f.number) e.held 0 (slots_differ f new_name (storable s snd f c) new_storable (old_differs f c)));
      }

  -- and the event at T + 1 is the one offered, with its clock and its held value
  byte_written : get_or (accepted s e).order s.events 0 ≡ e.tablet.0
  unfolding accepted
  byte_written = get_or-set_same s.order s.events e.tablet.0 0 (omega (arith, room_for_one, full.order))

  pub event_written : event_at (accepted s e).order s.events ≡ new_name
  event_written =
      let t : column_at (accepted s e).order s.events ≡ own = ap (λ (b : ℕ). b - 1) byte_written in
      let k : tally (accepted s e).order s.events (column_at (accepted s e).order s.events) + 1 ≡ tally s.order s.events own + 1 = ap (λ (m : ℕ). m + 1) (ap (tally (accepted s e).order s.events) t ∙ sym (tally_same s.order (accepted s e).order s.events accepted_agrees.order own)) in
      λ i. record { column = t i; number = k i }

  pub clock_stored : clock_of (clocks_of (accepted s e)) new_name ≡ e.clock
  unfolding accepted
  clock_stored = clock_written s.clocks new_name e.clock long full.clocks new_storable

  pub held_stored : held_of (accepted s e) new_name ≡ e.held
  unfolding accepted
  held_stored = get_or-set_same s.held (next_slot s e) e.held 0 (omega (arith, slot_below new_name new_storable, full.held))

  follow_accepted : T (follow_to s.tablets (clocks_of (accepted s e)) (accepted s e).order (suc s.events))
  follow_accepted =
      passes_next s.tablets (clocks_of (accepted s e)) (accepted s e).order s.events
      (follow_agrees s.tablets snd.narrow (clocks_of s) (clocks_of (accepted s e)) s.order (accepted s e).order s.events accepted_agrees.order accepted_agrees.clocks snd.follow)
      (subst₃ (Follows s.tablets (clocks_of (accepted s e)))
      (tallies_same s.order (accepted s e).order s.events accepted_agrees.order)
      (sym byte_written)
      (sym (ap (clock_of (clocks_of (accepted s e))) event_written ∙ clock_stored))
      (follows_moves s.tablets (clocks_of s) (clocks_of (accepted s e)) (tallies_of s) e.tablet.0 e.clock accepted_agrees.clocks follows))

  -- Theorem 10: an accepted event leaves a valid store of T + 1 events
  pub accepted_sound : Sound (accepted s e)
  unfolding accepted
  accepted_sound =
      record {
        some = snd.some;
        narrow = snd.narrow;
        total = omega (arith, room_for_one);
        follow = subst (λ (p : ℕ). T (follow_to s.tablets (clocks_of (accepted s e)) (accepted s e).order p)) (sym (add-one s.events)) follow_accepted;
      }

  pub accepted_full : Full (accepted s e)
  unfolding accepted
  accepted_full =
      record {
        clocks = omega (arith, full.clocks, length-sets s.clocks (8 * next_slot s e) e.clock);
        held = omega (arith, full.held, length-set s.held (next_slot s e) e.held);
        order = omega (arith, full.order, length-set s.order s.events e.tablet.0);
      }

  pub accepted_one_more : (accepted s e).events ≡ s.events + 1
  unfolding accepted
  accepted_one_more = refl

  -- what the store had it still has
  pub still_contained : (f : EventName) → Contains (tallies_of s) f → Contains (tallies_of (accepted s e)) f
  unfolding accepted
  still_contained f c =
      record {
        column = c.column;
        first = c.first;
        last = omega (
          arith,
          c.last,
          ap (λ (tal : List ℕ). at tal f.column) (tallies_same s.order (accepted s e).order s.events accepted_agrees.order),
          tallies_grow (accepted s e).order s.events (s.events + 1) (omega arith) f.column c.column,
        );
      }
