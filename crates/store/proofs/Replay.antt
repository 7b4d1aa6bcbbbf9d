-- An event of a sound store, offered to a store that agrees so far, is taken, and then the two agree on one event more. So
-- whatever tells the events of a store in their order fills a second one that agrees with it.
use mathlib.Core.Path.{◌≡◌, refl, sym, ap, ◌∙◌, subst}
use mathlib.Core.Logic.{⊎_elim}
use mathlib.Core.List.{List}
use Prim.Native.Nat.{ℕ, suc, ◌+◌, ◌<◌}
use native.Mathlib.Omega.{arith}
use lib.ListN.{length, get_or}
use lib.Seq.{get_or-set_same}
use Rattle.model.specs.declared.Event.{Event}
use Rattle.model.specs.Clocks.{EventName, clock_of}
use Rattle.model.specs.Follow.{column_at, tally, tallies, event_at, follow_refusal}
use Rattle.model.specs.Store.{Store, clocks_of, held_of, tallies_of, store_refusal, accepted, event_refusal}
use Rattle.model.specs.Cuts.{Contains}
use Rattle.model.specs.Agree.{AgreeTo}
use borrow.Author.Count.{below_more}
use Rattle.model.proofs.Follow.{Follows, follows_passes}
use Rattle.model.proofs.Valid.{at_tallies, new_or_old}
use Rattle.model.proofs.Slots.{clock_long}
use Rattle.model.proofs.Sound.{Sound, Full, follows_at, stored_at}
use Rattle.model.proofs.Agree.{tally_same, agree_tallies}
use Rattle.model.proofs.Accepted.{follows_moves, new_name, room_for_one, accepted_agrees, clock_stored, held_stored}
use Rattle.store.proofs.Ready.{tested_sound, tested_full}
use Rattle.store.proofs.Theorems.{accepted_stays_sound}

-- the event behind the first q, as the store holds it
abbrev pub stored : Store → ℕ → Event
stored s q =
    record {
      tablet = record { 0 = get_or s.order q 0 };
      clock = clock_of (clocks_of s) (event_at s.order q);
      held = held_of s (event_at s.order q);
    }

pub one_event : (r : Store) (e : Event) → (accepted r e).events ≡ r.events + 1
unfolding accepted
one_event r e = refl

-- before the first event nothing but n is to agree
pub nothing_yet : (s r : Store) → s.tablets ≡ r.tablets → AgreeTo 0 s r
nothing_yet s r e =
    record {
      tablets = e;
      order = λ q h. let no : ⊥ = omega arith in absurd no;
      clocks = λ x c. let no : ⊥ = omega (arith, c.first, c.last, at_tallies s.order 0 x.column c.column) in absurd no;
      held = λ x c. let no : ⊥ = omega (arith, c.first, c.last, at_tallies s.order 0 x.column c.column) in absurd no;
    }

-- an event of a sound store
module _ (s : Store) (none : store_refusal s ≡ 0) (q : ℕ) (inside : q < s.events) where
  abbrev n : ℕ
  n = s.tablets

  abbrev event : Event
  event = stored s q

  pub stored_follows : Follows n (clocks_of s) (tallies s.order q) (get_or s.order q 0) event.clock
  stored_follows = follows_at s (tested_sound s none) q inside

  pub stored_long : length event.clock ≡ 8
  stored_long = clock_long s.clocks (event_at s.order q) (tested_full s none).clocks (stored_at s (tested_sound s none) q inside)

  -- the same offered to a store that agrees so far
  module _ (r : Store) (ready : store_refusal r ≡ 0) (at-q : r.events ≡ q) (agree : AgreeTo q s r) where
    same_tallies : tallies s.order q ≡ tallies_of r
    same_tallies = agree_tallies q s r agree ∙ ap (tallies r.order) (sym at-q)

    pub may : event_refusal r event ≡ 0
    unfolding event_refusal
    may =
        subst (λ (k : ℕ). follow_refusal k (clocks_of r) (tallies_of r) (get_or s.order q 0) event.clock ≡ 0) agree.tablets
        (follows_passes n (clocks_of r) (tallies_of r) (get_or s.order q 0) event.clock
        (subst (λ (t : List ℕ). Follows n (clocks_of r) t (get_or s.order q 0) event.clock) same_tallies
        (follows_moves n (clocks_of s) (clocks_of r) (tallies s.order q) (get_or s.order q 0) event.clock agree.clocks stored_follows)))

    abbrev next : Store
    next = accepted r event

    pub next_ready : store_refusal next ≡ 0
    next_ready = accepted_stays_sound r event stored_long ready may

    rsnd : Sound r
    rsnd = tested_sound r ready

    rfull : Full r
    rfull = tested_full r ready

    kept : AgreeTo r.events r next
    kept = accepted_agrees r rsnd rfull event stored_long may

    byte : get_or next.order q 0 ≡ get_or s.order q 0
    unfolding accepted
    byte =
        ap (λ (k : ℕ). get_or next.order k 0) (sym at-q)
        ∙ get_or-set_same r.order r.events (get_or s.order q 0) 0 (omega (arith, room_for_one r rsnd rfull event stored_long may, rfull.order))

    -- the event that is new has its name in both
    named : (x : EventName) → x.column ≡ column_at s.order q → x.number ≡ (event_at s.order q).number → x ≡ new_name r rsnd rfull event stored_long may
    named x col num =
        let own = column_at s.order q in
        let count : (event_at s.order q).number ≡ tally r.order r.events own + 1 = ap (λ (k : ℕ). k + 1) (tally_same s.order r.order q agree.order own ∙ ap (λ (k : ℕ). tally r.order k own) (sym at-q)) in
        λ i. record { column = col i; number = (num ∙ count) i }

    in_both : (x : EventName) → x.column ≡ column_at s.order q → x.number ≡ (event_at s.order q).number → x ≡ event_at s.order q
    in_both x col num = λ i. record { column = col i; number = num i }

    older : (x : EventName) → Contains (tallies s.order q) x → Contains (tallies r.order r.events) x
    older x c = subst (λ (t : List ℕ). Contains t x) same_tallies c

    pub agree_next : AgreeTo (suc q) s next
    agree_next =
        record {
          tablets = agree.tablets ∙ kept.tablets;
          order = λ p h. below_more (λ p. get_or s.order p 0 ≡ get_or next.order p 0) q (λ p h. agree.order p h ∙ kept.order p (omega arith)) (sym byte) p (omega arith);
          clocks = λ x c. ⊎_elim
              (λ old. agree.clocks x old ∙ kept.clocks x (older x old))
              (λ new. ap (clock_of (clocks_of s)) (in_both x new.0 new.1) ∙ sym (ap (clock_of (clocks_of next)) (named x new.0 new.1) ∙ clock_stored r rsnd rfull event stored_long may))
              (new_or_old s.order q stored_follows.positive x c);
          held = λ x c. ⊎_elim
              (λ old. agree.held x old ∙ kept.held x (older x old))
              (λ new. ap (held_of s) (in_both x new.0 new.1) ∙ sym (ap (held_of next) (named x new.0 new.1) ∙ held_stored r rsnd rfull event stored_long may))
              (new_or_old s.order q stored_follows.positive x c);
        }
