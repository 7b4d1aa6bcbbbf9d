-- A sound store: what every call may go by once refusals 1 and 3 are behind it.
use mathlib.Core.Bool.{◌&&◌}
use Prim.Native.Nat.{ℕ, suc, ◌≤◌, ◌<◌}
use native.Mathlib.Omega.{arith}
use lib.Dec.{T, leb, leb→le, le→leb}
use lib.ListN.{length, get_or}
use Rattle.model.specs.Numbers.{tablets_fit}
use Rattle.model.specs.Clocks.{EventName, clock_of}
use Rattle.model.specs.Follow.{column_at, tallies, event_at, follow_to}
use Rattle.model.specs.Store.{Store, full_size, clocks_of, tallies_of, valid}
use Rattle.model.specs.Cuts.{Contains}
use Rattle.model.proofs.Tests.{and_left, and_right, and_both}
use Rattle.model.proofs.Follow.{Follows}
use Rattle.model.proofs.Causal.{Causal}
use Rattle.model.proofs.Slots.{Storable}
use Rattle.model.proofs.Total.{tally_bounded}
use Rattle.model.proofs.Valid.{at_tallies, tallies_grow, contained_at, follow_at, follow_prefix, causal_of_valid}

pub record Sound (s : Store) : Type 0 where
  pub some : 1 ≤ s.tablets
  pub narrow : s.tablets ≤ 8
  pub total : s.events ≤ 2032
  pub follow : T (follow_to s.tablets (clocks_of s) s.order s.events)

pub sound : (s : Store) → T (tablets_fit s.tablets) → T (valid s) → Sound s
unfolding valid
sound s w v =
    let few : T (leb s.events 2032) = and_left (leb s.events 2032) (follow_to s.tablets (clocks_of s) s.order s.events) v in
    record {
      some = leb→le 1 s.tablets (and_left (leb 1 s.tablets) (leb s.tablets 8) w);
      narrow = leb→le s.tablets 8 (and_right (leb 1 s.tablets) (leb s.tablets 8) w);
      total = leb→le s.events 2032 few;
      follow = and_right (leb s.events 2032) (follow_to s.tablets (clocks_of s) s.order s.events) v;
    }

pub sound_valid : (s : Store) → Sound s → T (valid s)
unfolding valid
sound_valid s snd =
    and_both (leb s.events 2032) (follow_to s.tablets (clocks_of s) s.order s.events)
    (le→leb s.events 2032 snd.total)
    snd.follow

module _ (s : Store) (snd : Sound s) where
  -- after each position the clocks are causal
  pub causal_at : (p : ℕ) → p ≤ s.events → Causal (clocks_of s) (tallies s.order p)
  causal_at p h =
      causal_of_valid s.tablets snd.narrow (clocks_of s) s.order p
      (follow_prefix s.tablets (clocks_of s) s.order p s.events h snd.follow)

  -- each event of the store may follow those before it
  pub follows_at : (q : ℕ) → q < s.events → Follows s.tablets (clocks_of s) (tallies s.order q) (get_or s.order q 0) (clock_of (clocks_of s) (event_at s.order q))
  follows_at q h =
      follow_at s.tablets (clocks_of s) s.order q
      (follow_prefix s.tablets (clocks_of s) s.order (suc q) s.events h snd.follow)

  pub index_fits : (q : ℕ) → q < s.events → column_at s.order q < 8
  index_fits q h = omega (arith, (follows_at q h).positive, (follows_at q h).listed, snd.narrow)

  -- the event at a position is of the trace up to it
  pub event_contained : (q : ℕ) → q < s.events → Contains (tallies s.order (suc q)) (event_at s.order q)
  event_contained q h =
      contained_at s.tablets snd.narrow (clocks_of s) s.order q
      (follow_prefix s.tablets (clocks_of s) s.order (suc q) s.events h snd.follow)

  -- each event of the store has a slot
  pub storable : (e : EventName) → Contains (tallies_of s) e → Storable e
  storable e c =
      record {
        column = c.column;
        first = c.first;
        last = omega (arith, c.last, at_tallies s.order s.events e.column c.column, tally_bounded s.tablets snd.narrow (clocks_of s) s.order s.events snd.follow e.column);
      }

  pub stored_at : (q : ℕ) → q < s.events → Storable (event_at s.order q)
  stored_at q h =
      let c = event_contained q h in
      storable (event_at s.order q)
      (record { column = c.column; first = c.first; last = omega (arith, c.last, tallies_grow s.order (suc q) s.events h (column_at s.order q) c.column) })

-- the three sizes
pub record Full (s : Store) : Type 0 where
  pub clocks : 16256 ≤ length s.clocks
  pub held : 2032 ≤ length s.held
  pub order : 2032 ≤ length s.order

pub full_sizes_lem : (s : Store) → T (full_size s) → Full s
unfolding full_size
full_sizes_lem s t =
    let two = and_left (leb 16256 (length s.clocks) && leb 2032 (length s.held)) (leb 2032 (length s.order)) t in
    record {
      clocks = leb→le 16256 (length s.clocks) (and_left (leb 16256 (length s.clocks)) (leb 2032 (length s.held)) two);
      held = leb→le 2032 (length s.held) (and_right (leb 16256 (length s.clocks)) (leb 2032 (length s.held)) two);
      order = leb→le 2032 (length s.order) (and_right (leb 16256 (length s.clocks) && leb 2032 (length s.held)) (leb 2032 (length s.order)) t);
    }

pub sizes_full : (s : Store) → Full s → T (full_size s)
unfolding full_size
sizes_full s f =
    and_both (leb 16256 (length s.clocks) && leb 2032 (length s.held)) (leb 2032 (length s.order))
    (and_both (leb 16256 (length s.clocks)) (leb 2032 (length s.held)) (le→leb 16256 (length s.clocks) f.clocks) (le→leb 2032 (length s.held) f.held))
    (le→leb 2032 (length s.order) f.order)
