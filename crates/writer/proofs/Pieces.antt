-- The pieces of a sound store's text: where the event at a position lies, and what putting its lines together gives.
use mathlib.Core.Path.{◌≡◌, refl, sym, ap, ap₂, ◌∙◌, subst}
use mathlib.Core.Logic.{◌≢◌, by_cases}
use mathlib.Core.Bool.{Bool, cond}
use mathlib.Core.List.{List, ◌++◌}
use Prim.Native.Nat.{ℕ, ◌+◌, ◌-◌, ◌≤◌, ◌<◌}
use native.Mathlib.Omega.{arith}
use native.Mathlib.Decide.{ℕ_discrete}
use borrow.Author.Tests.{eq-eqb, ne_eqb, le-leb, lt-leb, lt-ltb, le-ltb}
use lib.Dec.{leb, ltb}
use lib.ListN.{length, get_or, take, drop}
use lib.Seq.{sets, sets-eq, length-take-le, take-length}
use Rattle.std.specs.Prelude.{Result, Ok, Err, IsErrAnd}
use Rattle.std.proofs.lemmas.Result.{err_from_is_err_and}
use Rattle.model.specs.declared.Refusal.{Refusal}
use Rattle.model.specs.Numbers.{slot}
use Rattle.model.specs.Refusals.{number_of, verdict_number}
use Rattle.model.specs.Clocks.{clock_at, clock_of}
use Rattle.model.specs.Follow.{column_at, tallies, event_at}
use Rattle.model.specs.Store.{Store, clocks_of, store_refusal}
use Rattle.model.proofs.Refusals.{or_else_first, or_else_next, passed_zero, refused_some}
use Rattle.model.proofs.Follow.{Follows}
use Rattle.model.proofs.Valid.{at_tallies}
use Rattle.model.proofs.Sound.{Sound, Full, follows_at}
use Rattle.store.proofs.Ready.{tested_sound, tested_full}
use Rattle.pieces.specs.Lines.{key_line, list_line}
use Rattle.pieces.proofs.Lengths.{byte_digits, half_digits, small_take, list_long, key_line_length, list_line_length}
use Rattle.loglines.specs.Keys.{tablets_key, tablet_key, clock_key, held_key, events_key}
use Rattle.writer.specs.Writing.{three_lines, event_text, piece_text, write_refusal, WriteOutcome, written, writing, Placed, Writable}

-- the event at a position of a sound store
module _ (s : Store) (none : store_refusal s ≡ 0) (q : ℕ) (inside : q < s.events) where
  abbrev tablet : ℕ
  tablet = get_or s.order q 0

  snd : Sound s
  snd = tested_sound s none

  full : Full s
  full = tested_full s none

  follows : Follows s.tablets (clocks_of s) (tallies s.order q) tablet (clock_of (clocks_of s) (event_at s.order q))
  follows = follows_at s snd q inside

  placed : Placed s.order q
  placed =
      record {
        inside = omega (arith, inside, snd.total, full.order);
        some = follows.positive;
        narrow = omega (arith, follows.listed, snd.narrow);
        room = omega (arith, follows.room, at_tallies s.order q (tablet - 1) (omega (arith, follows.positive, follows.listed, snd.narrow)));
      }

  pub writable : Writable s q
  writable =
      record { placed = placed; clocks = full.clocks; held = full.held; tablets = (snd.some, snd.narrow) }

-- its lines, by its clock and held value where they lie
pub event_text_lem : (s : Store) (q number : ℕ) (clock : List ℕ) (home : ℕ) → number ≡ (event_at s.order q).number → clock ≡ clock_at s.clocks (column_at s.order q) number → home ≡ slot (column_at s.order q) number → three_lines (get_or s.order q 0) (take s.tablets clock) (get_or s.held home 0) ≡ event_text s q
unfolding event_text
event_text_lem s q number clock home is there at_slot =
    ap₂ (λ (l : List ℕ) (k : ℕ). three_lines (get_or s.order q 0) (take s.tablets l) (get_or s.held k 0)) there at_slot
    ∙ ap (λ (k : ℕ). three_lines (get_or s.order q 0) (take s.tablets (clock_at s.clocks (column_at s.order q) k)) (get_or s.held (slot (column_at s.order q) k) 0)) is

-- how long the lines get

line_most : (key : List ℕ) (n : ℕ) → n ≤ 65535 → length (key_line key n) ≤ length key + 6
line_most key n h = omega (arith, key_line_length key n, half_digits n h)

pub tablets_line : (s : Store) → store_refusal s ≡ 0 → length (key_line tablets_key s.tablets) ≤ 14
tablets_line s none = line_most tablets_key s.tablets (omega (arith, (tested_sound s none).narrow))

pub events_line : (s : Store) → store_refusal s ≡ 0 → length (key_line events_key s.events) ≤ 13
events_line s none = line_most events_key s.events (omega (arith, (tested_sound s none).total))

pub tablet_line : (tablet : ℕ) → tablet ≤ 255 → length (key_line tablet_key tablet) ≤ 11
tablet_line tablet h = omega (arith, key_line_length tablet_key tablet, byte_digits tablet h)

pub held_line : (held : ℕ) → held ≤ 65535 → length (key_line held_key held) ≤ 11
held_line held h = line_most held_key held h

pub clock_line_lem : (entries : List ℕ) → 1 ≤ length entries → length entries ≤ 8 → ((i : ℕ) → get_or entries i 0 ≤ 255) → length (list_line clock_key entries) ≤ 38
clock_line_lem entries some most bytes =
    let n = length entries in
    let long = length-take-le n entries (omega arith) in
    subst (λ (l : List ℕ). length (list_line clock_key l) ≤ 38) (take-length entries)
    (omega (arith, long, list_line_length clock_key (take n entries), list_long (take n entries) (small_take n entries (λ i h. bytes i)) (omega (arith, long))))

-- which piece it is
module _ (s : Store) (p : ℕ) where
  abbrev later : List ℕ
  later = cond (leb p s.events) (event_text s (p - 1)) (key_line events_key s.events)

  pub piece_first : p ≡ 0 → piece_text s p ≡ key_line tablets_key s.tablets
  unfolding piece_text
  piece_first e = ap (λ (b : Bool). cond b (key_line tablets_key s.tablets) later) (eq-eqb p 0 e)

  past_first : p ≢ 0 → piece_text s p ≡ later
  unfolding piece_text
  past_first e = ap (λ (b : Bool). cond b (key_line tablets_key s.tablets) later) (ne_eqb p 0 e)

  pub piece_event : p ≢ 0 → p ≤ s.events → piece_text s p ≡ event_text s (p - 1)
  piece_event e h =
      past_first e ∙ ap (λ (b : Bool). cond b (event_text s (p - 1)) (key_line events_key s.events)) (le-leb p s.events h)

  pub piece_last : p ≢ 0 → s.events < p → piece_text s p ≡ key_line events_key s.events
  piece_last e h =
      past_first e ∙ ap (λ (b : Bool). cond b (event_text s (p - 1)) (key_line events_key s.events)) (lt-leb p s.events h)

-- the refusals of writing, in their order

module _ (s : Store) (p : ℕ) (out : List ℕ) where
  abbrev refused_with : ℕ → WriteOutcome
  refused_with k = record { refusal = k; length = 0; output = out }

  abbrev done : WriteOutcome
  done =
      record { refusal = 0; length = length (piece_text s p); output = piece_text s p ++ drop (length (piece_text s p)) out }

  told : (k : ℕ) → 1 ≤ k → write_refusal s p (length out) ≡ k → writing s p out ≡ refused_with k
  unfolding writing
  told k some e =
      let other : write_refusal s p (length out) ≢ 0 = omega arith in
      ap (λ (b : Bool). cond b done (refused_with (write_refusal s p (length out)))) (ne_eqb (write_refusal s p (length out)) 0 other)
      ∙ ap refused_with e

  told_done : write_refusal s p (length out) ≡ 0 → writing s p out ≡ done
  unfolding writing
  told_done none =
      ap (λ (b : Bool). cond b done (refused_with (write_refusal s p (length out)))) (eq-eqb (write_refusal s p (length out)) 0 none)

  -- what is not refused is written
  pub write_passed : (writing s p out).refusal ≡ 0 → writing s p out ≡ done
  write_passed none =
      by_cases (ℕ_discrete (write_refusal s p (length out)) 0) told_done
      (λ some. let no : ⊥ = omega (arith, none, ap (λ (o : WriteOutcome). o.refusal) (told (write_refusal s p (length out)) (omega arith) refl)) in absurd no)

  -- a store that is refused leaves the output as it was
  pub write_left : (v : Result (Unit {0}) Refusal) (why : Refusal) (r : Result ℕ Refusal) → verdict_number v ≡ store_refusal s → v ≡ Err why → IsErrAnd r (λ y. y ≡ why) → written r out ≡ writing s p out
  unfolding write_refusal
  write_left v why r test is left =
      let p = err_from_is_err_and r left in
      let some = refused_some v why _ test is in
      ap (λ (a : Result ℕ Refusal). written a out) p.1
      ∙ ap refused_with (ap number_of p.2 ∙ ap verdict_number (sym is) ∙ test)
      ∙ sym (told (store_refusal s) some (or_else_first (store_refusal s) _ some))

  -- by the code: the store's test has passed
  module _ (v : Result (Unit {0}) Refusal) (went : Unit {0}) (test : verdict_number v ≡ store_refusal s) (is : v ≡ Ok went) where
    none : store_refusal s ≡ 0
    none = passed_zero v went _ test is

    pub write_beyond : s.events + 1 < p → refused_with 9 ≡ writing s p out
    unfolding write_refusal
    write_beyond h =
        sym (told 9 (omega arith) (or_else_next (store_refusal s) _ none ∙ ap (λ (b : Bool). cond b 9 (cond (ltb (length out) (length (piece_text s p))) 14 0)) (lt-ltb (s.events + 1) p h)))

    module _ (there : p ≤ s.events + 1) where
      by_room : write_refusal s p (length out) ≡ cond (ltb (length out) (length (piece_text s p))) 14 0
      unfolding write_refusal
      by_room =
          or_else_next (store_refusal s) _ none
          ∙ ap (λ (b : Bool). cond b 9 (cond (ltb (length out) (length (piece_text s p))) 14 0)) (le-ltb (s.events + 1) p there)

      pub write_short : length out < length (piece_text s p) → refused_with 14 ≡ writing s p out
      write_short h =
          sym (told 14 (omega arith) (by_room ∙ ap (λ (b : Bool). cond b 14 0) (lt-ltb (length out) (length (piece_text s p)) h)))

      pub write_done : length (piece_text s p) ≤ length out → done ≡ writing s p out
      write_done h =
          sym (told_done (by_room ∙ ap (λ (b : Bool). cond b 14 0) (le-ltb (length out) (length (piece_text s p)) h)))

      -- the piece as it was put together and copied
      pub write_copied : (piece : List ℕ) (long : ℕ) (exit : List ℕ) → piece ≡ piece_text s p → long ≡ length piece → long ≤ length out → exit ≡ sets out 0 piece → record { refusal = 0; length = long; output = exit } ≡ writing s p out
      write_copied piece long exit is count fits e =
          let size : long ≡ length (piece_text s p) = count ∙ ap length is in
          let same : 0 + length (piece_text s p) ≡ length (piece_text s p) = omega arith in
          let out-is : exit ≡ piece_text s p ++ drop (length (piece_text s p)) out = e ∙ ap (sets out 0) is ∙ sets-eq (piece_text s p) out 0 (omega arith) ∙ ap (λ (n : ℕ). piece_text s p ++ drop n out) same in
          (λ i. record { refusal = 0; length = size i; output = out-is i }) ∙ write_done (omega arith)
