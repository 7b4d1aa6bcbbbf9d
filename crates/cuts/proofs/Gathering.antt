-- Gathering, interval by interval: what is written so far, and the ways it ends or goes on.
use mathlib.Core.Path.{◌≡◌, refl, sym, ap, ap₂, ◌∙◌, subst}
use mathlib.Core.Logic.{by_cases}
use mathlib.Core.Bool.{Bool, true, cond}
use mathlib.Core.List.{List, [], ◌∷◌, ◌++◌, append_assoc, append-nil}
use Prim.Native.Nat.{ℕ, zero, suc, ◌+◌, ◌-◌, ◌*◌, ◌≤◌, ◌<◌}
use native.Mathlib.Omega.{arith}
use native.Mathlib.Decide.{ℕ_discrete}
use borrow.Author.Tests.{lt-ltb, le-ltb, ltb-true}
use borrow.Rule.Slice.PartMut.{put_mid}
use lib.Dec.{ltb}
use lib.ListN.{length, take, drop, length-append, length-take, length-drop}
use lib.Seq.{take_all, take_at, drop_at, drop-length, drop-drop, take-append-add, take-append-le}
use Rattle.model.specs.declared.Place.{Place}
use Rattle.model.specs.Store.{Store}
use Rattle.model.specs.Cuts.{interval}
use Rattle.std.proofs.lemmas.Bool.{ltb_from_iff}
use Rattle.std.specs.Prelude.{Ok, Err}
use Rattle.model.specs.declared.Refusal.{Refusal}
use Rattle.model.proofs.Refusals.{number_positive}
use Rattle.walks.specs.declared.showing.Listed.{Listed}
use Rattle.cuts.specs.Listing.{flat, room, written, behind_all, done, more, ListOutcome, listed, shown_from, list_in, fresh}
use Rattle.cuts.specs.Gathering.{gathered, joined, stands_in, gathered_from}
use Rattle.cuts.proofs.Members.{interval_wide, flat_long, flat_append}

-- the joined intervals: each has its cuts behind those of the ones before it
module _ (s : Store) (first : ℕ) where
  pub joined_bytes : (k : ℕ) → length (flat (joined s first k)) ≡ 8 * length (joined s first k)
  joined_bytes zero = refl
  joined_bytes (suc k) =
      let before = joined s first k in
      let next = interval s (first + k) in
      ap length (flat_append before next)
      ∙ length-append (flat before) (flat next)
      ∙ omega (arith, joined_bytes k, flat_long next (interval_wide s (first + k)), length-append before next)

  -- what the intervals behind the first k add
  abbrev pub added : ℕ → ℕ → List (List ℕ)
  added k zero = []
  added k (suc d) = added k d ++ interval s (first + (k + d))

  joined_on : (k d : ℕ) → joined s first (k + d) ≡ joined s first k ++ added k d
  joined_on k zero =
      let e : k + 0 ≡ k = omega arith in
      ap (joined s first) e ∙ sym (append-nil (joined s first k))
  joined_on k (suc d) =
      let e : k + suc d ≡ suc (k + d) = omega arith in
      ap (joined s first) e
      ∙ ap (λ (l : List (List ℕ)). l ++ interval s (first + (k + d))) (joined_on k d)
      ∙ append_assoc (joined s first k) (added k d) (interval s (first + (k + d)))

  -- all of m intervals, told by the first k of them
  pub joined_split : (k m : ℕ) → k ≤ m → joined s first m ≡ joined s first k ++ added k (m - k)
  joined_split k m h =
      let e : m ≡ k + (m - k) = omega arith in
      ap (joined s first) e ∙ joined_on k (m - k)

  pub joined_grows : (k m : ℕ) → k ≤ m → length (joined s first k) ≤ length (joined s first m)
  joined_grows k m h = omega (arith, ap length (joined_split k m h), length-append (joined s first k) (added k (m - k)))

  -- where each interval has a cut, one more interval is one more cut at least
  pub joined_more : ((p : ℕ) → p ≤ s.events → 1 ≤ length (interval s p)) → (k m : ℕ) → k < m → first + k ≤ s.events → length (joined s first k) < length (joined s first m)
  joined_more some k m h within =
      omega (arith, joined_grows (suc k) m h, length-append (joined s first k) (interval s (first + k)), some (first + k) within)

  -- the w-th cut stands in the interval k behind the first, where fewer than w stand before it and w up to its end
  pub stands_in_lem : (m k w : ℕ) → k ≤ m → length (joined s first k) < w → w ≤ length (joined s first (suc k)) → stands_in s first m w ≡ first + k
  stands_in_lem zero k w h before upto = omega arith
  stands_in_lem (suc m) k w h before upto =
      by_cases (ℕ_discrete k (suc m)) here (λ n. earlier n (stands_in_lem m k w (omega (arith, n)) before upto))
    where
      here : k ≡ suc m → stands_in s first (suc m) w ≡ first + k
      here e =
          ap (λ (b : Bool). cond b (first + suc m) (stands_in s first m w)) (lt-ltb (length (joined s first (suc m))) w (rw e at before))
          ∙ omega arith

      earlier : (k ≡ suc m → ⊥) → stands_in s first m w ≡ first + k → stands_in s first (suc m) w ≡ first + k
      earlier n found =
          ap (λ (b : Bool). cond b (first + suc m) (stands_in s first m w)) (le-ltb (length (joined s first (suc m))) w (omega (arith, joined_grows (suc k) (suc m) (omega (arith, n)))))
          ∙ found

-- a place behind some cuts does not depend on those before them
pub behind_append : (one two : Place) (Gs Hs : List (List ℕ)) → 1 ≤ length Hs → behind_all one (Gs ++ Hs) ≡ behind_all two Hs
behind_append one two [] [] h = let z : ⊥ = omega arith in absurd z
behind_append one two [] (H ∷ Hs) h = refl
behind_append one two (G ∷ Gs) Hs h = behind_append (record { begun = true; cut = record { counts = G } }) two Gs Hs h

-- The loop before interval p: the cuts of the intervals before it are written, and there is room for another.
pub record UpTo (s : Store) (first p w : ℕ) (out₀ out : List ℕ) : Type 0 where
  pub from : first ≤ p
  pub count : w ≡ length (joined s first (p - first))
  pub fits : 8 * w + 8 ≤ length out₀
  pub output : out ≡ written (joined s first (p - first)) out₀

pub up_to_same : {s : Store} {first p q w : ℕ} {out₀ out : List ℕ} → UpTo s first p w out₀ out → p ≡ q → UpTo s first q w out₀ out
up_to_same {s} {first} {p} {q} {w} {out₀} {out} u e = subst (λ (r : ℕ). UpTo s first r w out₀ out) e u

pub up_to_start : (s : Store) (first : ℕ) (out : List ℕ) → 8 ≤ length out → UpTo s first first 0 out out
up_to_start s first out fits =
    let zeroth : first - first ≡ 0 = omega arith in
    let none : joined s first (first - first) ≡ [] = ap (joined s first) zeroth in
    record {
      from = omega arith;
      count = sym (ap length none);
      fits = omega arith;
      output = sym (ap (λ (l : List (List ℕ)). written l out) none);
    }

-- The interval that is listed now, up to a last one of the trace, each of which has a cut; and what its listing has answered and
-- left in the part of the output that it was lent.
pub record Here (s : Store) (p w last : ℕ) (out₀ : List ℕ) (r : Listed) (part : List ℕ) : Type 0 where
  pub some : (q : ℕ) → q ≤ s.events → 1 ≤ length (interval s q)
  pub upto : p ≤ last
  pub within : last ≤ s.events
  pub told : listed fresh (Ok r) part ≡ shown_from (interval s p) fresh (drop (8 * w) out₀)

module _ {s : Store} {first p w : ℕ} {out₀ out : List ℕ} (u : UpTo s first p w out₀ out) where
  abbrev before : List (List ℕ)
  before = joined s first (p - first)

  -- the part that the listing is lent
  abbrev pub behind : List ℕ
  behind = drop (8 * w) out₀

  abbrev shown : List (List ℕ)
  shown = take (room behind) (interval s p)

  front_long : length (flat before) ≡ 8 * w
  front_long = joined_bytes s first (p - first) ∙ omega (arith, u.count)

  output_is : out ≡ flat before ++ behind
  output_is = u.output ∙ ap (λ (m : ℕ). flat before ++ drop (8 * m) out₀) (sym u.count)

  pub same_long : length out ≡ length out₀
  same_long = ap length output_is ∙ simp (length-append, length-drop) (omega (arith, front_long, u.fits))

  behind_long : length behind ≡ length out₀ - 8 * w
  behind_long = length-drop (8 * w) out₀

  pub part_is : take (length out - 8 * w) (drop (8 * w) out) ≡ behind
  part_is =
      ap (take (length out - 8 * w)) (ap (drop (8 * w)) output_is ∙ drop_at (flat before) behind (8 * w) front_long)
      ∙ take_all (length out - 8 * w) behind (omega (arith, same_long, behind_long))

  pub put_is : (part : List ℕ) → put_mid (8 * w) (length out - 8 * w) out part ≡ flat before ++ part
  put_is part =
      let all : 8 * w + (length out - 8 * w) ≡ length out = omega (arith, same_long, u.fits) in
      ap₂ (λ (a b : List ℕ). a ++ (part ++ b)) (ap (take (8 * w)) output_is ∙ take_at (flat before) behind (8 * w) front_long)
      (drop-drop (length out - 8 * w) (8 * w) out ∙ ap (λ (m : ℕ). drop m out) all ∙ drop-length out)
      ∙ ap (λ (l : List ℕ). flat before ++ l) (append-nil part)

  pub put_long : (part : List ℕ) → length part ≡ length (take (length out - 8 * w) (drop (8 * w) out)) → length (put_mid (8 * w) (length out - 8 * w) out part) ≡ length out₀
  put_long part e = ap length (put_is part) ∙ length-append (flat before) part ∙ omega (arith, front_long, e, ap length part_is, behind_long, u.fits)

  next : joined s first (suc (p - first)) ≡ before ++ interval s p
  next =
      let e : first + (p - first) ≡ p = omega (arith, u.from) in
      ap (λ (q : ℕ). before ++ interval s q) e

  -- what fits of the intervals up to p is what is written and what the listing writes
  rooms : room out₀ ≡ length before + room behind
  rooms = omega (arith, u.count, u.fits, behind_long)

  fitting : take (room out₀) (before ++ interval s p) ≡ before ++ shown
  fitting = ap (λ (m : ℕ). take m (before ++ interval s p)) rooms ∙ take-append-add before (interval s p) (room behind)

  -- the listing of interval p from a place not begun, into what is left of the output
  pub listed_here : (o : ListOutcome) → p ≤ s.events → o ≡ list_in s p fresh (take (length out - 8 * w) (drop (8 * w) out)) → o ≡ shown_from (interval s p) fresh behind
  listed_here o within told =
      told ∙ ap (list_in s p fresh) part_is
      ∙ simp (le-ltb s.events p within, le-ltb (length behind) 8 (omega (arith, behind_long, u.fits)))

  pub never_refused : (why : Refusal) (part : List ℕ) → p ≤ s.events → listed fresh (Err why) part ≡ list_in s p fresh (take (length out - 8 * w) (drop (8 * w) out)) → ⊥
  never_refused why part within told = omega (arith, number_positive why, ap (λ (o : ListOutcome). o.refusal) (listed_here _ within told))

  module _ {last : ℕ} {r : Listed} {part : List ℕ} (here : Here s p w last out₀ r part) where
    abbrev all : List (List ℕ)
    all = joined s first (suc (last - first))

    counted : r.written ≡ length shown
    counted = ap (λ (o : ListOutcome). o.count) here.told

    some_shown : 1 ≤ length shown
    some_shown = omega (arith, length-take (room behind) (interval s p), here.some p (omega (arith, here.upto, here.within)), behind_long, u.fits)

    together : length (before ++ shown) ≡ w + r.written
    together = length-append before shown ∙ omega (arith, u.count, counted)

    bytes : flat before ++ part ≡ written (before ++ shown) out₀
    bytes =
        let sum : 8 * w + 8 * length shown ≡ 8 * length (before ++ shown) = omega (arith, together, counted) in
        ap (λ (l : List ℕ). flat before ++ l) (ap (λ (o : ListOutcome). o.output) here.told)
        ∙ sym (append_assoc (flat before) (flat shown) (drop (8 * length shown) behind))
        ∙ ap₂ ◌++◌ (sym (flat_append before shown)) (drop-drop (8 * length shown) (8 * w) out₀ ∙ ap (λ (m : ℕ). drop m out₀) sum)

    pub fits_on : 8 * (w + r.written) ≤ length out₀
    fits_on = omega (arith, counted, length-take (room behind) (interval s p), behind_long, u.fits)

    -- it stops here: what was written is what fits of all, and more is said where something is left
    stops : (later : Bool) → cond later more done ≡ cond (ltb (room out₀) (length all)) more done → take (room out₀) all ≡ before ++ shown → gathered (Ok (record { written = w + r.written; more = later; position = record { 0 = p }; place = r.place })) (flat before ++ part) ≡ gathered_from s first (last - first) out₀
    stops later says fit =
        let count : w + r.written ≡ length (take (room out₀) all) = sym (ap length fit ∙ together) in
        let place : r.place ≡ behind_all fresh (take (room out₀) all) = ap (λ (o : ListOutcome). o.place) here.told ∙ sym (ap (behind_all fresh) fit ∙ behind_append fresh fresh before shown some_shown) in
        let found : stands_in s first (last - first) (length (take (room out₀) all)) ≡ first + (p - first) = stands_in_lem s first (last - first) (p - first) (length (take (room out₀) all)) (omega arith) (omega (arith, count, u.count, counted, some_shown)) (omega (arith, count, u.count, counted, length-take (room behind) (interval s p), ap length next, length-append before (interval s p))) in
        let position : p ≡ stands_in s first (last - first) (length (take (room out₀) all)) = omega (arith, found, u.from) in
        λ i. record {
          listing = record {
            refusal = 0;
            said = says i;
            count = count i;
            place = place i;
            output = (bytes ∙ sym (ap (λ (l : List (List ℕ)). written l out₀) fit)) i;
          };
          position = position i;
        }

    -- the last interval: what the listing says is said
    pub stops_last : p ≡ last → gathered (Ok (record { written = w + r.written; more = r.more; position = record { 0 = p }; place = r.place })) (flat before ++ part) ≡ gathered_from s first (last - first) out₀
    stops_last e =
        let same : last - first ≡ p - first = omega arith in
        let whole : all ≡ before ++ interval s p = ap (λ (m : ℕ). joined s first (suc m)) same ∙ next in
        let long : length all ≡ length before + length (interval s p) = ap length whole ∙ length-append before (interval s p) in
        let left : ltb (room behind) (length (interval s p)) ≡ ltb (room out₀) (length all) = ltb_from_iff (λ e. omega (arith, rooms, long, ltb-true (room behind) (length (interval s p)) e), λ h. lt-ltb (room behind) (length (interval s p)) (omega (arith, rooms, long, h))) in
        stops r.more
        (ap (λ (o : ListOutcome). o.said) here.told ∙ ap (λ (b : Bool). cond b more done) left)
        (ap (take (room out₀)) whole ∙ fitting)

    -- no room for another cut, and an interval is left: there is more
    pub stops_full : p < last → length out₀ - 8 * (w + r.written) < 8 → gathered (Ok (record { written = w + r.written; more = true; position = record { 0 = p }; place = r.place })) (flat before ++ part) ≡ gathered_from s first (last - first) out₀
    stops_full less full =
        let full-here : room out₀ ≤ length (before ++ interval s p) = omega (arith, rooms, counted, u.count, length-take (room behind) (interval s p), behind_long, u.fits, length-append before (interval s p)) in
        let longer : length (before ++ interval s p) < length all = omega (arith, ap length next, joined_more s first here.some (suc (p - first)) (suc (last - first)) (omega (arith, u.from)) (omega (arith, u.from))) in
        let whole : all ≡ (before ++ interval s p) ++ added s first (suc (p - first)) (suc (last - first) - suc (p - first)) = joined_split s first (suc (p - first)) (suc (last - first)) (omega arith) ∙ ap (λ (l : List (List ℕ)). l ++ added s first (suc (p - first)) (suc (last - first) - suc (p - first))) next in
        stops true
        (sym (ap (λ (b : Bool). cond b more done) (lt-ltb (room out₀) (length all) (omega (arith, full-here, longer)))))
        (ap (take (room out₀)) whole ∙ take-append-le (room out₀) (before ++ interval s p) _ full-here ∙ fitting)

    -- room for another cut: the interval is written whole, and the next can be listed
    pub goes_on : 8 ≤ length out₀ - 8 * (w + r.written) → UpTo s first (p + 1) (w + r.written) out₀ (flat before ++ part)
    goes_on left =
        let sum : suc (p - first) ≡ p + 1 - first = omega (arith, u.from) in
        let whole : shown ≡ interval s p = take_all (room behind) (interval s p) (omega (arith, counted, length-take (room behind) (interval s p), behind_long, u.fits)) in
        let so_far : before ++ shown ≡ joined s first (p + 1 - first) = ap (λ (l : List (List ℕ)). before ++ l) whole ∙ sym next ∙ ap (joined s first) sum in
        record {
          from = omega (arith, u.from);
          count = sym together ∙ ap length so_far;
          fits = omega (arith, left);
          output = bytes ∙ ap (λ (l : List (List ℕ)). written l out₀) so_far;
        }
