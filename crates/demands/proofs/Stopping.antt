-- Where a gathering stops, and what is left behind that place.
use mathlib.Core.Path.{◌≡◌, refl, sym, ap, ap₂, ◌∙◌, subst}
use mathlib.Core.Logic.{by_cases}
use mathlib.Core.Bool.{true, false≢true}
use mathlib.Core.List.{List, [], ◌∷◌, ◌++◌}
use Prim.Native.Nat.{ℕ, zero, suc, ◌+◌, ◌-◌, ◌≤◌, ◌<◌}
use native.Mathlib.Omega.{arith}
use native.Mathlib.Decide.{dec_le}
use lib.ListN.{length, take, drop, length-append, length-take}
use Rattle.std.proofs.lemmas.List.{take_min, drop_min}
use lib.Seq.{take-append-add, take-append-le, drop-append-add, drop-append-le}
use Rattle.model.specs.declared.Place.{Place}
use Rattle.model.specs.Store.{Store, store_refusal}
use Rattle.model.specs.Cuts.{interval}
use Rattle.cuts.specs.Listing.{room, behind_all, fresh}
use Rattle.cuts.specs.Gathering.{joined, stands_in, gathered_from}
use Rattle.cuts.proofs.Members.{interval_some}
use Rattle.cuts.proofs.Gathering.{added, joined_split, stands_in_lem, behind_append}
use Rattle.demands.specs.Calls.{Listable, behind_place}
use Rattle.demands.proofs.Going.{after}

-- the interval that has the w-th of the joined cuts
record Found (s : Store) (first m w : ℕ) : Type 0 where
  k : ℕ
  within : k ≤ m
  before : length (joined s first k) < w
  upto : w ≤ length (joined s first (suc k))

found : (s : Store) (first m w : ℕ) → 1 ≤ w → w ≤ length (joined s first (suc m)) → Found s first m w
found s first zero w some all = record { k = 0; within = omega arith; before = omega arith; upto = all }
found s first (suc m) w some all =
    by_cases (dec_le w (length (joined s first (suc m))))
    (λ h. let f = found s first m w some h in record { k = f.k; within = omega (arith, f.within); before = f.before; upto = f.upto })
    (λ n. record { k = suc m; within = omega arith; before = omega (arith, n); upto = all })

-- what the intervals behind the first k + 1 add are these intervals joined
added_joined : (s : Store) (first k d : ℕ) → added s first (suc k) d ≡ joined s (suc (first + k)) d
added_joined s first k zero = refl
added_joined s first k (suc d) =
    let e : first + (suc k + d) ≡ suc (first + k) + d = omega arith in
    ap₂ (λ (l : List (List ℕ)) (p : ℕ). l ++ interval s p) (added_joined s first k d) e

begun_behind : (place : Place) (Gs : List (List ℕ)) → 1 ≤ length Gs → (behind_all place Gs).begun ≡ true
begun_behind place [] h = let z : ⊥ = omega arith in absurd z
begun_behind place (G ∷ []) h = refl
begun_behind place (G ∷ H ∷ Gs) h = begun_behind (record { begun = true; cut = record { counts = G } }) (H ∷ Gs) (omega arith)

module _ (s : Store) (none : store_refusal s ≡ 0) (first last : ℕ) (rising : first ≤ last) (within : last ≤ s.events) (out : List ℕ) (fits : 8 ≤ length out) where
  abbrev all : List (List ℕ)
  all = joined s first (suc (last - first))

  abbrev w : ℕ
  w = length (take (room out) all)

  some_at : (p : ℕ) → p ≤ s.events → 1 ≤ length (interval s p)
  some_at p h = interval_some (record { tablets = s.tablets; events = s.events }) s.clocks s.order s.held (record { held = s.held; none = none }) p h

  at : Found s first (last - first) w
  at = found s first (last - first) w some (omega (arith, length-take (room out) all))
    where
      first_one : 1 ≤ length all
      first_one =
          let split = joined_split s first 1 (suc (last - first)) (omega arith) in
          let e : first + 0 ≡ first = omega arith in
          omega (arith, ap length split, length-append (joined s first 1) (added s first 1 (suc (last - first) - 1)), length-append (joined s first 0) (interval s (first + 0)), ap (λ (p : ℕ). length (interval s p)) e, some_at first (omega arith))

      some : 1 ≤ w
      some = omega (arith, length-take (room out) all, first_one, fits)

  abbrev p : ℕ
  p = first + at.k

  abbrev before : List (List ℕ)
  before = joined s first at.k

  abbrev j : ℕ
  j = w - length before

  abbrev rest : List (List ℕ)
  rest = joined s (suc p) (last - p)

  parts : all ≡ (before ++ interval s p) ++ rest
  parts =
      let d : suc (last - first) - suc at.k ≡ last - p = omega (arith, at.within) in
      joined_split s first (suc at.k) (suc (last - first)) (omega (arith, at.within))
      ∙ ap (λ (l : List (List ℕ)). (before ++ interval s p) ++ l) (added_joined s first at.k (suc (last - first) - suc at.k) ∙ ap (joined s (suc p)) d)

  enough : w ≤ length (before ++ interval s p)
  enough = at.upto

  count : w ≡ length before + j
  count = omega (arith, at.before)

  shown : take (room out) all ≡ before ++ take j (interval s p)
  shown =
      sym (ap (λ (m : ℕ). take m all) (length-take (room out) all) ∙ take_min (room out) all)
      ∙ ap (take w) parts
      ∙ take-append-le w (before ++ interval s p) rest enough
      ∙ ap (λ (m : ℕ). take m (before ++ interval s p)) count
      ∙ take-append-add before (interval s p) j

  abbrev place : Place
  place = behind_all fresh (take j (interval s p))

  here : stands_in s first (last - first) w ≡ p
  here = stands_in_lem s first (last - first) at.k w at.within at.before at.upto

  some_shown : 1 ≤ length (take j (interval s p))
  some_shown = omega (arith, length-take j (interval s p), at.before, enough, length-append before (interval s p))

  stood : behind_all fresh (take (room out) all) ≡ place
  stood = ap (behind_all fresh) shown ∙ behind_append fresh fresh before (take j (interval s p)) some_shown

  left_here : drop (room out) all ≡ drop j (interval s p) ++ rest
  left_here =
      sym (ap (λ (m : ℕ). drop m all) (length-take (room out) all) ∙ drop_min (room out) all)
      ∙ ap (drop w) parts
      ∙ drop-append-le w (before ++ interval s p) rest enough
      ∙ ap (λ (l : List (List ℕ)). l ++ rest) (ap (λ (m : ℕ). drop m (before ++ interval s p)) count ∙ drop-append-add before (interval s p) j)

  pub record Stops : Type 0 where
    pub from : first ≤ (gathered_from s first (last - first) out).position
    pub to : (gathered_from s first (last - first) out).position ≤ last
    pub begun : (gathered_from s first (last - first) out).listing.place.begun ≡ true
    pub listable : Listable s (gathered_from s first (last - first) out).position (gathered_from s first (last - first) out).listing.place
    pub left : drop (room out) all ≡ behind_place s (gathered_from s first (last - first) out).position (gathered_from s first (last - first) out).listing.place ++ joined s (suc (gathered_from s first (last - first) out).position) (last - (gathered_from s first (last - first) out).position)

  pub stops : Stops
  stops =
      let a = after s p fresh (λ e. absurd (false≢true e)) j (omega (arith, at.before)) in
      record {
        from = omega (arith, here);
        to = omega (arith, here, at.within, rising);
        begun = ap (λ (q : Place). q.begun) stood ∙ begun_behind fresh (take j (interval s p)) some_shown;
        listable = subst (λ (q : ℕ). Listable s q (behind_all fresh (take (room out) all))) (sym here) (subst (Listable s p) (sym stood) a.again);
        left = left_here ∙ ap₂ ◌++◌
            (sym (ap₂ (behind_place s) here stood ∙ a.left))
            (sym (ap (λ (q : ℕ). joined s (suc q) (last - q)) here));
      }
