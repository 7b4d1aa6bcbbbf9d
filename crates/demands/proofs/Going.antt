-- Listing call after listing call: each writes what stands behind the place it is given, and leaves the place behind what it
-- wrote.
use mathlib.Core.Path.{◌≡◌, refl, sym, ap, ap₂, ◌∙◌, subst}
use mathlib.Core.Logic.{by_cases}
use mathlib.Core.Bool.{Bool, true, false, cond, not}
use mathlib.Core.List.{List, [], ◌∷◌, ◌++◌, append_assoc, Memᴰ}
use Prim.Native.Nat.{ℕ, ◌+◌, ◌-◌, ◌*◌, ◌≤◌}
use native.Mathlib.Omega.{arith}
use native.Mathlib.Decide.{dec_le}
use borrow.Author.Tests.{lt-ltb, le-ltb, eq-eqb}
use lib.Dec.{ltb}
use lib.ListN.{length, take, drop, length-take, length-drop, take-append-drop}
use lib.Seq.{take_at, take-add, take-nil, drop-nil}
use Rattle.model.specs.declared.Place.{Place}
use Rattle.model.specs.Lists.{keep}
use Rattle.model.specs.Lexical.{lex_before, Rising}
use Rattle.model.specs.Store.{Store, store_refusal}
use Rattle.model.specs.Cuts.{interval}
use Rattle.model.proofs.Tests.{holds}
use Rattle.model.proofs.Questions.{interval_rising}
use Rattle.std.proofs.lemmas.Bool.{cond-true}
use Rattle.cuts.specs.Listing.{flat, room, behind_all, done, more, ListOutcome, refused_listing, shown_from, list_of, in_interval, listing}
use Rattle.cuts.proofs.Members.{Wide, interval_wide, flat_long, flat_append, interval_long, interval_test}
use Rattle.cuts.proofs.Gathering.{behind_append}
use Rattle.demands.specs.Calls.{Listable, behind_place, front, wrote_all, last_says, Roomy, rooms}
use Rattle.demands.proofs.Rising.{around, ended, middle, keep_behind}

wide_behind : (Gs Hs : List (List ℕ)) → Wide (Gs ++ Hs) → Wide Hs
wide_behind [] Hs w = w
wide_behind (G ∷ Gs) Hs w = wide_behind Gs Hs w.1

wide_front : (Gs Hs : List (List ℕ)) → Wide (Gs ++ Hs) → Wide Gs
wide_front [] Hs w = tt
wide_front (G ∷ Gs) Hs w = (w.0, wide_front Gs Hs w.1)

-- what is to be listed from a place on are the last of the interval's cuts
record Suffix (all rest : List (List ℕ)) : Type 0 where
  before : List (List ℕ)
  parts : all ≡ before ++ rest

module _ (s : Store) (p : ℕ) where
  suffix : (place : Place) → Listable s p place → Suffix (interval s p) (behind_place s p place)
  suffix place ok = by_flag place.begun refl
    where
      by_flag : (b : Bool) → place.begun ≡ b → Suffix (interval s p) (behind_place s p place)
      by_flag true e =
          let G = place.cut.counts in
          let a = around (interval s p) G (ok e) in
          let rest : behind_place s p place ≡ a.behind = ap (λ (b : Bool). cond b (keep (lex_before G) (interval s p)) (interval s p)) e
          ∙ ap (keep (lex_before G)) a.parts ∙ keep_behind a.before G a.behind (subst Rising a.parts (interval_rising s p)) in
          record {
            before = a.before ++ (G ∷ []);
            parts = a.parts ∙ sym (append_assoc a.before (G ∷ []) a.behind) ∙ ap (λ (l : List (List ℕ)). (a.before ++ (G ∷ [])) ++ l) (sym rest);
          }
      by_flag false e =
          record { before = []; parts = sym (ap (λ (b : Bool). cond b (keep (lex_before place.cut.counts) (interval s p)) (interval s p)) e) }

  wide_rest : (place : Place) → Listable s p place → Wide (behind_place s p place)
  wide_rest place ok =
      let f = suffix place ok in
      wide_behind f.before (behind_place s p place) (subst Wide f.parts (interval_wide s p))

  -- behind the first n of what is to be listed stands the rest of it, and the place there is one of the interval's cuts
  pub record After (place : Place) (n : ℕ) : Type 0 where
    pub left : behind_place s p (behind_all place (take n (behind_place s p place))) ≡ drop n (behind_place s p place)
    pub again : Listable s p (behind_all place (take n (behind_place s p place)))

  pub after : (place : Place) → Listable s p place → (n : ℕ) → 1 ≤ n → After place n
  after place ok n some = by_rest (behind_place s p place) refl
    where
      by_rest : (rest : List (List ℕ)) → behind_place s p place ≡ rest → After place n
      by_rest [] e =
          let same : behind_all place (take n (behind_place s p place)) ≡ place = ap (behind_all place) (ap (take n) e ∙ take-nil n) in
          record {
            left = ap (behind_place s p) same ∙ e ∙ sym (ap (drop n) e ∙ drop-nil n);
            again = subst (Listable s p) (sym same) ok;
          }
      by_rest (G ∷ Gs) e =
          let rest = behind_place s p place in
          let f = suffix place ok in
          let l = ended (take n rest) (omega (arith, length-take n rest, ap length e)) in
          let L = l.last in
          let parts : interval s p ≡ (f.before ++ l.before) ++ (L ∷ drop n rest) = f.parts
          ∙ ap (λ (k : List (List ℕ)). f.before ++ k) (sym (take-append-drop n rest) ∙ ap (λ (k : List (List ℕ)). k ++ drop n rest) l.parts ∙ append_assoc l.before (L ∷ []) (drop n rest))
          ∙ sym (append_assoc f.before l.before (L ∷ drop n rest)) in
          let stood : behind_all place (take n rest) ≡ record { begun = true; cut = record { counts = L } } = ap (behind_all place) l.parts ∙ behind_append place place l.before (L ∷ []) (omega arith) in
          record {
            left = ap (behind_place s p) stood ∙ ap (keep (lex_before L)) parts ∙ keep_behind (f.before ++ l.before) L (drop n rest) (subst Rising parts (interval_rising s p));
            again = subst (Listable s p) (sym stood) (λ t. subst (Memᴰ L) (sym parts) (middle (f.before ++ l.before) L (drop n rest)));
          }

  -- one call, of a store that nothing refuses, into an output with room for a cut
  module _ (none : store_refusal s ≡ 0) (within : p ≤ s.events) where
    pub opens : (place : Place) → Listable s p place → (out : List ℕ) → 8 ≤ length out → listing s p place out ≡ shown_from (behind_place s p place) place out
    opens place ok out fits =
        cond-true _ _ _ (eq-eqb (store_refusal s) 0 none)
        ∙ ap (λ (b : Bool). cond b (refused_listing 9 place out) (cond (ltb (length out) 8) (refused_listing 14 place out) (list_of (interval s p) inside place out))) (le-ltb s.events p within)
        ∙ ap (λ (b : Bool). cond b (refused_listing 14 place out) (list_of (interval s p) inside place out)) (le-ltb (length out) 8 fits)
        ∙ by_flag place.begun refl
      where
        inside : Bool
        inside = in_interval s p place.cut.counts

        rest : List (List ℕ)
        rest = keep (lex_before place.cut.counts) (interval s p)

        ways : Bool → Bool → ListOutcome
        ways b c = cond b (cond (not c) (refused_listing 10 place out) (shown_from rest place out)) (shown_from (interval s p) place out)

        by_flag : (b : Bool) → place.begun ≡ b → ways place.begun inside ≡ shown_from (behind_place s p place) place out
        by_flag true e =
            let G = place.cut.counts in
            let a-cut = holds inside ((interval_test s p G (interval_long s p G (ok e))).1 (ok e)) in
            ap₂ ways e a-cut ∙ sym (ap (λ (b : Bool). shown_from (cond b rest (interval s p)) place out) e)
        by_flag false e = ap (λ (b : Bool). ways b inside) e ∙ sym (ap (λ (b : Bool). shown_from (cond b rest (interval s p)) place out) e)

    pub record GoesOn (place : Place) (out : List ℕ) : Type 0 where
      pub refusal : (listing s p place out).refusal ≡ 0
      pub said : (listing s p place out).said ≡ cond (ltb (room out) (length (behind_place s p place))) more done
      pub wrote : front (listing s p place out) ≡ flat (take (room out) (behind_place s p place))
      pub left : behind_place s p (listing s p place out).place ≡ drop (room out) (behind_place s p place)
      pub again : Listable s p (listing s p place out).place

    pub goes_on : (place : Place) → Listable s p place → (out : List ℕ) → 8 ≤ length out → GoesOn place out
    goes_on place ok out fits =
        let rest = behind_place s p place in
        let shown = take (room out) rest in
        let o = opens place ok out fits in
        let at = ap (λ (r : ListOutcome). r.place) o in
        let a = after place ok (room out) (omega (arith, fits)) in
        let wide : Wide shown = wide_front shown (drop (room out) rest) (subst Wide (sym (take-append-drop (room out) rest)) (wide_rest place ok)) in
        record {
          refusal = ap (λ (r : ListOutcome). r.refusal) o;
          said = ap (λ (r : ListOutcome). r.said) o;
          wrote = ap front o ∙ take_at (flat shown) (drop (8 * length shown) out) (8 * length shown) (flat_long shown wide);
          left = ap (behind_place s p) at ∙ a.left;
          again = subst (Listable s p) (sym at) a.again;
        }

    -- and one call after the other
    pub all_written : (outs : List (List ℕ)) → Roomy outs → (place : Place) → Listable s p place → wrote_all s p place outs ≡ flat (take (rooms outs) (behind_place s p place))
    all_written [] fit place ok = refl
    all_written (out ∷ outs) fit place ok =
        let rest = behind_place s p place in
        let g = goes_on place ok out fit.0 in
        ap₂ ◌++◌ g.wrote (all_written outs fit.1 (listing s p place out).place g.again ∙ ap (λ (l : List (List ℕ)). flat (take (rooms outs) l)) g.left)
        ∙ sym (flat_append (take (room out) rest) (take (rooms outs) (drop (room out) rest)))
        ∙ ap flat (sym (take-add (room out) (rooms outs) rest))

    pub last_says_lem : (outs : List (List ℕ)) (out : List ℕ) → Roomy (out ∷ outs) → (place : Place) → Listable s p place → last_says s p place out outs ≡ cond (ltb (rooms (out ∷ outs)) (length (behind_place s p place))) more done
    last_says_lem [] out fit place ok =
        let sum : room out ≡ room out + 0 = omega arith in
        (goes_on place ok out fit.0).said ∙ ap (λ (n : ℕ). cond (ltb n (length (behind_place s p place))) more done) sum
    last_says_lem (next ∷ outs) out fit place ok =
        let g = goes_on place ok out fit.0 in
        last_says_lem outs next fit.1 (listing s p place out).place g.again
        ∙ ap (λ (b : Bool). cond b more done)
        (fewer (rooms (next ∷ outs)) (room out) (length (behind_place s p place)) (length (behind_place s p (listing s p place out).place))
        (ap length g.left ∙ length-drop (room out) (behind_place s p place)))
      where
        fewer : (a n b c : ℕ) → c ≡ b - n → ltb a c ≡ ltb (n + a) b
        fewer a n b c e =
            by_cases (dec_le c a)
            (λ h. le-ltb a c h ∙ sym (le-ltb (n + a) b (omega (arith, e, h))))
            (λ h. lt-ltb a c (omega (arith, h)) ∙ sym (lt-ltb (n + a) b (omega (arith, e, h))))
