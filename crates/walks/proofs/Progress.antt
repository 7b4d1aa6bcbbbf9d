-- Showing cuts one by one: what is written so far, what is still to be shown, and the two ways it ends.
use mathlib.Core.Path.{◌≡◌, refl, sym, ap, ap₂, ◌∙◌, subst}
use mathlib.Core.Bool.{Bool, true, false}
use mathlib.Core.List.{List, [], ◌∷◌, ◌++◌, append_assoc, append-nil}
use Prim.Native.Nat.{ℕ, ◌+◌, ◌*◌, ◌≤◌}
use native.Mathlib.Omega.{arith}
use borrow.Author.Tests.{lt-ltb, le-ltb}
use lib.Dec.{ltb}
use lib.ListN.{length, take, drop, length-append, length-drop}
use lib.Seq.{sets, sets-eq, take_at, drop-drop, take_all, drop-append-add}
use Rattle.model.specs.declared.Place.{Place}
use Rattle.walks.specs.Showing.{flat, room, place_behind, behind_all, ShownOf}

flat_snoc : (Gs : List (List ℕ)) (G : List ℕ) → flat (Gs ++ (G ∷ [])) ≡ flat Gs ++ G
flat_snoc [] G = append-nil G
flat_snoc (H ∷ Gs) G = ap (λ (l : List ℕ). H ++ l) (flat_snoc Gs G) ∙ sym (append_assoc H (flat Gs) G)

behind_snoc : (place : Place) (Gs : List (List ℕ)) (G : List ℕ) → behind_all place (Gs ++ (G ∷ [])) ≡ place_behind G
behind_snoc place [] G = refl
behind_snoc place (H ∷ Gs) G = behind_snoc (place_behind H) Gs G

-- w of the cuts are written, and the rest is still to be shown
pub record Progress (all : List (List ℕ)) (out₀ out : List ℕ) (rest : List (List ℕ)) (w : ℕ) : Type 0 where
  pub shown : List (List ℕ)
  pub so_far : all ≡ shown ++ rest
  pub count : length shown ≡ w
  pub bytes : length (flat shown) ≡ 8 * w
  pub fits : 8 * w ≤ length out₀
  pub output : out ≡ flat shown ++ drop (8 * w) out₀

-- the same, and where something is written a place is behind the last of it
pub record Written (all : List (List ℕ)) (out₀ out : List ℕ) (rest : List (List ℕ)) (w : ℕ) (after : Place) : Type 0 where
  pub progress : Progress all out₀ out rest w
  pub last : 1 ≤ w → (before : Place) → behind_all before progress.shown ≡ after

pub written_start : (all : List (List ℕ)) (out₀ : List ℕ) (after : Place) → Written all out₀ out₀ all 0 after
written_start all out₀ after =
    record {
      progress = record { shown = []; so_far = refl; count = refl; bytes = refl; fits = omega arith; output = refl };
      last = λ some. let z : ⊥ = omega arith in absurd z;
    }

pub written_on : {all : List (List ℕ)} {out₀ out : List ℕ} {rest then : List (List ℕ)} {w : ℕ} {after : Place} → rest ≡ then → Written all out₀ out rest w after → Written all out₀ out then w after
written_on same t =
    let p = t.progress in
    record {
      progress = record {
        shown = p.shown;
        so_far = p.so_far ∙ ap (λ (l : List (List ℕ)). p.shown ++ l) same;
        count = p.count;
        bytes = p.bytes;
        fits = p.fits;
        output = p.output;
      };
      last = t.last;
    }

pub same_long : {all : List (List ℕ)} {out₀ out : List ℕ} {rest : List (List ℕ)} {w : ℕ} → Progress all out₀ out rest w → length out ≡ length out₀
same_long p = ap length p.output ∙ simp (length-append, length-drop) (omega (arith, p.bytes, p.fits))

-- one more cut written behind those before it
module _ {all : List (List ℕ)} {out₀ out : List ℕ} {rest : List (List ℕ)} {w : ℕ} (G : List ℕ) (p : Progress all out₀ out (G ∷ rest) w) (long : length G ≡ 8) (room_left : 8 * w + 8 ≤ length out₀) where
  tail : drop (8 * w + length G) out ≡ drop (8 * (w + 1)) out₀
  tail =
      let eight : 8 * w + length G ≡ 8 * (w + 1) = omega (arith, long) in
      ap₂ drop (ap (λ (m : ℕ). m + length G) (sym p.bytes)) p.output
      ∙ drop-append-add (flat p.shown) (drop (8 * w) out₀) (length G)
      ∙ drop-drop (length G) (8 * w) out₀
      ∙ ap (λ (m : ℕ). drop m out₀) eight

  front : take (8 * w) out ≡ flat p.shown
  front = ap (take (8 * w)) p.output ∙ take_at (flat p.shown) (drop (8 * w) out₀) (8 * w) p.bytes

  put_on : sets out (8 * w) G ≡ (flat p.shown ++ G) ++ drop (8 * (w + 1)) out₀
  put_on =
      sets-eq G out (8 * w) (omega (arith, same_long p, long))
      ∙ ap₂ (λ (a b : List ℕ). (a ++ G) ++ b) front tail

  pub written_more : (bytes_after : List ℕ) (after : Place) → bytes_after ≡ sets out (8 * w) G → after ≡ place_behind G → Written all out₀ bytes_after rest (w + 1) after
  written_more bytes_after after put stood =
      record {
        progress = record {
          shown = p.shown ++ (G ∷ []);
          so_far = p.so_far ∙ sym (append_assoc p.shown (G ∷ []) rest);
          count = length-append p.shown (G ∷ []) ∙ omega (arith, p.count);
          bytes = ap length (flat_snoc p.shown G) ∙ length-append (flat p.shown) G ∙ omega (arith, p.bytes, long);
          fits = omega arith;
          output = put ∙ put_on ∙ ap (λ (l : List ℕ). l ++ drop (8 * (w + 1)) out₀) (sym (flat_snoc p.shown G));
        };
        last = λ some before. behind_snoc before p.shown G ∙ sym stood;
      }

-- what is written is what fits; more is said where something is left
module _ {all : List (List ℕ)} {out₀ out : List ℕ} {rest : List (List ℕ)} {w : ℕ} {after : Place} (t : Written all out₀ out rest w after) (some : 1 ≤ w) where
  shown_all : take (room out₀) all ≡ t.progress.shown → (more : Bool) → more ≡ ltb (room out₀) (length all) → ShownOf all out₀ w after more out
  shown_all fitting more told =
      let p = t.progress in
      record {
        count_is = sym (ap length fitting ∙ p.count);
        place_is = λ before. sym (ap (behind_all before) fitting ∙ t.last some before);
        more_is = told;
        output_is = p.output ∙ ap₂ (λ (a : List ℕ) (m : ℕ). a ++ drop (8 * m) out₀) (ap flat (sym fitting)) (sym (ap length fitting ∙ p.count));
      }

  -- nothing is left to show
  pub written_ends : rest ≡ [] → ShownOf all out₀ w after false out
  written_ends ended =
      let p = t.progress in
      let whole : all ≡ p.shown = p.so_far ∙ ap (λ (l : List (List ℕ)). p.shown ++ l) ended ∙ append-nil p.shown in
      shown_all (ap (take (room out₀)) whole ∙ take_all (room out₀) p.shown (omega (arith, p.count, p.fits))) false
      (sym (le-ltb (room out₀) (length all) (omega (arith, ap length whole, p.count, p.fits))))

  -- the output is full, and something is left
  pub written_full : w ≡ room out₀ → 1 ≤ length rest → ShownOf all out₀ (room out₀) after true out
  written_full full left =
      let p = t.progress in
      let rooms : room out₀ ≡ w = sym full in
      subst (λ (n : ℕ). ShownOf all out₀ n after true out) full
      (shown_all (ap₂ take rooms p.so_far ∙ take_at p.shown rest w p.count) true
      (sym (lt-ltb (room out₀) (length all) (omega (arith, rooms, p.count, ap length p.so_far ∙ length-append p.shown rest)))))
