-- The cuts of an interval, one by one: each has eight entries, there is at least one, and the test of a place's cut says
-- exactly which they are.
use mathlib.Core.Path.{◌≡◌, refl, ap, sym, ◌∙◌}
use mathlib.Core.Logic.{◌↔◌}
use mathlib.Core.List.{List, [], ◌∷◌, ◌++◌, append_assoc, Memᴰ}
use Prim.Native.Nat.{ℕ, zero, suc, ◌*◌, ◌≤◌}
use native.Mathlib.Omega.{arith}
use lib.Dec.{T}
use lib.ListN.{length, length-append}
use Rattle.model.specs.declared.Record.{Record}
use Rattle.model.specs.Lists.{keep}
use Rattle.model.specs.Clocks.{clock_at, covered}
use Rattle.model.specs.Follow.{tallies}
use Rattle.model.specs.Store.{Store, store_of, clocks_of, store_refusal}
use Rattle.model.specs.Cuts.{consistent, cuts_between, gmin, gbnd, interval}
use Rattle.model.specs.Lexical.{lex_before}
use Rattle.model.proofs.Tests.{and_left, and_right, and_both}
use Rattle.model.proofs.Entries.{covered_at_most, at_most_covered}
use Rattle.model.proofs.Ranges.{consistent_holds, holds_consistent, range_from, range_into}
use Rattle.model.proofs.Valid.{length_tallies}
use Rattle.model.proofs.Bounds.{interval_bounds, gmin_long}
use Rattle.model.proofs.Step.{range_first}
use Rattle.store.proofs.Ready.{tested_sound, tested_full}
use Rattle.walks.specs.Showing.{flat}
use Rattle.cuts.specs.Outcomes.{SoundTrace}
use Rattle.cuts.specs.Listing.{in_interval}

pub interval_long : (s : Store) (p : ℕ) (G : List ℕ) → Memᴰ G (interval s p) → length G ≡ 8
unfolding interval
interval_long s p G m = (range_from (clocks_of s) (gmin s p) (gbnd s p) (length_tallies s.order p) G m).long

-- of eight entries, the test holds exactly where they are one of the interval's cuts
pub interval_test : (s : Store) (p : ℕ) (G : List ℕ) → length G ≡ 8 → T (in_interval s p G) ↔ Memᴰ G (interval s p)
unfolding interval
interval_test s p G long =
    let least = covered (gmin s p) G in
    let cut = consistent (clocks_of s) (gbnd s p) G in
    let eight = length_tallies s.order p in (
      λ t. range_into (clocks_of s) (gmin s p) (gbnd s p) eight G
          (record {
            long = long;
            least = covered_at_most (gmin s p) G (and_left least cut t);
            cut = consistent_holds (clocks_of s) (gbnd s p) G (and_right least cut t);
          }),
      λ m. let r = range_from (clocks_of s) (gmin s p) (gbnd s p) eight G m in
          and_both least cut (at_most_covered (gmin s p) G r.least) (holds_consistent (clocks_of s) (gbnd s p) G r.cut),
    )

-- no interval depends on the held values
gmin_held : (r : Record) (clocks order held other : List ℕ) (p : ℕ) → gmin (store_of r clocks held order) p ≡ gmin (store_of r clocks other order) p
gmin_held r clocks order held other zero = refl
gmin_held r clocks order held other (suc q) = refl

interval_held : (r : Record) (clocks order held other : List ℕ) (p : ℕ) → interval (store_of r clocks held order) p ≡ interval (store_of r clocks other order) p
unfolding interval
interval_held r clocks order held other p =
    ap (λ (low : List ℕ). cuts_between (clock_at clocks) low (tallies order p)) (gmin_held r clocks order held other p)

-- each has a cut, its least
least_first : (s : Store) → store_refusal s ≡ 0 → (p : ℕ) → p ≤ s.events → interval s p ≡ gmin s p ∷ keep (lex_before (gmin s p)) (interval s p)
unfolding interval
least_first s none p within =
    let snd = tested_sound s none in
    range_first (clocks_of s) (gmin s p) (gbnd s p) (interval_bounds s snd p within) (gmin_long s snd (tested_full s none) p within)

pub interval_some : (r : Record) (clocks order held : List ℕ) → SoundTrace r clocks order → (p : ℕ) → p ≤ r.events → 1 ≤ length (interval (store_of r clocks held order) p)
interval_some r clocks order held sound p within =
    omega (
      arith,
      ap length (interval_held r clocks order held sound.held p),
      ap length (least_first (store_of r clocks sound.held order) sound.none p within),
    )

-- cuts of eight entries take eight bytes each
abbrev pub Wide : List (List ℕ) → Type 0
Wide [] = Unit {0}
Wide (G ∷ Gs) = (length G ≡ 8) × Wide Gs

wide_from : (Gs : List (List ℕ)) → ((G : List ℕ) → Memᴰ G Gs → length G ≡ 8) → Wide Gs
wide_from [] f = tt
wide_from (G ∷ Gs) f = (f G (Memᴰ.head refl), wide_from Gs (λ H m. f H (Memᴰ.tail m)))

pub interval_wide : (s : Store) (p : ℕ) → Wide (interval s p)
interval_wide s p = wide_from (interval s p) (interval_long s p)

pub flat_long : (Gs : List (List ℕ)) → Wide Gs → length (flat Gs) ≡ 8 * length Gs
flat_long [] w = refl
flat_long (G ∷ Gs) w = length-append G (flat Gs) ∙ omega (arith, w.0, flat_long Gs w.1)

pub flat_append : (Gs Hs : List (List ℕ)) → flat (Gs ++ Hs) ≡ flat Gs ++ flat Hs
flat_append [] Hs = refl
flat_append (G ∷ Gs) Hs = ap (λ (l : List ℕ). G ++ l) (flat_append Gs Hs) ∙ sym (append_assoc G (flat Gs) (flat Hs))
