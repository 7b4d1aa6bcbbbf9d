-- Calls one after the other: what stands behind a place, what listing calls write together, and lists without repeats.
use Rattle.std.specs.Prelude.{◌≡◌, ◌↔◌, ℕ, ◌+◌, ◌*◌, ◌≤◌, true, cond, length, take}
use mathlib.Core.List.{List, [], ◌∷◌, ◌++◌, Memᴰ}
use Rattle.model.specs.declared.Place.{Place}
use Rattle.model.specs.Lists.{keep}
use Rattle.model.specs.Lexical.{lex_before}
use Rattle.model.specs.Store.{Store}
use Rattle.model.specs.Cuts.{interval, all_cuts}
use Rattle.cuts.specs.Listing.{room, Said, ListOutcome, listing}

-- rule 28: a place from which an interval can be listed: not begun, or begun at one of its cuts
abbrev pub Listable : Store → ℕ → Place → Type 0
Listable s p place = place.begun ≡ true → Memᴰ place.cut.counts (interval s p)

-- rule 28: the cuts that are still to be listed from a place on
abbrev pub behind_place : Store → ℕ → Place → List (List ℕ)
behind_place s p place = cond place.begun (keep (lex_before place.cut.counts) (interval s p)) (interval s p)

-- rule 29: the bytes that a listing call has written to the front of its output
abbrev pub front : ListOutcome → List ℕ
front o = take (8 * o.count) o.output

-- Listing calls into one output after the other, each from the place that the one before it left: what they have written,
-- joined, and what the last of them says.
abbrev pub wrote_all : Store → ℕ → Place → List (List ℕ) → List ℕ
wrote_all s p place [] = []
wrote_all s p place (out ∷ outs) = front (listing s p place out) ++ wrote_all s p (listing s p place out).place outs

abbrev pub last_says : Store → ℕ → Place → List ℕ → List (List ℕ) → Said
last_says s p place out [] = (listing s p place out).said
last_says s p place out (next ∷ outs) = last_says s p (listing s p place out).place next outs

-- outputs with room for a cut each, and how many cuts they take together
abbrev pub Roomy : List (List ℕ) → Type 0
Roomy [] = Unit {0}
Roomy (out ∷ outs) = (8 ≤ length out) × Roomy outs

abbrev pub rooms : List (List ℕ) → ℕ
rooms [] = 0
rooms (out ∷ outs) = room out + rooms outs

-- no cut of the list stands in it twice
abbrev pub NoneTwice : List (List ℕ) → Type 0
NoneTwice [] = Unit {0}
NoneTwice (G ∷ Gs) = (Memᴰ G Gs → ⊥) × NoneTwice Gs

-- rules 25 and 31: the consistent cuts of a trace and no other, none twice
pub record EachOnce (s : Store) (cuts : List (List ℕ)) : Type 0 where
  pub members : (G : List ℕ) → Memᴰ G cuts ↔ Memᴰ G (all_cuts s)
  pub none_twice : NoneTwice cuts
