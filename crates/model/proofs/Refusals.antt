-- Refusals and their numbers: none is 0, no two are alike, and a chain of them gives the first that applies.
use mathlib.Core.Path.{◌≡◌, refl, sym, ap, ◌∙◌}
use mathlib.Core.Logic.{◌≢◌}
use mathlib.Core.Bool.{cond, true≢false, false≢true}
use Prim.Native.Nat.{ℕ, ◌≤◌}
use native.Mathlib.Omega.{arith}
use borrow.Author.Tests.{eq-eqb, ne_eqb}
use lib.Dec.{eqb, lit≤}
use Rattle.std.specs.Prelude.{Result, Ok, Err, Some, None, is_some, IsErrAnd}
use Rattle.std.specs.Result.{result_and, result_ok}
use Rattle.std.proofs.lemmas.Result.{err_from_is_err_and}
use Rattle.model.specs.declared.Refusal.{Refusal}
use Rattle.model.specs.declared.Refusal.TheVariants.{NoSuchTabletCount, ShortBuffer, InvalidStore, NoSuchTablet, OwnEntryNotNext, EntryTooHigh, NotCovered, TabletFull, NoSuchPosition, PlaceOutside, CountTooLarge, FaultyLine, BadSet, ShortOutput, InputTooLong}
use Rattle.model.specs.Refusals.{number_of, verdict_number, or_else}

-- the refusal of a number, so that no two refusals share one
abbrev refusal_of : ℕ → Refusal
refusal_of n =
    cond (eqb n 1) NoSuchTabletCount
    (cond (eqb n 2) ShortBuffer
    (cond (eqb n 3) InvalidStore
    (cond (eqb n 4) NoSuchTablet
    (cond (eqb n 5) OwnEntryNotNext
    (cond (eqb n 6) EntryTooHigh
    (cond (eqb n 7) NotCovered
    (cond (eqb n 8) TabletFull
    (cond (eqb n 9) NoSuchPosition
    (cond (eqb n 10) PlaceOutside
    (cond (eqb n 11) CountTooLarge
    (cond (eqb n 12) FaultyLine
    (cond (eqb n 13) BadSet
    (cond (eqb n 14) ShortOutput InputTooLong)))))))))))))

refusal_back : (why : Refusal) → refusal_of (number_of why) ≡ why
refusal_back NoSuchTabletCount = refl
refusal_back ShortBuffer = refl
refusal_back InvalidStore = refl
refusal_back NoSuchTablet = refl
refusal_back OwnEntryNotNext = refl
refusal_back EntryTooHigh = refl
refusal_back NotCovered = refl
refusal_back TabletFull = refl
refusal_back NoSuchPosition = refl
refusal_back PlaceOutside = refl
refusal_back CountTooLarge = refl
refusal_back FaultyLine = refl
refusal_back BadSet = refl
refusal_back ShortOutput = refl
refusal_back InputTooLong = refl

-- a refusal is told by its number
pub refusal_unique : (v w : Refusal) → number_of v ≡ number_of w → v ≡ w
refusal_unique v w e = sym (refusal_back v) ∙ ap refusal_of e ∙ refusal_back w

pub number_positive : (why : Refusal) → 1 ≤ number_of why
number_positive NoSuchTabletCount = lit≤ tt
number_positive ShortBuffer = lit≤ tt
number_positive InvalidStore = lit≤ tt
number_positive NoSuchTablet = lit≤ tt
number_positive OwnEntryNotNext = lit≤ tt
number_positive EntryTooHigh = lit≤ tt
number_positive NotCovered = lit≤ tt
number_positive TabletFull = lit≤ tt
number_positive NoSuchPosition = lit≤ tt
number_positive PlaceOutside = lit≤ tt
number_positive CountTooLarge = lit≤ tt
number_positive FaultyLine = lit≤ tt
number_positive BadSet = lit≤ tt
number_positive ShortOutput = lit≤ tt
number_positive InputTooLong = lit≤ tt

-- and an answer by its number and, where nothing is refused, what it gives
pub answer_unique : {A : Type 0} (v w : Result A Refusal) → verdict_number v ≡ verdict_number w → ((x y : A) → v ≡ Ok x → w ≡ Ok y → x ≡ y) → v ≡ w
answer_unique (Ok x) (Ok y) e same = ap Ok (same x y refl refl)
answer_unique (Ok x) (Err why) e same = let z : ⊥ = omega (arith, number_positive why) in absurd z
answer_unique (Err why) (Ok y) e same = let z : ⊥ = omega (arith, number_positive why) in absurd z
answer_unique (Err v) (Err w) e same = ap Err (refusal_unique v w e)

-- so a verdict, which gives nothing else, by its number alone
pub verdict_unique : (v w : Result (Unit {0}) Refusal) → verdict_number v ≡ verdict_number w → v ≡ w
verdict_unique v w e = answer_unique v w e (λ x y p q. refl)

-- of two groups of refusals the second counts where the first passed
pub or_else_next : (a b : ℕ) → a ≡ 0 → or_else a b ≡ b
or_else_next a b e = simp (eq-eqb a 0 e)

pub or_else_first : (a b : ℕ) → 1 ≤ a → or_else a b ≡ a
or_else_first a b h =
    let some : a ≢ 0 = omega arith in
    simp (ne_eqb a 0 some)

-- the same of an answer that was matched on
pub passed_zero : {A : Type 0} (v : Result A Refusal) (given : A) (a : ℕ) → verdict_number v ≡ a → v ≡ Ok given → a ≡ 0
passed_zero v given a e p = sym e ∙ ap verdict_number p

pub refused_some : {A : Type 0} (v : Result A Refusal) (why : Refusal) (a : ℕ) → verdict_number v ≡ a → v ≡ Err why → 1 ≤ a
refused_some v why a e p = omega (arith, number_positive why, ap verdict_number p)

-- the exit of a `?`: the refusal of the call before it, first in its chain; and the call that goes on, its second group
pub chain_stops : {A B : Type 0} (v : Result A Refusal) (why : Refusal) (r : Result B Refusal) (a b : ℕ) → verdict_number v ≡ a → v ≡ Err why → IsErrAnd r (λ y. y ≡ why) → verdict_number r ≡ or_else a b
chain_stops v why r a b e is left =
    let p = err_from_is_err_and r left in
    ap verdict_number p.1 ∙ ap number_of p.2 ∙ ap verdict_number (sym is) ∙ e ∙ sym (or_else_first a b (refused_some v why a e is))

pub chain_goes : {A : Type 0} (v : Result A Refusal) (given : A) (a b x : ℕ) → verdict_number v ≡ a → v ≡ Ok given → x ≡ b → x ≡ or_else a b
chain_goes v given a b x e is same = same ∙ sym (or_else_next a b (passed_zero v given a e is))

-- two tests, of which the second counts where the first passed
pub and_chain : {A B : Type 0} (v : Result A Refusal) (w : Result B Refusal) → verdict_number (result_and v w) ≡ or_else (verdict_number v) (verdict_number w)
and_chain (Ok x) w = refl
and_chain (Err why) w = sym (or_else_first (number_of why) (verdict_number w) (number_positive why))

-- an answer of which only what it gives is kept
pub none_refused : {A : Type 0} (v : Result A Refusal) → result_ok v ≡ None → 1 ≤ verdict_number v
none_refused (Ok x) e = absurd (true≢false (ap is_some e))
none_refused (Err why) e = number_positive why

pub some_passed : {A : Type 0} (v : Result A Refusal) (given : A) → result_ok v ≡ Some given → verdict_number v ≡ 0
some_passed (Ok x) given e = refl
some_passed (Err why) given e = absurd (false≢true (ap is_some e))
