-- Slots: two events share none, all lie within the buffers, and writing one leaves the others.
use mathlib.Core.Path.{◌≡◌, refl, sym, ap, ◌∙◌}
use mathlib.Core.Logic.{◌≢◌, ◌⊎◌, inl, inr, ⊎_elim, by_cases}
use mathlib.Core.List.{List, [], ◌∷◌, ◌++◌, append_assoc}
use Prim.Native.Nat.{ℕ, suc, ◌+◌, ◌-◌, ◌*◌, ◌≤◌, ◌<◌}
use native.Mathlib.Omega.{arith}
use native.Mathlib.Decide.{dec_lt}
use lib.ListN.{length, take, drop, set, length-take, length-drop}
use lib.Seq.{sets, sets-eq, length-sets, get_or-set_other, get_or-take, get_or-drop, ext_get_or, take_at, drop_at, length-take-le}
use Rattle.model.specs.Lists.{at}
use Rattle.model.specs.Numbers.{slot}
use Rattle.model.specs.Clocks.{EventName, clock_in, clock_at}

-- an event that can be stored: tablets of index 0 to 7, events 1 to 254
pub record Storable (e : EventName) : Type 0 where
  pub column : e.column < 8
  pub first : 1 ≤ e.number
  pub last : e.number ≤ 254

pub slot_below : (e : EventName) → Storable e → slot e.column e.number < 2032
unfolding slot
slot_below e h = omega (arith, h.column, h.first, h.last)

pub slots_differ : (e f : EventName) → Storable e → Storable f → e ≢ f → slot e.column e.number ≢ slot f.column f.number
unfolding slot
slots_differ e f he hf differ same =
    by_cases (dec_lt e.column f.column) (λ less. omega (arith, he.first, he.last, hf.first))
    (λ n. by_cases (dec_lt f.column e.column) (λ less. omega (arith, hf.first, hf.last, he.first))
    (λ m. let t : e.column ≡ f.column = omega arith in
    let k : e.number ≡ f.number = omega (arith, he.first, hf.first) in
    differ (λ i. record { column = t i; number = k i })))

-- a run of writes leaves what lies before it and behind it
pub sets_other : (l : List ℕ) (a : ℕ) (vs : List ℕ) (x : ℕ) → (x < a) ⊎ (a + length vs ≤ x) → at (sets l a vs) x ≡ at l x
sets_other l a [] x apart = refl
sets_other l a (v ∷ vs) x apart =
    ⊎_elim
    (λ low. sets_other (set l a v) (suc a) vs x (inl (omega arith)) ∙ get_or-set_other l a x v 0 (omega arith))
    (λ high. sets_other (set l a v) (suc a) vs x (inr (omega arith)) ∙ get_or-set_other l a x v 0 (omega arith))
    apart

pub sets_there : (l : List ℕ) (a : ℕ) (vs : List ℕ) (m : ℕ) → length vs ≡ m → a + m ≤ length l → take m (drop a (sets l a vs)) ≡ vs
sets_there l a vs m e fits =
    let there : sets l a vs ≡ take a l ++ (vs ++ drop (a + length vs) l) = sets-eq vs l a (omega arith) ∙ append_assoc (take a l) vs (drop (a + length vs) l) in
    ap (λ (xs : List ℕ). take m (drop a xs)) there
    ∙ ap (take m) (drop_at (take a l) (vs ++ drop (a + length vs) l) a (length-take-le a l (omega arith)))
    ∙ take_at vs (drop (a + length vs) l) m e

-- a part of eight that lies apart from the run
pub sets_part : (l : List ℕ) (a b : ℕ) (vs : List ℕ) → (b + 8 ≤ a) ⊎ (a + length vs ≤ b) → take 8 (drop b (sets l a vs)) ≡ take 8 (drop b l)
sets_part l a b vs apart =
    ext_get_or 0 (take 8 (drop b (sets l a vs))) (take 8 (drop b l))
    (simp (length-take, length-drop, length-sets))
    (λ x h. let near : x < 8 = omega (arith, rw (length-take 8 (drop b (sets l a vs))) at h) in
    get_or-take 8 (drop b (sets l a vs)) x 0 near ∙ get_or-drop b (sets l a vs) x 0
    ∙ sets_other l a vs (b + x) (⊎_elim (λ low. inl (omega arith)) (λ high. inr (omega arith)) apart)
    ∙ sym (get_or-take 8 (drop b l) x 0 near ∙ get_or-drop b l x 0))

-- the clock of an event after a clock was written at another's slot, and at its own
pub clock_other : (bytes : List ℕ) (e f : EventName) (clock : List ℕ) → length clock ≡ 8 → Storable e → Storable f → e ≢ f → clock_at (sets bytes (8 * slot f.column f.number) clock) e.column e.number ≡ clock_at bytes e.column e.number
unfolding clock_in
clock_other bytes e f clock long he hf differ =
    let a : ℕ = slot f.column f.number in
    let b : ℕ = slot e.column e.number in
    let ne : b ≢ a = slots_differ e f he hf differ in
    sets_part bytes (8 * slot f.column f.number) (8 * slot e.column e.number) clock
    (by_cases (dec_lt b a) (λ less. inl (omega arith)) (λ n. inr (omega (arith, long))))

pub clock_written : (bytes : List ℕ) (e : EventName) (clock : List ℕ) → length clock ≡ 8 → 16256 ≤ length bytes → Storable e → clock_at (sets bytes (8 * slot e.column e.number) clock) e.column e.number ≡ clock
unfolding clock_in
clock_written bytes e clock long full he =
    sets_there bytes (8 * slot e.column e.number) clock 8 long (omega (arith, slot_below e he))

-- a whole clock has eight entries; the part of the bytes from 8s to 8s + 8 is it
pub clock_in_long : (bytes : List ℕ) (s : ℕ) → 8 * s + 8 ≤ length bytes → length (clock_in bytes s) ≡ 8
unfolding clock_in
clock_in_long bytes s fits = simp (length-take, length-drop) (omega arith)

pub part_clock : (bytes : List ℕ) (s : ℕ) → take (8 * s + 8 - 8 * s) (drop (8 * s) bytes) ≡ clock_in bytes s
unfolding clock_in
part_clock bytes s =
    let eight-bytes : 8 * s + 8 - 8 * s ≡ 8 = omega arith in
    ap (λ (m : ℕ). take m (drop (8 * s) bytes)) eight-bytes

pub clock_long : (bytes : List ℕ) (e : EventName) → 16256 ≤ length bytes → Storable e → length (clock_at bytes e.column e.number) ≡ 8
clock_long bytes e full he = clock_in_long bytes (slot e.column e.number) (omega (arith, slot_below e he))
