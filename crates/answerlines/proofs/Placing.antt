-- Laws of bytes placed in an output.
use mathlib.Core.Path.{◌≡◌, sym, ap, ◌∙◌}
use mathlib.Core.List.{List, [], ◌∷◌, ◌++◌, append_assoc, append-nil}
use Prim.Native.Nat.{ℕ, suc, ◌+◌, ◌-◌, ◌≤◌}
use native.Mathlib.Omega.{arith}
use borrow.Rule.Slice.PartMut.{put_mid}
use lib.ListN.{length, take, drop, set, length-drop, drop_of_length-le}
use lib.Seq.{sets, sets-eq, take_all, drop-drop}

-- bytes behind bytes
pub sets_append : (l : List ℕ) (a : ℕ) (xs ys : List ℕ) → sets (sets l a xs) (a + length xs) ys ≡ sets l a (xs ++ ys)
sets_append l a [] ys = let e : a + 0 ≡ a = omega arith in ap (λ (i : ℕ). sets l i ys) e
sets_append l a (x ∷ xs) ys =
    let e : a + suc (length xs) ≡ suc a + length xs = omega arith in
    ap (λ (i : ℕ). sets (sets (set l a x) (suc a) xs) i ys) e ∙ sets_append (set l a x) (suc a) xs ys

-- written at offset 0
pub sets_front : (out text : List ℕ) → length text ≤ length out → sets out 0 text ≡ text ++ drop (length text) out
sets_front out text fits =
    let none : 0 + length text ≡ length text = omega arith in
    let h : 0 + length text ≤ length out = omega arith in
    sets-eq text out 0 h ∙ ap (λ (k : ℕ). text ++ drop k out) none

-- bytes written at the front of the part behind an offset, and put back
pub part_sets : (out : List ℕ) (from : ℕ) (bytes : List ℕ) → from + length bytes ≤ length out → put_mid from (length out - from) out (sets (take (length out - from) (drop from out)) 0 bytes) ≡ sets out from bytes
part_sets out from bytes fits =
    let inside : from ≤ length out = omega arith in
    let rest : take (length out - from) (drop from out) ≡ drop from out = take_all (length out - from) (drop from out) (let h : length (drop from out) ≤ length out - from = omega (arith, length-drop from out) in h) in
    let part-fits : length bytes ≤ length (drop from out) = omega (arith, length-drop from out) in
    let none : drop (length out - from) (drop from out) ≡ [] = drop_of_length-le (drop from out) (let h : length (drop from out) ≤ length out - from = omega (arith, length-drop from out) in h) in
    ap (λ (l : List ℕ). take from out ++ (sets l 0 bytes ++ drop (length out - from) (drop from out))) rest
    ∙ ap (λ (l : List ℕ). take from out ++ (sets (drop from out) 0 bytes ++ l)) none
    ∙ ap (λ (l : List ℕ). take from out ++ l) (append-nil (sets (drop from out) 0 bytes) ∙ sets_front (drop from out) bytes part-fits ∙ ap (λ (l : List ℕ). bytes ++ l) (drop-drop (length bytes) from out))
    ∙ sym (append_assoc (take from out) bytes (drop (from + length bytes) out))
    ∙ sym (sets-eq bytes out from fits)
