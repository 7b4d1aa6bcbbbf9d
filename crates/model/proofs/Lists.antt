-- Laws of `keep` and of membership.
use mathlib.Core.Path.{◌≡◌, refl, ap₂}
use mathlib.Core.Logic.{◌⊎◌, inl, inr, ⊎_elim}
use mathlib.Core.Bool.{Bool, true, false, not, ◌&&◌}
use mathlib.Core.List.Memᴰ
use mathlib.Core.List.{List, [], ◌∷◌, Memᴰ}
use Prim.Native.Nat.{◌+◌}
use native.Mathlib.Omega.{arith}
use lib.Dec.{T}
use lib.ListN.{length}
use Rattle.model.specs.Lists.{cons_if, keep}

module _ {A : Type 0} where
  kept : (b : Bool) (x : A) (xs : List A) {y : A} → Memᴰ y (cons_if b x xs) → (T b × (y ≡ x)) ⊎ Memᴰ y xs
  kept true x xs m = ⊎_elim (λ e. inl (tt, e)) inr (Memᴰ.cases_cons m)
  kept false x xs m = inr m

  kept_head : (b : Bool) (x : A) (xs : List A) → T b → Memᴰ x (cons_if b x xs)
  kept_head true x xs t = Memᴰ.head refl
  kept_head false x xs t = absurd t

  kept_tail : (b : Bool) (x : A) (xs : List A) {y : A} → Memᴰ y xs → Memᴰ y (cons_if b x xs)
  kept_tail true x xs m = Memᴰ.tail m
  kept_tail false x xs m = m

  -- what is kept was there and passes the test, and the other way round
  pub keep_from : (test : A → Bool) (xs : List A) {y : A} → Memᴰ y (keep test xs) → Memᴰ y xs × T (test y)
  keep_from test [] m = absurd (Memᴰ.not-nil m)
  keep_from test (x ∷ xs) {y} m =
      ⊎_elim
      (λ h. (Memᴰ.head h.1, rw h.1 h.0))
      (λ n. let r = keep_from test xs n in (Memᴰ.tail r.0, r.1))
      (kept (test x) x (keep test xs) m)

  pub keep_into : (test : A → Bool) (xs : List A) {y : A} → Memᴰ y xs → T (test y) → Memᴰ y (keep test xs)
  keep_into test [] m t = absurd (Memᴰ.not-nil m)
  keep_into test (x ∷ xs) {y} m t =
      ⊎_elim
      (λ e. rw e (kept_head (test x) x (keep test xs) (rw e at t)))
      (λ n. kept_tail (test x) x (keep test xs) (keep_into test xs n t))
      (Memᴰ.cases_cons m)

  -- tests that agree on a list keep the same of it
  pub keep_same : (test other : A → Bool) (xs : List A) → ((y : A) → Memᴰ y xs → test y ≡ other y) → keep test xs ≡ keep other xs
  keep_same test other [] f = refl
  keep_same test other (x ∷ xs) f =
      ap₂ {C = List A} (λ b ys. cons_if b x ys) (f x (Memᴰ.head refl))
      (keep_same test other xs (λ y m. f y (Memᴰ.tail m)))

  -- what a second test parts is counted once on each side
  pub keep_parts : (test other : A → Bool) (xs : List A) → length (keep test xs) ≡ length (keep (λ y. not (other y) && test y) xs) + length (keep (λ y. other y && test y) xs)
  keep_parts test other [] = refl
  keep_parts test other (x ∷ xs) = part (test x) (other x) (keep_parts test other xs)
    where
      part : (a b : Bool) → length (keep test xs) ≡ length (keep (λ y. not (other y) && test y) xs) + length (keep (λ y. other y && test y) xs) → length (cons_if a x (keep test xs)) ≡ length (cons_if (not b && a) x (keep (λ y. not (other y) && test y) xs)) + length (cons_if (b && a) x (keep (λ y. other y && test y) xs))
      part true true e = omega arith
      part true false e = omega arith
      part false true e = e
      part false false e = e
