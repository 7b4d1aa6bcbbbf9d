-- The lexical order is strict; on lists of one length it is "at the first entry where they differ, the smaller". Strictly
-- rising lists with the same members are equal.
use mathlib.Core.Path.{◌≡◌, refl, sym, ap₂, ◌∙◌, subst}
use mathlib.Core.Logic.{◌⊎◌, inl, inr, ⊎_elim, by_cases}
use mathlib.Core.Bool.{Bool, true, false}
use mathlib.Core.List.Memᴰ
use mathlib.Core.List.{List, [], ◌∷◌, ◌++◌, Memᴰ}
use Prim.Native.Nat.{ℕ, zero, suc, ◌≤◌, ◌<◌}
use native.Mathlib.Omega.{arith}
use native.Mathlib.Nat.{not-suc-le-zero}
use native.Mathlib.Decide.{ℕ_discrete, dec_lt}
use borrow.Author.Tests.{lt-ltb, le-ltb, eq-eqb, ne_eqb}
use lib.Dec.{T, ltb}
use lib.ListN.{length}
use Rattle.model.specs.Lists.{at, cons_if, keep}
use Rattle.model.specs.Lexical.{lex_before, Rising}
use Rattle.model.proofs.Lists.{keep_from}

-- the two ways in which one list stands before another, and back
pub ahead : (x y : ℕ) (G H : List ℕ) → x < y → T (lex_before (x ∷ G) (y ∷ H))
ahead x y G H h = simp (lt-ltb x y h) tt

pub level : (x y : ℕ) (G H : List ℕ) → x ≡ y → T (lex_before G H) → T (lex_before (x ∷ G) (y ∷ H))
level x y G H e t =
    let no_less : ltb x y ≡ false = le-ltb x y (omega arith) in
    simp (no_less, eq-eqb x y e) t

pub ways : (x y : ℕ) (G H : List ℕ) → T (lex_before (x ∷ G) (y ∷ H)) → (x < y) ⊎ ((x ≡ y) × T (lex_before G H))
ways x y G H t =
    by_cases (dec_lt x y) inl
    (λ n. let no_less : ltb x y ≡ false = le-ltb x y (omega arith) in
    by_cases (ℕ_discrete x y)
    (λ e. inr (e, simp (no_less, eq-eqb x y e) at t))
    (λ d. absurd (simp (no_less, ne_eqb x y d) at t)))

pub lex_irrefl : (G : List ℕ) → T (lex_before G G) → ⊥
lex_irrefl [] t = t
lex_irrefl (x ∷ G) t = ⊎_elim (λ h. omega arith) (λ h. lex_irrefl G h.1) (ways x x G G t)

pub lex_trans : (G H K : List ℕ) → T (lex_before G H) → T (lex_before H K) → T (lex_before G K)
lex_trans [] [] K s t = absurd s
lex_trans [] (y ∷ H) [] s t = absurd t
lex_trans [] (y ∷ H) (z ∷ K) s t = tt
lex_trans (x ∷ G) [] K s t = absurd s
lex_trans (x ∷ G) (y ∷ H) [] s t = absurd t
lex_trans (x ∷ G) (y ∷ H) (z ∷ K) s t =
    ⊎_elim
    (λ (h : x < y). ⊎_elim (λ (k : y < z). ahead x z G K (omega arith)) (λ (k : (y ≡ z) × T (lex_before H K)). ahead x z G K (omega arith)) (ways y z H K t))
    (λ (h : (x ≡ y) × T (lex_before G H)). ⊎_elim
    (λ (k : y < z). ahead x z G K (omega arith))
    (λ (k : (y ≡ z) × T (lex_before H K)). level x z G K (h.0 ∙ k.0) (lex_trans G H K h.1 k.1))
    (ways y z H K t))
    (ways x y G H s)

-- the first entry where two lists differ, and that the first has the smaller one there
pub record DiffersAt (G H : List ℕ) (d : ℕ) : Type 0 where
  pub same : (j : ℕ) → j < d → at G j ≡ at H j
  pub less : at G d < at H d

-- on lists of one length the test says just that
pub lex_differs : (G H : List ℕ) → length G ≡ length H → T (lex_before G H) → (d : ℕ) × (d < length G) × DiffersAt G H d
lex_differs [] [] e t = absurd t
lex_differs [] (y ∷ H) e t = let z : ⊥ = omega arith in absurd z
lex_differs (x ∷ G) [] e t = absurd t
lex_differs (x ∷ G) (y ∷ H) e t =
    ⊎_elim here (λ h. there h (lex_differs G H (omega arith) h.1)) (ways x y G H t)
  where
    here : x < y → (d : ℕ) × (d < suc (length G)) × DiffersAt (x ∷ G) (y ∷ H) d
    here h = (0, omega arith, record { same = λ j b. absurd (not-suc-le-zero b); less = h })

    agree : {d : ℕ} → x ≡ y → DiffersAt G H d → (j : ℕ) → j < suc d → at (x ∷ G) j ≡ at (y ∷ H) j
    agree e D zero b = e
    agree e D (suc j) b = D.same j (omega arith)

    there : (x ≡ y) × T (lex_before G H) → (d : ℕ) × (d < length G) × DiffersAt G H d → (d : ℕ) × (d < suc (length G)) × DiffersAt (x ∷ G) (y ∷ H) d
    there h D = (suc D.0, omega (arith, D.1), record { same = agree h.0 D.2; less = D.2.less })

pub differs_lex : (G H : List ℕ) → length G ≡ length H → (d : ℕ) → d < length G → DiffersAt G H d → T (lex_before G H)
differs_lex [] H e d h D = absurd (not-suc-le-zero h)
differs_lex (x ∷ G) [] e d h D = let z : ⊥ = omega arith in absurd z
differs_lex (x ∷ G) (y ∷ H) e zero h D = ahead x y G H D.less
differs_lex (x ∷ G) (y ∷ H) e (suc d) h D =
    level x y G H (D.same 0 (omega arith))
    (differs_lex G H (omega arith) d (omega arith) (record { same = λ j b. D.same (suc j) (omega arith); less = D.less }))

-- strictly rising lists with the same members are equal
module _ (G H : List ℕ) (Gs Hs : List (List ℕ)) (rG : Rising (G ∷ Gs)) (rH : Rising (H ∷ Hs)) where
  heads : Memᴰ G (H ∷ Hs) → Memᴰ H (G ∷ Gs) → G ≡ H
  heads m n =
      ⊎_elim (λ e. e)
      (λ m'. ⊎_elim sym (λ n'. absurd (lex_irrefl G (lex_trans G H G (rG.0 H n') (rH.0 G m')))) (Memᴰ.cases_cons n))
      (Memᴰ.cases_cons m)

  -- a member of the first tail is in the second, when the heads are equal
  tails : G ≡ H → (K : List ℕ) → Memᴰ K Gs → Memᴰ K (H ∷ Hs) → Memᴰ K Hs
  tails e K m n = ⊎_elim (λ k. absurd (lex_irrefl G (subst (λ (X : List ℕ). T (lex_before G X)) (k ∙ sym e) (rG.0 K m)))) (λ n'. n') (Memᴰ.cases_cons n)

pub rising_equal : (Gs Hs : List (List ℕ)) → Rising Gs → Rising Hs → ((K : List ℕ) → Memᴰ K Gs → Memᴰ K Hs) → ((K : List ℕ) → Memᴰ K Hs → Memᴰ K Gs) → Gs ≡ Hs
rising_equal [] [] rG rH f g = refl
rising_equal [] (H ∷ Hs) rG rH f g = absurd (Memᴰ.not-nil (g H (Memᴰ.head refl)))
rising_equal (G ∷ Gs) [] rG rH f g = absurd (Memᴰ.not-nil (f G (Memᴰ.head refl)))
rising_equal (G ∷ Gs) (H ∷ Hs) rG rH f g =
    let e : G ≡ H = heads G H Gs Hs rG rH (f G (Memᴰ.head refl)) (g H (Memᴰ.head refl)) in
    ap₂ {C = List (List ℕ)} ◌∷◌ e
    (rising_equal Gs Hs rG.1 rH.1
    (λ K m. tails G H Gs Hs rG rH e K m (f K (Memᴰ.tail m)))
    (λ K m. tails H G Hs Gs rH rG (sym e) K m (g K (Memᴰ.tail m))))

-- what is kept of a rising list rises
pub keep_rising : (test : List ℕ → Bool) (Gs : List (List ℕ)) → Rising Gs → Rising (keep test Gs)
keep_rising test [] r = tt
keep_rising test (G ∷ Gs) r = go (test G) (keep_rising test Gs r.1)
  where
    go : (b : Bool) → Rising (keep test Gs) → Rising (cons_if b G (keep test Gs))
    go true rest = (λ H m. r.0 H (keep_from test Gs m).0, rest)
    go false rest = rest

pub append_rising : (Gs Hs : List (List ℕ)) → Rising Gs → Rising Hs → ((G H : List ℕ) → Memᴰ G Gs → Memᴰ H Hs → T (lex_before G H)) → Rising (Gs ++ Hs)
append_rising [] Hs rG rH f = rH
append_rising (G ∷ Gs) Hs rG rH f = (
  λ H m. ⊎_elim (rG.0 H) (λ n. f G H (Memᴰ.head refl) n) (Memᴰ.append_cases Gs m),
  append_rising Gs Hs rG.1 rH (λ K L m n. f K L (Memᴰ.tail m) n),
)

-- of two lists of one length, one at most the other in each entry is equal to it or stands before it
pub at_most_lex : (U W : List ℕ) → length U ≡ length W → ((j : ℕ) → j < length U → at U j ≤ at W j) → (U ≡ W) ⊎ T (lex_before U W)
at_most_lex [] [] e most = inl refl
at_most_lex [] (y ∷ W) e most = let z : ⊥ = omega arith in absurd z
at_most_lex (x ∷ U) [] e most = let z : ⊥ = omega arith in absurd z
at_most_lex (x ∷ U) (y ∷ W) e most =
    by_cases (dec_lt x y) (λ less. inr (ahead x y U W less))
    (λ n. let same : x ≡ y = omega (arith, most 0 (omega arith)) in
    ⊎_elim (λ tails. inl (ap₂ {C = List ℕ} ◌∷◌ same tails)) (λ t. inr (level x y U W same t))
    (at_most_lex U W (omega arith) (λ j h. most (suc j) (omega arith))))
