-- Laws of rising lists: what stands behind a member, and that no member stands twice.
use mathlib.Core.Path.{◌≡◌, refl, sym, ap, ◌∙◌}
use mathlib.Core.Logic.{⊎_elim}
use mathlib.Core.Bool.{Bool}
use mathlib.Core.List.Memᴰ
use mathlib.Core.List.{List, [], ◌∷◌, ◌++◌, Memᴰ}
use Prim.Native.Nat.{ℕ, ◌≤◌}
use native.Mathlib.Omega.{arith}
use lib.Dec.{T}
use lib.ListN.{length}
use Rattle.model.specs.Lists.{cons_if, keep}
use Rattle.model.specs.Lexical.{lex_before, Rising}
use Rattle.model.proofs.Tests.{holds, fails}
use Rattle.model.proofs.Lexical.{lex_irrefl, lex_trans}
use Rattle.demands.specs.Calls.{NoneTwice}

-- a list taken apart at a member, and at its last
pub record Around (Gs : List (List ℕ)) (G : List ℕ) : Type 0 where
  pub before : List (List ℕ)
  pub behind : List (List ℕ)
  pub parts : Gs ≡ before ++ (G ∷ behind)

pub around : (Gs : List (List ℕ)) (G : List ℕ) → Memᴰ G Gs → Around Gs G
around [] G m = absurd (Memᴰ.not-nil m)
around (H ∷ Gs) G m =
    ⊎_elim (λ e. record { before = []; behind = Gs; parts = ap (λ (K : List ℕ). K ∷ Gs) (sym e) })
    (λ n. let a = around Gs G n in record { before = H ∷ a.before; behind = a.behind; parts = ap (λ (l : List (List ℕ)). H ∷ l) a.parts })
    (Memᴰ.cases_cons m)

pub record Ended (Gs : List (List ℕ)) : Type 0 where
  pub before : List (List ℕ)
  pub last : List ℕ
  pub parts : Gs ≡ before ++ (last ∷ [])

pub ended : (Gs : List (List ℕ)) → 1 ≤ length Gs → Ended Gs
ended [] h = let z : ⊥ = omega arith in absurd z
ended (G ∷ []) h = record { before = []; last = G; parts = refl }
ended (G ∷ H ∷ Gs) h =
    let e = ended (H ∷ Gs) (omega arith) in
    record { before = G ∷ e.before; last = e.last; parts = ap (λ (l : List (List ℕ)). G ∷ l) e.parts }

pub middle : (before : List (List ℕ)) (G : List ℕ) (behind : List (List ℕ)) → Memᴰ G (before ++ (G ∷ behind))
middle [] G behind = Memᴰ.head refl
middle (H ∷ before) G behind = Memᴰ.tail (middle before G behind)

keep_all : (G : List ℕ) (Gs : List (List ℕ)) → ((H : List ℕ) → Memᴰ H Gs → T (lex_before G H)) → keep (lex_before G) Gs ≡ Gs
keep_all G [] f = refl
keep_all G (H ∷ Gs) f =
    ap (λ (b : Bool). cons_if b H (keep (lex_before G) Gs)) (holds (lex_before G H) (f H (Memᴰ.head refl)))
    ∙ ap (λ (l : List (List ℕ)). H ∷ l) (keep_all G Gs (λ K m. f K (Memᴰ.tail m)))

-- what stands lexically behind a member is what stands behind it in the list
pub keep_behind : (before : List (List ℕ)) (G : List ℕ) (behind : List (List ℕ)) → Rising (before ++ (G ∷ behind)) → keep (lex_before G) (before ++ (G ∷ behind)) ≡ behind
keep_behind [] G behind r =
    ap (λ (b : Bool). cons_if b G (keep (lex_before G) behind)) (fails (lex_before G G) (lex_irrefl G))
    ∙ keep_all G behind r.0
keep_behind (H ∷ before) G behind r =
    ap (λ (b : Bool). cons_if b H (keep (lex_before G) (before ++ (G ∷ behind)))) (fails (lex_before G H) (λ t. lex_irrefl G (lex_trans G H G t (r.0 G (middle before G behind)))))
    ∙ keep_behind before G behind r.1

pub rising_none_twice : (Gs : List (List ℕ)) → Rising Gs → NoneTwice Gs
rising_none_twice [] r = tt
rising_none_twice (G ∷ Gs) r = (λ m. lex_irrefl G (r.0 G m), rising_none_twice Gs r.1)

-- two lists without repeats and without a common member
pub append_none_twice : (Gs Hs : List (List ℕ)) → NoneTwice Gs → NoneTwice Hs → ((G : List ℕ) → Memᴰ G Gs → Memᴰ G Hs → ⊥) → NoneTwice (Gs ++ Hs)
append_none_twice [] Hs g h apart = h
append_none_twice (G ∷ Gs) Hs g h apart = (
  λ m. ⊎_elim g.0 (apart G (Memᴰ.head refl)) (Memᴰ.append_cases Gs m),
  append_none_twice Gs Hs g.1 h (λ K m n. apart K (Memᴰ.tail m) n),
)
