-- Theorem 1: the box of a bound has exactly the vectors within it, strictly rising.
use mathlib.Core.Path.{◌≡◌, refl, sym, ap, subst}
use mathlib.Core.Logic.{⊎_elim, by_cases}
use mathlib.Core.List.Memᴰ
use mathlib.Core.List.{List, [], ◌∷◌, map, Memᴰ}
use Prim.Native.Nat.{ℕ, zero, suc, ◌≤◌, ◌<◌}
use native.Mathlib.Omega.{arith}
use native.Mathlib.Nat.{not-suc-le-zero}
use native.Mathlib.Decide.{ℕ_discrete}
use lib.Dec.{T}
use lib.ListN.{length}
use Rattle.model.specs.Lists.{at}
use Rattle.model.specs.Cuts.{rows, box, Within}
use Rattle.model.specs.Lexical.{lex_before, Rising}
use Rattle.model.proofs.Lexical.{ahead, level, append_rising}

-- one entry put before each of a list of vectors
column_rising : (v : ℕ) (rest : List (List ℕ)) → Rising rest → Rising (map (λ G. v ∷ G) rest)
column_rising v [] r = tt
column_rising v (R ∷ rest) r = (
  λ K m. let c = Memᴰ.of_map (λ G. v ∷ G) rest m in subst (λ (X : List ℕ). T (lex_before (v ∷ R) X)) c.2 (level v v R c.0 refl (r.0 c.0 c.1)),
  column_rising v rest r.1,
)

-- the rows for a first entry from 0 to b
from_rows : (b : ℕ) (rest : List (List ℕ)) (K : List ℕ) → Memᴰ K (rows b rest) → (v : ℕ) × (G : List ℕ) × (v ≤ b) × (K ≡ v ∷ G) × Memᴰ G rest
from_rows zero rest K m = let c = Memᴰ.of_map (λ G. 0 ∷ G) rest m in (0, c.0, omega arith, sym c.2, c.1)
from_rows (suc b) rest K m =
    ⊎_elim
    (λ n. let r = from_rows b rest K n in (r.0, r.1, omega (arith, r.2), r.3, r.4))
    (λ n. let c = Memᴰ.of_map (λ G. suc b ∷ G) rest n in (suc b, c.0, omega arith, sym c.2, c.1))
    (Memᴰ.append_cases (rows b rest) m)

into_rows : (b : ℕ) (rest : List (List ℕ)) (v : ℕ) (G : List ℕ) → v ≤ b → Memᴰ G rest → Memᴰ (v ∷ G) (rows b rest)
into_rows zero rest v G h m = let e : v ≡ 0 = omega arith in rw e (Memᴰ.map (λ G. 0 ∷ G) m)
into_rows (suc b) rest v G h m =
    by_cases (ℕ_discrete v (suc b))
    (λ e. rw e (Memᴰ.append_right (rows b rest) (Memᴰ.map (λ G. suc b ∷ G) m)))
    (λ n. Memᴰ.append_left (map (λ G. suc b ∷ G) rest) (into_rows b rest v G (omega arith) m))

rows_rising : (b : ℕ) (rest : List (List ℕ)) → Rising rest → Rising (rows b rest)
rows_rising zero rest r = column_rising 0 rest r
rows_rising (suc b) rest r =
    append_rising (rows b rest) (map (λ G. suc b ∷ G) rest) (rows_rising b rest r) (column_rising (suc b) rest r) apart
  where
    apart : (K L : List ℕ) → Memᴰ K (rows b rest) → Memᴰ L (map (λ G. suc b ∷ G) rest) → T (lex_before K L)
    apart K L m n =
        let c = from_rows b rest K m in
        let d = Memᴰ.of_map (λ G. suc b ∷ G) rest n in
        let low : c.0 ≤ b = c.2 in
        subst (λ (X : List ℕ). T (lex_before X L)) (sym c.3)
        (subst (λ (X : List ℕ). T (lex_before (c.0 ∷ c.1) X)) d.2 (ahead c.0 (suc b) c.1 d.0 (omega arith)))

pub box_rising : (bound : List ℕ) → Rising (box bound)
box_rising [] = (λ H m. absurd (Memᴰ.not-nil m), tt)
box_rising (b ∷ bound) = rows_rising b (box bound) (box_rising bound)

pub box_from : (bound G : List ℕ) → Memᴰ G (box bound) → Within bound G
box_from [] G m = ⊎_elim (λ e. rw e (record { long = refl; most = λ j h. absurd (not-suc-le-zero h) })) (λ n. absurd (Memᴰ.not-nil n)) (Memᴰ.cases_cons m)
box_from (b ∷ bound) K m =
    let r = from_rows b (box bound) K m in
    subst (Within (b ∷ bound)) (sym r.3) (grown r.0 r.1 r.2 (box_from bound r.1 r.4))
  where
    most : (v : ℕ) (G : List ℕ) → v ≤ b → Within bound G → (j : ℕ) → j < suc (length bound) → at (v ∷ G) j ≤ at (b ∷ bound) j
    most v G h w zero k = h
    most v G h w (suc j) k = w.most j (omega arith)

    grown : (v : ℕ) (G : List ℕ) → v ≤ b → Within bound G → Within (b ∷ bound) (v ∷ G)
    grown v G h w = record { long = ap suc w.long; most = most v G h w }

pub box_into : (bound G : List ℕ) → Within bound G → Memᴰ G (box bound)
box_into [] [] w = Memᴰ.head refl
box_into [] (v ∷ G) w = let z : ⊥ = omega (arith, w.long) in absurd z
box_into (b ∷ bound) [] w = let z : ⊥ = omega (arith, w.long) in absurd z
box_into (b ∷ bound) (v ∷ G) w =
    into_rows b (box bound) v G (w.most 0 (omega arith))
    (box_into bound G (record { long = omega (arith, w.long); most = λ j h. w.most (suc j) (omega arith) }))
