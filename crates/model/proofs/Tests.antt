-- Laws of tests: a conjunction, a condition, and `all_below` read at an index and built from every index.
use mathlib.Core.Path.{◌≡◌, refl, sym, ap, ap₂, subst, ◌∙◌}
use mathlib.Core.Bool.{Bool, true, false, true≢false, ◌&&◌, and-true, and_assoc}
use Prim.Native.Nat.{ℕ, zero, suc, ◌+◌, ◌≤◌, ◌<◌}
use native.Mathlib.Nat.{not-suc-le-zero}
use native.Mathlib.Numerals.{add-one}
use native.Mathlib.Omega.{arith}
use borrow.Author.Count.{below_more}
use lib.Dec.{T}
use lib.ListN.{length, get_or}
use mathlib.Core.List.{List, [], ◌∷◌}
use Rattle.std.specs.List.{list_all, zip, range_with_len}
use Rattle.model.specs.Lists.{all_below, sum_below}

pub and_left : (a b : Bool) → T (a && b) → T a
and_left true b t = tt
and_left false b t = t

pub and_right : (a b : Bool) → T (a && b) → T b
and_right true b t = t
and_right false b t = absurd t

pub and_both : (a b : Bool) → T a → T b → T (a && b)
and_both true b s t = t
and_both false b s t = s

pub holds : (b : Bool) → T b → b ≡ true
holds true t = refl
holds false t = absurd t

pub fails : (b : Bool) → (T b → ⊥) → b ≡ false
fails true n = absurd (n tt)
fails false n = refl

-- a test holds or it does not
pub decided : (b : Bool) → Dec (T b)
decided true = yes tt
decided false = no (λ t. t)

pub all_below_at : (n : ℕ) (test : ℕ → Bool) → T (all_below n test) → (j : ℕ) → j < n → T (test j)
all_below_at zero test t = λ j h. absurd (not-suc-le-zero h)
all_below_at (suc n) test t =
    subst (λ (m : ℕ). (j : ℕ) → j < m → T (test j)) (add-one n)
    (below_more (λ j. T (test j)) n (all_below_at n test (and_left (all_below n test) (test n) t)) (and_right (all_below n test) (test n) t))

pub all_below_all : (n : ℕ) (test : ℕ → Bool) → ((j : ℕ) → j < n → T (test j)) → T (all_below n test)
all_below_all zero test f = tt
all_below_all (suc n) test f =
    and_both (all_below n test) (test n) (all_below_all n test (λ j h. f j (omega arith))) (f n (omega arith))

-- the same for a loop that counts up: one more, and the first failure
pub all_below_more : (n : ℕ) (test : ℕ → Bool) → all_below n test ≡ true → test n ≡ true → all_below (n + 1) test ≡ true
all_below_more n test before here = ap (λ (m : ℕ). all_below m test) (add-one n) ∙ ap₂ ◌&&◌ before here

pub all_below_stop : (m n : ℕ) (test : ℕ → Bool) → n < m → test n ≡ false → all_below m test ≡ false
all_below_stop m n test h stop =
    fails (all_below m test) (λ t. true≢false (sym (holds (test n) (all_below_at m test t n h)) ∙ stop))

-- what agrees below n has the same conjunction and the same sum
pub all_below_same : (n : ℕ) (test other : ℕ → Bool) → ((j : ℕ) → j < n → test j ≡ other j) → all_below n test ≡ all_below n other
all_below_same zero test other f = refl
all_below_same (suc n) test other f =
    ap₂ ◌&&◌ (all_below_same n test other (λ j h. f j (omega arith))) (f n (omega arith))

pub sum_below_same : (n : ℕ) (f g : ℕ → ℕ) → ((j : ℕ) → j < n → f j ≡ g j) → sum_below n f ≡ sum_below n g
sum_below_same zero f g same = refl
sum_below_same (suc n) f g same =
    ap₂ ◌+◌ (sum_below_same n f g (λ j h. same j (omega arith))) (same n (omega arith))

-- a conjunction below the next number, read from its front
all_below_front : (n : ℕ) (test : ℕ → Bool) → all_below (suc n) test ≡ test 0 && all_below n (λ j. test (suc j))
all_below_front zero test = sym (and-true (test 0))
all_below_front (suc n) test =
    ap (λ (b : Bool). b && test (suc n)) (all_below_front n test) ∙ and_assoc (test 0) (all_below n (λ j. test (suc j))) (test (suc n))

-- a test of each pair that a `zip` gives is a test at each index
pub all_zipped : (test : ℕ → ℕ → Bool) (xs ys : List ℕ) (n : ℕ) → length xs ≡ n → n ≤ length ys → list_all (λ (p : ℕ × ℕ). test p.0 p.1) (zip xs ys) ≡ all_below n (λ j. test (get_or xs j 0) (get_or ys j 0))
all_zipped test [] ys n long fits = ap (λ (m : ℕ). all_below m (λ j. test (get_or [] j 0) (get_or ys j 0))) long
all_zipped test (x ∷ xs) [] n long fits = let z : ⊥ = omega arith in absurd z
all_zipped test (x ∷ xs) (y ∷ ys) n long fits =
    ap (λ (b : Bool). test x y && b) (all_zipped test xs ys (length xs) refl (omega arith))
    ∙ sym (all_below_front (length xs) (λ j. test (get_or (x ∷ xs) j 0) (get_or (y ∷ ys) j 0)))
    ∙ ap (λ (m : ℕ). all_below m (λ j. test (get_or (x ∷ xs) j 0) (get_or (y ∷ ys) j 0))) long

-- a test of each number that a range gives is a test below its end
pub all_in_range : (test : ℕ → Bool) (n a : ℕ) → list_all test (range_with_len a n) ≡ all_below n (λ j. test (a + j))
all_in_range test zero a = refl
all_in_range test (suc n) a =
    let start : a ≡ a + 0 = omega arith in
    ap₂ ◌&&◌ (ap test start)
    (all_in_range test n (a + 1)
    ∙ all_below_same n (λ j. test (a + 1 + j)) (λ j. test (a + suc j)) (λ j h. let next : a + 1 + j ≡ a + suc j = omega arith in ap test next))
    ∙ sym (all_below_front n (λ j. test (a + j)))
