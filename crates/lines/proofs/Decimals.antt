-- Decimal numbers: how a number grows digit by digit, read and written, and that one is the inverse of the other.
use mathlib.Core.Path.{◌≡◌, refl, sym, ap, ◌∙◌}
use mathlib.Core.Logic.{◌≢◌, by_cases}
use mathlib.Core.Bool.{Bool, true, false, false≢true, cond, not, ◌&&◌}
use mathlib.Core.List.{List, [], ◌∷◌, ◌++◌, append_assoc, append-nil}
use Prim.Native.Nat.{ℕ, zero, suc, ◌+◌, ◌-◌, ◌*◌, ◌/◌, ◌%◌, ◌≤◌, ◌<◌}
use native.Mathlib.Omega.{arith}
use native.Mathlib.Decide.{dec_lt, dec_le}
use borrow.Author.Tests.{lt-ltb, le-ltb, le-leb, lt-leb, eq-eqb, ne_eqb, leb-true, eqb-false, not-true}
use lib.Dec.{leb, ltb, eqb}
use native.Mathlib.Numerals.{add-one}
use lib.ListN.{length, get_or, drop, length-append, get_or-append, drop_of_length-le}
use lib.Seq.{drop-cons}
use Rattle.std.specs.Prelude.{Some, None}
use Rattle.std.proofs.lemmas.Bool.{and_parts, cond_both}
use Rattle.std.proofs.lemmas.Option.{none-some, same_Some}
use Rattle.lines.specs.Numbers.{decimal_from, decimal, plain, is_digit, all_digits, value_from, digits_from, number}

-- reading: one digit more, a byte that is none, a sum that passed the limit, and the end

pub grows : (sum : ℕ) (text : List ℕ) → sum ≤ value_from sum text
grows sum [] = omega arith
grows sum (b ∷ bs) = omega (arith, grows (10 * sum + (b - 48)) bs)

module _ (limit sum : ℕ) where
  module _ (text : List ℕ) (i : ℕ) (h : i < length text) where
    pub digit_on : is_digit (get_or text i 0) ≡ true → digits_from limit sum (drop i text) ≡ digits_from limit (10 * sum + (get_or text i 0 - 48)) (drop (i + 1) text)
    unfolding digits_from
    digit_on e = rw (add-one i, drop-cons text i 0 h) (simp e)

    pub digit_off : is_digit (get_or text i 0) ≡ false → digits_from limit sum (drop i text) ≡ None
    unfolding digits_from
    digit_off e = rw (drop-cons text i 0 h) (simp e)

  pub past_limit : (text : List ℕ) → limit < sum → digits_from limit sum text ≡ None
  unfolding digits_from
  past_limit text past =
      ap (λ (b : Bool). cond (all_digits text) (cond b (Some (value_from sum text)) None) None) (lt-leb (value_from sum text) limit (omega (arith, grows sum text)))
      ∙ cond_both (all_digits text) None None (λ o. o ≡ None) (λ e. refl) (λ e. refl)

  pub at_end : (text : List ℕ) (i : ℕ) → length text ≤ i → sum ≤ limit → digits_from limit sum (drop i text) ≡ Some sum
  unfolding digits_from
  at_end text i all within = rw (drop_of_length-le text all) (simp (le-leb sum limit within))

pub ruleset digit_by_digit = (digit_on, digit_off, past_limit, at_end)

-- writing: the steps that are counted down do not matter where they suffice

enough : (steps more n : ℕ) → n ≤ steps → n ≤ more → decimal_from steps n ≡ decimal_from more n
enough zero zero n h k = refl
enough zero (suc more) n h k = simp (lt-ltb n 10 (omega arith))
enough (suc steps) zero n h k = simp (lt-ltb n 10 (omega arith))
enough (suc steps) (suc more) n h k =
    by_cases (dec_lt n 10) (λ low. simp (lt-ltb n 10 low))
    (λ high. ap (λ (l : List ℕ). cond (ltb n 10) ((48 + n) ∷ []) (l ++ ((48 + n % 10) ∷ []))) (enough steps more (n / 10) (omega arith) (omega arith)))

pub decimal_digit : (n : ℕ) → n < 10 → decimal n ≡ (48 + n) ∷ []
unfolding decimal
decimal_digit zero h = refl
decimal_digit (suc n) h = simp (lt-ltb (suc n) 10 h)

pub decimal_tens : (n : ℕ) → 10 ≤ n → decimal n ≡ decimal (n / 10) ++ ((48 + n % 10) ∷ [])
unfolding decimal
decimal_tens zero h = let no : ⊥ = omega arith in absurd no
decimal_tens (suc n) h =
    ap (λ (b : Bool). cond b ((48 + suc n) ∷ []) (decimal_from n (suc n / 10) ++ ((48 + suc n % 10) ∷ []))) (le-ltb (suc n) 10 h)
    ∙ ap (λ (l : List ℕ). l ++ ((48 + suc n % 10) ∷ [])) (enough n (suc n / 10) (suc n / 10) (omega arith) (omega arith))

pub tens_length : (n : ℕ) → 10 ≤ n → length (decimal n) ≡ length (decimal (n / 10)) + 1
tens_length n h = ap length (decimal_tens n h) ∙ length-append (decimal (n / 10)) ((48 + n % 10) ∷ [])

-- going back: a text that is a number has only digits, no leading zero, and a value within the limit

all_picked : (a b c : Bool) (x v : ℕ) → cond a (cond b (cond c (Some x) None) None) None ≡ Some v → (a ≡ true) × (b ≡ true) × (c ≡ true) × (x ≡ v)
all_picked true true true x v e = (refl, refl, refl, same_Some x v e)
all_picked true true false x v e = absurd (none-some v e)
all_picked true false c x v e = absurd (none-some v e)
all_picked false b c x v e = absurd (none-some v e)

module _ (limit : ℕ) (text : List ℕ) (v : ℕ) (is : number limit text ≡ Some v) where
  parts : (plain text ≡ true) × (all_digits text ≡ true) × (leb (value_from 0 text) limit ≡ true) × (value_from 0 text ≡ v)
  unfolding number digits_from
  parts = all_picked (plain text) (all_digits text) (leb (value_from 0 text) limit) (value_from 0 text) v is

  pub number_limit : v ≤ limit
  number_limit = omega (arith, leb-true (value_from 0 text) limit parts.2, parts.3)

  pub digits_only : all_digits text ≡ true
  digits_only = parts.1

-- what is written has digits only and says the number: by the number's tenths

by_tens : (P : ℕ → Type 0) → ((n : ℕ) → n < 10 → P n) → ((n : ℕ) → 10 ≤ n → P (n / 10) → P n) → (steps n : ℕ) → n ≤ steps → P n
by_tens P small tens zero n h = small n (omega arith)
by_tens P small tens (suc steps) n h =
    by_cases (dec_lt n 10) (small n) (λ high. tens n (omega arith) (by_tens P small tens steps (n / 10) (omega arith)))

value_snoc : (sum : ℕ) (xs : List ℕ) (b : ℕ) → value_from sum (xs ++ (b ∷ [])) ≡ 10 * value_from sum xs + (b - 48)
value_snoc sum [] b = refl
value_snoc sum (x ∷ xs) b = value_snoc (10 * sum + (x - 48)) xs b

digits_snoc : (xs : List ℕ) (b : ℕ) → all_digits xs ≡ true → is_digit b ≡ true → all_digits (xs ++ (b ∷ [])) ≡ true
digits_snoc [] b e d = ap (λ (t : Bool). t && true) d
digits_snoc (x ∷ xs) b e d = both_hold (is_digit x) (all_digits xs) (all_digits (xs ++ (b ∷ []))) e (λ r. digits_snoc xs b r d)
  where
    both_hold : (s t u : Bool) → (s && t) ≡ true → (t ≡ true → u ≡ true) → (s && u) ≡ true
    both_hold true t u p f = f p
    both_hold false t u p f = p

digit_byte : (d : ℕ) → d < 10 → is_digit (48 + d) ≡ true
digit_byte d h = simp (le-leb 48 (48 + d) (omega arith), le-leb (48 + d) 57 (omega arith))

record Written (n : ℕ) : Type 0 where
  value : value_from 0 (decimal n) ≡ n
  digits : all_digits (decimal n) ≡ true
  some : 1 ≤ length (decimal n)
  first : 1 ≤ n → 49 ≤ get_or (decimal n) 0 0

written : (n : ℕ) → Written n
written n = by_tens Written small tens n n (omega arith)
  where
    small : (m : ℕ) → m < 10 → Written m
    small m h =
        let e = decimal_digit m h in
        record {
          value = ap (value_from 0) e ∙ omega arith;
          digits = ap all_digits e ∙ ap (λ (t : Bool). t && true) (digit_byte m h);
          some = omega (arith, ap length e);
          first = λ p. omega (arith, ap (λ (l : List ℕ). get_or l 0 0) e);
        }

    tens : (m : ℕ) → 10 ≤ m → Written (m / 10) → Written m
    tens m h w =
        let e = decimal_tens m h in
        let last = (48 + m % 10) ∷ [] in
        record {
          value = ap (value_from 0) e ∙ value_snoc 0 (decimal (m / 10)) (48 + m % 10) ∙ omega (arith, w.value);
          digits = ap all_digits e ∙ digits_snoc (decimal (m / 10)) (48 + m % 10) w.digits (digit_byte (m % 10) (omega arith));
          some = omega (arith, tens_length m h);
          first = λ p. omega (arith, ap (λ (l : List ℕ). get_or l 0 0) e ∙ get_or-append (decimal (m / 10)) last 0 0 w.some, w.first (omega arith));
        }

pub decimal_digits : (n : ℕ) → all_digits (decimal n) ≡ true
decimal_digits n = (written n).digits

pub decimal_some : (n : ℕ) → 1 ≤ length (decimal n)
decimal_some n = (written n).some

plain_if : (text : List ℕ) → 1 ≤ length text → (2 ≤ length text → 49 ≤ get_or text 0 0) → plain text ≡ true
unfolding plain
plain_if text some first =
    let filled : length text ≢ 0 = omega arith in
    by_cases (dec_le 2 (length text))
    (λ more. let two : length text ≢ 1 = omega arith in
    let other : get_or text 0 0 ≢ 48 = omega (arith, first more) in
    simp (ne_eqb (length text) 0 filled, ne_eqb (length text) 1 two, ne_eqb (get_or text 0 0) 48 other))
    (λ one. simp (ne_eqb (length text) 0 filled, eq-eqb (length text) 1 (omega arith)))

decimal_plain : (n : ℕ) → plain (decimal n) ≡ true
decimal_plain n =
    plain_if (decimal n) (written n).some
    (λ more. (written n).first (by_cases (dec_lt n 1) (λ low. omega (arith, ap length (decimal_digit n (omega arith)))) (λ high. omega arith)))

-- the number that is written is read back
pub number_written : (limit n : ℕ) → n ≤ limit → number limit (decimal n) ≡ Some n
unfolding number digits_from
number_written limit n h =
    ap (λ (b : Bool). cond b (cond (all_digits (decimal n)) (cond (leb (value_from 0 (decimal n)) limit) (Some (value_from 0 (decimal n))) None) None) None) (decimal_plain n)
    ∙ ap (λ (b : Bool). cond b (cond (leb (value_from 0 (decimal n)) limit) (Some (value_from 0 (decimal n))) None) None) (written n).digits
    ∙ ap (λ (v : ℕ). cond (leb v limit) (Some v) None) (written n).value
    ∙ ap (λ (b : Bool). cond b (Some n) None) (le-leb n limit h)

-- a text that is read is what would be written: digit by digit, behind a number that is not 0

decimal_next : (sum d : ℕ) → 1 ≤ sum → d < 10 → decimal (10 * sum + d) ≡ decimal sum ++ ((48 + d) ∷ [])
decimal_next sum d h low =
    let tenth : (10 * sum + d) / 10 ≡ sum = omega arith in
    let last : (10 * sum + d) % 10 ≡ d = omega arith in
    decimal_tens (10 * sum + d) (omega arith)
    ∙ ap (λ (m : ℕ). decimal m ++ ((48 + (10 * sum + d) % 10) ∷ [])) tenth
    ∙ ap (λ (m : ℕ). decimal sum ++ ((48 + m) ∷ [])) last

pub digit_bounds : (b : ℕ) (t : Bool) → (is_digit b && t) ≡ true → (48 ≤ b) × (b ≤ 57) × (t ≡ true)
digit_bounds b t e =
    let first = and_parts (is_digit b) t e in
    let both = and_parts (leb 48 b) (leb b 57) first.0 in
    (leb-true 48 b both.0, leb-true b 57 both.1, first.1)

decimal_more : (sum : ℕ) (text : List ℕ) → 1 ≤ sum → all_digits text ≡ true → decimal (value_from sum text) ≡ decimal sum ++ text
decimal_more sum [] h e = sym (append-nil (decimal sum))
decimal_more sum (b ∷ bs) h e =
    let here = digit_bounds b (all_digits bs) e in
    let byte : 48 + (b - 48) ≡ b = omega (arith, here.0) in
    decimal_more (10 * sum + (b - 48)) bs (omega arith) here.2
    ∙ ap (λ (l : List ℕ). l ++ bs) (decimal_next sum (b - 48) h (omega (arith, here.1)))
    ∙ append_assoc (decimal sum) ((48 + (b - 48)) ∷ []) bs
    ∙ ap (λ (x : ℕ). decimal sum ++ (x ∷ bs)) byte

plain_two : (b x : ℕ) (bs : List ℕ) → plain (b ∷ x ∷ bs) ≡ not (eqb b 48)
unfolding plain
plain_two b x bs =
    let some : suc (suc (length bs)) ≢ 0 = omega arith in
    let two : suc (suc (length bs)) ≢ 1 = omega arith in
    simp (ne_eqb (suc (suc (length bs))) 0 some, ne_eqb (suc (suc (length bs))) 1 two)

decimal_of : (text : List ℕ) → plain text ≡ true → all_digits text ≡ true → decimal (value_from 0 text) ≡ text
unfolding plain
decimal_of [] p e = absurd (false≢true p)
decimal_of (b ∷ []) p e =
    let here = digit_bounds b true e in
    let byte : 48 + (10 * 0 + (b - 48)) ≡ b = omega (arith, here.0) in
    decimal_digit (10 * 0 + (b - 48)) (omega (arith, here.1)) ∙ ap (λ (x : ℕ). x ∷ []) byte
decimal_of (b ∷ x ∷ bs) p e =
    let here = digit_bounds b (all_digits (x ∷ bs)) e in
    let other = eqb-false b 48 (not-true _ (sym (plain_two b x bs) ∙ p)) in
    let byte : 48 + (10 * 0 + (b - 48)) ≡ b = omega (arith, here.0) in
    decimal_more (10 * 0 + (b - 48)) (x ∷ bs) (omega (arith, here.0, other)) here.2
    ∙ ap (λ (l : List ℕ). l ++ (x ∷ bs)) (decimal_digit (10 * 0 + (b - 48)) (omega (arith, here.1)))
    ∙ ap (λ (y : ℕ). y ∷ x ∷ bs) byte

pub number_back : (limit : ℕ) (text : List ℕ) (v : ℕ) → number limit text ≡ Some v → text ≡ decimal v
number_back limit text v is =
    let p = parts limit text v is in
    sym (decimal_of text p.0 p.1) ∙ ap decimal p.3
