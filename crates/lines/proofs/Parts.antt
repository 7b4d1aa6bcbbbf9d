-- Where a text parts: one turn of each search, and the parts of a text that is put together.
use mathlib.Core.Path.{◌≡◌, refl, sym, ap, ap₂, ◌∙◌}
use mathlib.Core.Logic.{◌≢◌, by_cases}
use mathlib.Core.Bool.{Bool, true, false, false≢true, cond, ◌&&◌}
use mathlib.Core.List.{List, [], ◌∷◌, ◌++◌}
use Prim.Native.Nat.{ℕ, suc, ◌+◌, ◌≤◌, ◌<◌}
use native.Mathlib.Omega.{arith}
use native.Mathlib.Decide.{ℕ_discrete, dec_lt}
use borrow.Author.Tests.{lt-ltb, le-ltb, eq-eqb, ne_eqb, eqb-true}
use lib.Dec.{T, eqb, ltb}
use lib.ListN.{length, take, drop, length-append}
use lib.Seq.{length-take-le, take_at, drop-append-add, drop-append_seam}
use lib.Pointwise.{pointwise}
use Rattle.std.specs.Prelude.{Option, Some, None, MatchOption, unwrap_or}
use Rattle.std.proofs.Common.{Bor}
use Rattle.std.specs.List.{position_or_len}
use Rattle.std.proofs.lemmas.Bool.{and_parts, cond_both}
use Rattle.std.proofs.lemmas.Bool.Decides.{same_from_decides}
use Rattle.std.proofs.lemmas.Slice.Eq.{bytes_eq-Decides}
use Rattle.std.proofs.lemmas.List.Recursion.{is_position_or_len}
use Rattle.model.proofs.Tests.{holds}
use Rattle.lines.specs.Numbers.{all_digits}
use Rattle.lines.proofs.Decimals.{digit_bounds}
use Rattle.lines.specs.Find.{find, found, line_length, first_line, rest_lines, starts_with, value_behind}

-- the search for a byte

pub find_most : (byte : ℕ) (text : List ℕ) → find byte text ≤ length text
find_most byte [] = omega arith
find_most byte (b ∷ bs) = cond_both (eqb b byte) 0 (suc (find byte bs)) (λ n. n ≤ suc (length bs)) (λ e. omega arith) (λ e. omega (arith, find_most byte bs))

-- as the library's search has it
pub find_is : (byte : ℕ) (text : List ℕ) → find byte text ≡ position_or_len (λ b. eqb b byte) text
find_is byte text =
    is_position_or_len (find byte) (λ b. eqb b byte) refl
    (λ b bs. ap (λ (n : ℕ). cond (eqb b byte) 0 n) (omega arith)) text

pub find_from : (byte : ℕ) (text : List ℕ) (r : Option ℕ) → r ≡ cond (ltb (position_or_len (λ b. eqb b byte) text) (length text)) (Some (position_or_len (λ b. eqb b byte) text)) None → unwrap_or r (length text) ≡ find byte text
find_from byte text r e =
    let at = position_or_len (λ b. eqb b byte) text in
    by_cases (dec_lt at (length text))
    (λ h. ap (λ (o : Option ℕ). unwrap_or o (length text)) (e ∙ ap (λ (t : Bool). cond t (Some at) None) (lt-ltb at (length text) h)) ∙ sym (find_is byte text))
    (λ n. ap (λ (o : Option ℕ). unwrap_or o (length text)) (e ∙ ap (λ (t : Bool). cond t (Some at) None) (le-ltb at (length text) (omega arith))) ∙ omega (arith, find_is byte text, find_most byte text))

-- the comparison with a key, as the library has it: the text's front against the key, and the key against the text's front

pub starts_is : (key text : List ℕ) → starts_with key text ≡ pointwise eqb (take (length key) text) key
starts_is [] text = refl
starts_is (k ∷ ks) [] = refl
starts_is (k ∷ ks) (b ∷ bs) = ap (λ (t : Bool). eqb b k && t) (starts_is ks bs)

pub starts_as : (key text : List ℕ) → starts_with key text ≡ pointwise eqb key (take (length key) text)
starts_as key text =
    let front = take (length key) text in
    let turned = bytes_eq-Decides key front in
    starts_is key text ∙ same_from_decides (pointwise eqb front key) (pointwise eqb key front) (bytes_eq-Decides front key) (λ e. sym (turned.0 e), λ e. turned.1 (sym e))

-- what a key that is stripped off leaves
pub value_stripped : (key line : List ℕ) (r : Option (Bor (List ℕ))) (nothing : Bor (List ℕ)) → nothing.now ≡ [] → MatchOption r (pointwise eqb (take (length key) line) key ≡ false) (λ x. (pointwise eqb (take (length key) line) key ≡ true) × (x.now ≡ drop (length key) line) × (length x.now + length key ≡ length line)) → (unwrap_or r nothing).now ≡ value_behind key line
unfolding value_behind
value_stripped key line None nothing e h =
    e ∙ sym (ap (λ (t : Bool). cond t (drop (length key) line) []) (starts_is key line ∙ h))
value_stripped key line (Some x) nothing e h =
    h.1 ∙ sym (ap (λ (t : Bool). cond t (drop (length key) line) []) (starts_is key line ∙ h.0))

-- a part that lacks a byte: the search for it goes through

pub through : (byte : ℕ) (xs ys : List ℕ) → find byte xs ≡ length xs → find byte (xs ++ ys) ≡ length xs + find byte ys
through byte [] ys e = omega arith
through byte (x ∷ xs) ys e = on (eqb x byte) e (λ h. through byte xs ys h)
  where
    on : (t : Bool) → cond t 0 (suc (find byte xs)) ≡ suc (length xs) → (find byte xs ≡ length xs → find byte (xs ++ ys) ≡ length xs + find byte ys) → cond t 0 (suc (find byte (xs ++ ys))) ≡ suc (length xs) + find byte ys
    on true h rest = let no : ⊥ = omega arith in absurd no
    on false h rest = omega (arith, rest (omega arith))

pub digits_lack : (byte : ℕ) (xs : List ℕ) → byte < 48 → all_digits xs ≡ true → find byte xs ≡ length xs
digits_lack byte [] h e = refl
digits_lack byte (x ∷ xs) h e =
    let here = digit_bounds x (all_digits xs) e in
    let other : x ≢ byte = omega (arith, here.0) in
    ap (λ (t : Bool). cond t 0 (suc (find byte xs))) (ne_eqb x byte other) ∙ ap suc (digits_lack byte xs h here.2)

-- up to the byte and behind it
module _ (byte : ℕ) (xs ys : List ℕ) (lacks : find byte xs ≡ length xs) where
  pub found_at : find byte (xs ++ (byte ∷ ys)) ≡ length xs
  found_at =
      through byte xs (byte ∷ ys) lacks
      ∙ ap (λ (t : Bool). length xs + cond t 0 (suc (find byte ys))) (eq-eqb byte byte refl)
      ∙ omega arith

  pub is_found : find byte (xs ++ (byte ∷ ys)) < length (xs ++ (byte ∷ ys))
  is_found = omega (arith, found_at, length-append xs (byte ∷ ys))

  pub before_it : take (find byte (xs ++ (byte ∷ ys))) (xs ++ (byte ∷ ys)) ≡ xs
  before_it = take_at xs (byte ∷ ys) (find byte (xs ++ (byte ∷ ys))) (sym found_at)

  pub behind_it_lem : drop (find byte (xs ++ (byte ∷ ys)) + 1) (xs ++ (byte ∷ ys)) ≡ ys
  behind_it_lem =
      let e : find byte (xs ++ (byte ∷ ys)) + 1 ≡ length xs + 1 = omega (arith, found_at) in
      ap (λ (n : ℕ). drop n (xs ++ (byte ∷ ys))) e ∙ drop-append-add xs (byte ∷ ys) 1

-- a text is what stands before a byte that was found, the byte, and what stands behind it
pub parted : (byte : ℕ) (text : List ℕ) → find byte text < length text → take (find byte text) text ++ (byte ∷ drop (find byte text + 1) text) ≡ text
parted byte [] h = let no : ⊥ = omega arith in absurd no
parted byte (b ∷ bs) h = by_cases (ℕ_discrete b byte) here (λ other. on other (parted byte bs))
  where
    here : b ≡ byte → take (find byte (b ∷ bs)) (b ∷ bs) ++ (byte ∷ drop (find byte (b ∷ bs) + 1) (b ∷ bs)) ≡ b ∷ bs
    here e =
        ap (λ (n : ℕ). take n (b ∷ bs) ++ (byte ∷ drop (n + 1) (b ∷ bs))) (ap (λ (t : Bool). cond t 0 (suc (find byte bs))) (eq-eqb b byte e))
        ∙ ap (λ (x : ℕ). x ∷ bs) (sym e)

    on : b ≢ byte → (find byte bs < length bs → take (find byte bs) bs ++ (byte ∷ drop (find byte bs + 1) bs) ≡ bs) → take (find byte (b ∷ bs)) (b ∷ bs) ++ (byte ∷ drop (find byte (b ∷ bs) + 1) (b ∷ bs)) ≡ b ∷ bs
    on other rest =
        let next : find byte (b ∷ bs) ≡ suc (find byte bs) = ap (λ (t : Bool). cond t 0 (suc (find byte bs))) (ne_eqb b byte other) in
        let far : suc (find byte bs) + 1 ≡ suc (find byte bs + 1) = omega arith in
        ap (λ (n : ℕ). take n (b ∷ bs) ++ (byte ∷ drop (n + 1) (b ∷ bs))) next
        ∙ ap (λ (n : ℕ). b ∷ (take (find byte bs) bs ++ (byte ∷ drop n (b ∷ bs)))) far
        ∙ ap (λ (l : List ℕ). b ∷ l) (rest (omega (arith, next)))

-- the first line of a text, and what follows it

module _ (line rest : List ℕ) (lacks : find 10 line ≡ length line) where
  pub line_length_lem : line_length (line ++ (10 ∷ rest)) ≡ length line
  unfolding line_length
  line_length_lem =
      ap (λ (t : Bool). cond t (find 10 (line ++ (10 ∷ rest))) 0) (lt-ltb (find 10 (line ++ (10 ∷ rest))) (length (line ++ (10 ∷ rest))) (is_found 10 line rest lacks))
      ∙ found_at 10 line rest lacks

  pub first_line_lem : first_line (line ++ (10 ∷ rest)) ≡ line
  first_line_lem = take_at line (10 ∷ rest) (line_length (line ++ (10 ∷ rest))) (sym line_length_lem)

  pub rest_lines_lem : rest_lines (line ++ (10 ∷ rest)) ≡ rest
  rest_lines_lem =
      ap (λ (n : ℕ). drop (n + 1) (line ++ (10 ∷ rest))) line_length_lem ∙ drop-append-add line (10 ∷ rest) 1

-- a line that is not empty was ended by its LF, and the text is that line, the LF, and the rest
module _ (text : List ℕ) (some : 1 ≤ length (first_line text)) where
  pub ended : find 10 text < length text
  unfolding line_length
  ended =
      by_cases (dec_lt (find 10 text) (length text)) (λ h. h)
      (λ n. let none : line_length text ≡ 0 = ap (λ (t : Bool). cond t (find 10 text) 0) (le-ltb (find 10 text) (length text) (omega arith)) in
      let empty : length (take (line_length text) text) ≡ 0 = ap (λ (m : ℕ). length (take m text)) none in
      omega arith)

  pub whole_line : line_length text ≡ find 10 text
  unfolding line_length
  whole_line = ap (λ (t : Bool). cond t (find 10 text) 0) (lt-ltb (find 10 text) (length text) ended)

  pub line_inside : line_length text < length text
  line_inside = omega (arith, whole_line, ended)

  pub line_parted : first_line text ++ (10 ∷ rest_lines text) ≡ text
  line_parted = ap (λ (n : ℕ). take n text ++ (10 ∷ drop (n + 1) text)) whole_line ∙ parted 10 text ended

-- a line with its key

key_and_rest : (key line : List ℕ) → starts_with key line ≡ true → key ++ drop (length key) line ≡ line
key_and_rest [] line e = refl
key_and_rest (k ∷ ks) [] e = absurd (false≢true e)
key_and_rest (k ∷ ks) (b ∷ bs) e =
    let t = and_parts (eqb b k) (starts_with ks bs) e in
    ap₂ (λ (x : ℕ) (l : List ℕ). x ∷ l) (sym (eqb-true b k t.0)) (key_and_rest ks bs t.1)

pub starts_key : (key value : List ℕ) → starts_with key (key ++ value) ≡ true
starts_key [] value = refl
starts_key (k ∷ ks) value = ap (λ (t : Bool). t && starts_with ks (ks ++ value)) (eq-eqb k k refl) ∙ starts_key ks value

pub value_keyed : (key value : List ℕ) → value_behind key (key ++ value) ≡ value
unfolding value_behind
value_keyed key value =
    ap (λ (t : Bool). cond t (drop (length key) (key ++ value)) []) (starts_key key value) ∙ drop-append_seam key value

-- a value that is not empty stands behind its key
module _ (key line : List ℕ) (some : 1 ≤ length (value_behind key line)) where
  keyed : starts_with key line ≡ true
  unfolding value_behind
  keyed = holds (starts_with key line) (by_test (starts_with key line) some)
    where
      by_test : (t : Bool) → 1 ≤ length (cond t (drop (length key) line) []) → T t
      by_test true h = tt
      by_test false h = let no : ⊥ = omega arith in absurd no

  pub line_keyed : key ++ value_behind key line ≡ line
  unfolding value_behind
  line_keyed =
      ap (λ (t : Bool). key ++ cond t (drop (length key) line) []) keyed ∙ key_and_rest key line keyed

  pub value_some : 1 ≤ length line
  value_some = omega (arith, simp length-append at (ap length line_keyed))

pub line_most : (text : List ℕ) → line_length text ≤ length text
unfolding line_length
line_most text = by_test (found 10 text)
  where
    by_test : (t : Bool) → cond t (find 10 text) 0 ≤ length text
    by_test true = find_most 10 text
    by_test false = omega arith

-- the bytes of a line, as they are lent on
pub line_lent : (text : List ℕ) (end : ℕ) → end ≡ line_length text → end ≡ length (take end text)
line_lent text end e = sym (length-take-le end text (omega (arith, line_most text)))
