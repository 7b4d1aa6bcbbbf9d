-- Where the reader stands: a line begins there, and it is one more than there are LFs in front; and so it stays as it is moved on.
use mathlib.Core.Path.{◌≡◌, refl, sym, ap, ◌∙◌}
use mathlib.Core.Bool.{Bool, true, false, cond}
use mathlib.Core.List.{List, [], ◌∷◌}
use Prim.Native.Nat.{ℕ, zero, suc, ◌+◌, ◌≤◌, ◌<◌}
use native.Mathlib.Omega.{arith}
use native.Mathlib.Numerals.{add-one}
use borrow.Author.Tests.{eq-eqb, eqb-true}
use lib.Dec.{eqb}
use lib.ListN.{length, get_or, drop, length-drop}
use lib.Seq.{get_or-drop}
use Rattle.std.proofs.lemmas.Bool.{cond_both}
use Rattle.lines.specs.Find.{find, first_line}
use Rattle.lines.proofs.Parts.{ended, whole_line, line_inside}
use Rattle.loglines.specs.Events.{line_bytes}
use Rattle.text.specs.Steps.{feeds, begins_line, Placed}

-- no more LFs than bytes
feeds_most : (n : ℕ) (text : List ℕ) → feeds n text ≤ n
feeds_most zero text = omega arith
feeds_most (suc n) [] = omega arith
feeds_most (suc n) (b ∷ bs) = cond_both (eqb b 10) 1 0 (λ k. k + feeds n bs ≤ suc n) (λ e. omega (arith, feeds_most n bs)) (λ e. omega (arith, feeds_most n bs))

-- those of two parts are those of the first and those of the second
feeds_none : (n : ℕ) → feeds n [] ≡ 0
feeds_none zero = refl
feeds_none (suc n) = refl

feeds_parts : (a b : ℕ) (text : List ℕ) → feeds (a + b) text ≡ feeds a text + feeds b (drop a text)
feeds_parts zero b text =
    let none : 0 + b ≡ b = omega arith in
    let same : feeds b text ≡ 0 + feeds b text = omega arith in
    ap (λ (k : ℕ). feeds k text) none ∙ same
feeds_parts (suc a) b [] = omega (arith, feeds_none (suc a + b), feeds_none b)
feeds_parts (suc a) b (x ∷ xs) =
    let next : suc a + b ≡ suc (a + b) = omega arith in
    let rest : cond (eqb x 10) 1 0 + feeds (a + b) xs ≡ cond (eqb x 10) 1 0 + feeds a xs + feeds b (drop a xs) = omega (arith, feeds_parts a b xs) in
    ap (λ (k : ℕ). feeds k (x ∷ xs)) next ∙ rest

-- a whole line has one, its last byte
one_feed : (b : Bool) (bs : List ℕ) → (find 10 bs < length bs → feeds (suc (find 10 bs)) bs ≡ 1) → cond b 0 (suc (find 10 bs)) < suc (length bs) → cond b 1 0 + feeds (cond b 0 (suc (find 10 bs))) bs ≡ 1
one_feed true bs rest h = refl
one_feed false bs rest h = omega (arith, rest (omega arith))

feeds_found : (text : List ℕ) → find 10 text < length text → feeds (suc (find 10 text)) text ≡ 1
feeds_found [] h = let no : ⊥ = omega arith in absurd no
feeds_found (b ∷ bs) h = one_feed (eqb b 10) bs (feeds_found bs) h

line_feeds : (text : List ℕ) → 1 ≤ length (first_line text) → feeds (line_bytes text) text ≡ 1
line_feeds text some =
    ap (λ (k : ℕ). feeds (k + 1) text) (whole_line text some)
    ∙ ap (λ (k : ℕ). feeds k text) (add-one (find 10 text))
    ∙ feeds_found text (ended text some)

-- that byte

one_byte : (b : ℕ) (bs : List ℕ) (t : Bool) → eqb b 10 ≡ t → (find 10 bs < length bs → get_or bs (find 10 bs) 0 ≡ 10) → cond t 0 (suc (find 10 bs)) < suc (length bs) → get_or (b ∷ bs) (cond t 0 (suc (find 10 bs))) 0 ≡ 10
one_byte b bs true e rest h = eqb-true b 10 e
one_byte b bs false e rest h = rest (omega arith)

found_byte : (text : List ℕ) → find 10 text < length text → get_or text (find 10 text) 0 ≡ 10
found_byte [] h = let no : ⊥ = omega arith in absurd no
found_byte (b ∷ bs) h = one_byte b bs (eqb b 10) refl (found_byte bs) h

line_begins : (text : List ℕ) → 1 ≤ length (first_line text) → begins_line text (line_bytes text) ≡ true
line_begins text some =
    ap (λ (k : ℕ). begins_line text (k + 1)) (whole_line text some)
    ∙ ap (begins_line text) (add-one (find 10 text))
    ∙ eq-eqb (get_or text (find 10 text) 0) 10 (found_byte text (ended text some))

-- where a line begins in what is left, it begins in the text
begins_on : (text : List ℕ) (at bytes : ℕ) → begins_line text at ≡ true → begins_line (drop at text) bytes ≡ true → begins_line text (at + bytes) ≡ true
begins_on text at zero here there =
    let same : at + 0 ≡ at = omega arith in
    ap (begins_line text) same ∙ here
begins_on text at (suc k) here there =
    let next : at + suc k ≡ suc (at + k) = omega arith in
    ap (begins_line text) next ∙ ap (λ (b : ℕ). eqb b 10) (sym (get_or-drop at text k 0)) ∙ there

-- places: the front, behind a whole line, and further on

pub at_front : (text : List ℕ) → Placed text 0 1
at_front text = record { inside = omega arith; begins = refl; agrees = refl }

pub behind_line : (text : List ℕ) → 1 ≤ length (first_line text) → Placed text (line_bytes text) 2
behind_line text some =
    record { inside = omega (arith, line_inside text some); begins = line_begins text some; agrees = omega (arith, line_feeds text some) }

module _ (text : List ℕ) (at line : ℕ) (p : Placed text at line) where
  pub few_lines : line ≤ at + 1
  few_lines = omega (arith, p.agrees, feeds_most at text)

  pub further : (bytes lines : ℕ) → Placed (drop at text) bytes (lines + 1) → Placed text (at + bytes) (line + lines)
  further bytes lines q = record {
    inside = omega (arith, p.inside, q.inside, length-drop at text);
    begins = begins_on text at bytes p.begins q.begins;
    agrees = omega (arith, p.agrees, q.agrees, feeds_parts at bytes text);
  }
