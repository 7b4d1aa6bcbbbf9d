-- Lists: one entry at a time, read and written.
use mathlib.Core.Path.{◌≡◌, refl, sym, ap, ap₂, ◌∙◌}
use mathlib.Core.Logic.{by_cases}
use mathlib.Core.Bool.{Bool, true, false, cond}
use mathlib.Core.List.{List, [], ◌∷◌, ◌++◌, append_assoc, append-nil}
use Rattle.std.specs.Prelude.{Option, Some, None}
use Rattle.std.proofs.lemmas.Bool.{cond_both}
use Rattle.std.proofs.lemmas.List.{take_rest, take_more_set, length_push}
use Rattle.std.proofs.lemmas.Option.{none-some, same_Some}
use Prim.Native.Nat.{ℕ, zero, suc, ◌+◌, ◌-◌, ◌≤◌, ◌<◌}
use native.Mathlib.Omega.{arith}
use native.Mathlib.Decide.{dec_lt}
use borrow.Author.Tests.{lt-ltb, le-ltb, le-leb, lt-leb, ltb-true}
use lib.ListN.{length, get_or, take, drop, set, length-append, length-drop, length-set, get_or-eq_default}
use lib.Seq.{length-take-le, get_or-take, get_or-set_other}
use Rattle.model.specs.Lists.{at, eight}
use Rattle.model.proofs.Entries.{at_eight, length_eight, same_entries}
use Rattle.lines.specs.Numbers.{number, decimal}
use Rattle.lines.proofs.Decimals.{decimal_digits, decimal_some, number_written, number_back, number_limit}
use Rattle.lines.proofs.Parts.{find_most, digits_lack, is_found, before_it, behind_it_lem, parted}
use Rattle.lines.specs.Find.{find, found, before, behind}
use Rattle.lines.specs.Lists.{with_entry, entries, listed, listed_by, comma_list, more_entries}

-- entries that were read, before what the rest gives
abbrev pub behind_them : List ℕ → Option (List ℕ) → Option (List ℕ)
behind_them vs None = None
behind_them vs (Some ws) = Some (vs ++ ws)

behind_one : (vs : List ℕ) (v : ℕ) (o : Option (List ℕ)) → behind_them vs (with_entry (Some v) o) ≡ behind_them (vs ++ (v ∷ [])) o
behind_one vs v None = refl
behind_one vs v (Some ws) = ap Some (sym (append_assoc vs (v ∷ []) ws))

module _ (vs rest : List ℕ) (count j : ℕ) where
  -- more than one entry is due: a comma must end this one
  module _ (more : j + 1 < count) (end : ℕ) (is : end ≡ find 44 rest) where
    two : count - j ≡ suc (suc (count - j - 2))
    two = omega arith

    pub entry_read : (v : ℕ) → (end ≡ length rest → ⊥) → number 255 (take end rest) ≡ Some v → behind_them vs (entries (count - j) rest) ≡ behind_them (vs ++ (v ∷ [])) (entries (count - (j + 1)) (drop (end + 1) rest))
    entry_read v h e =
        let one : suc (count - j - 2) ≡ count - (j + 1) = omega arith in
        let there : find 44 rest < length rest = omega (arith, find_most 44 rest) in
        ap (λ (m : ℕ). behind_them vs (entries m rest)) two
        ∙ ap (λ (b : Bool). behind_them vs (cond b (with_entry (number 255 (before 44 rest)) (entries (suc (count - j - 2)) (behind 44 rest))) None)) (lt-ltb (find 44 rest) (length rest) there)
        ∙ ap (λ (k : ℕ). behind_them vs (with_entry (number 255 (take k rest)) (entries (suc (count - j - 2)) (drop (k + 1) rest)))) (sym is)
        ∙ ap (λ (x : Option ℕ). behind_them vs (with_entry x (entries (suc (count - j - 2)) (drop (end + 1) rest)))) e
        ∙ behind_one vs v (entries (suc (count - j - 2)) (drop (end + 1) rest))
        ∙ ap (λ (m : ℕ). behind_them (vs ++ (v ∷ [])) (entries m (drop (end + 1) rest))) one

    pub no_comma : end ≡ length rest → behind_them vs (entries (count - j) rest) ≡ None
    no_comma h =
        ap (λ (m : ℕ). behind_them vs (entries m rest)) two
        ∙ ap (λ (b : Bool). behind_them vs (cond b (with_entry (number 255 (before 44 rest)) (entries (suc (count - j - 2)) (behind 44 rest))) None)) (le-ltb (find 44 rest) (length rest) (omega arith))

    pub faulty_entry : number 255 (take end rest) ≡ None → behind_them vs (entries (count - j) rest) ≡ None
    faulty_entry e =
        ap (λ (m : ℕ). behind_them vs (entries m rest)) two
        ∙ ap (λ (x : Option ℕ). behind_them vs (cond (found 44 rest) (with_entry x (entries (suc (count - j - 2)) (behind 44 rest))) None)) (ap (λ (k : ℕ). number 255 (take k rest)) (sym is) ∙ e)
        ∙ cond_both (found 44 rest) None None (λ o. behind_them vs o ≡ None) (λ b. refl) (λ b. refl)

  -- one entry is due: it is the whole rest
  module _ (some_left : j < count) (last : count ≤ j + 1) where
    one_left : count - j ≡ suc zero
    one_left = omega arith

    pub last_read : (v : ℕ) → number 255 rest ≡ Some v → behind_them vs (entries (count - j) rest) ≡ Some (vs ++ (v ∷ []))
    last_read v e =
        ap (λ (m : ℕ). behind_them vs (entries m rest)) one_left
        ∙ ap (λ (x : Option ℕ). behind_them vs (with_entry x (Some []))) e

-- the eight values after a store at the first that is not set yet
module _ (values : List ℕ) (j v : ℕ) (long : length values ≡ 8) (fits : j < 8) (clear : (i : ℕ) → j ≤ i → get_or values i 0 ≡ 0) where
  pub still_clear : (i : ℕ) → j + 1 ≤ i → get_or (set values j v) i 0 ≡ 0
  still_clear i h = get_or-set_other values j i v 0 (omega arith) ∙ clear i (omega arith)

  pub all_values : set values j v ≡ eight (at (take j values ++ (v ∷ [])))
  all_values =
      same_entries (set values j v) (eight (at (take j values ++ (v ∷ [])))) (length-set values j v ∙ long) (length_eight (at (take j values ++ (v ∷ []))))
      (λ i h. by_cases (dec_lt i (j + 1)) (λ low. low_entry i low ∙ sym (at_eight (at (take j values ++ (v ∷ []))) i h))
      (λ high. still_clear i (omega arith)
      ∙ sym (at_eight (at (take j values ++ (v ∷ []))) i h ∙ get_or-eq_default (take j values ++ (v ∷ [])) 0 (omega (arith, length_push (take j values) v, length-take-le j values (omega arith))))))
    where
      low_entry : (i : ℕ) → i < j + 1 → get_or (set values j v) i 0 ≡ get_or (take j values ++ (v ∷ [])) i 0
      low_entry i low = sym (get_or-take (j + 1) (set values j v) i 0 low) ∙ ap (λ (l : List ℕ). get_or l i 0) (take_more_set values j v (omega arith))

pub ruleset entry_by_entry = (find_most, number_limit, take_rest, length-drop, length-take-le, entry_read, no_comma, faulty_entry, last_read, take_more_set, still_clear, all_values)

-- lists of one to eight entries
pub listed_some : (count : ℕ) (text : List ℕ) → count ≤ 8 → listed count text ≡ listed_by (entries count text)
unfolding listed
listed_some count text h = ap (λ (b : Bool). cond b (listed_by (entries count text)) None) (le-leb count 8 h)

pub listed_many : (count : ℕ) (text : List ℕ) → 8 < count → listed count text ≡ None
unfolding listed
listed_many count text h = ap (λ (b : Bool). cond b (listed_by (entries count text)) None) (lt-leb count 8 h)

-- what is written is read back, and what is read is what would be written

pub data Small : List ℕ → Type 0 where
  none_left : Small []
  and_small : {v : ℕ} {vs : List ℕ} → v ≤ 255 → Small vs → Small (v ∷ vs)

pub decimal_lacks : (byte v : ℕ) → byte < 48 → find byte (decimal v) ≡ length (decimal v)
decimal_lacks byte v h = digits_lack byte (decimal v) h (decimal_digits v)

pub entries_written : (v : ℕ) (vs : List ℕ) → Small (v ∷ vs) → entries (suc (length vs)) (comma_list (v ∷ vs)) ≡ Some (v ∷ vs)
entries_written v [] (and_small h rest) =
    ap (λ (l : List ℕ). with_entry (number 255 l) (Some [])) (append-nil (decimal v))
    ∙ ap (λ (x : Option ℕ). with_entry x (Some [])) (number_written 255 v h)
entries_written v (w ∷ ws) (and_small h rest) =
    let text = decimal v ++ (44 ∷ comma_list (w ∷ ws)) in
    let lacks = decimal_lacks 44 v (omega arith) in
    ap (λ (b : Bool). cond b (with_entry (number 255 (before 44 text)) (entries (suc (length ws)) (behind 44 text))) None) (lt-ltb (find 44 text) (length text) (is_found 44 (decimal v) (comma_list (w ∷ ws)) lacks))
    ∙ ap₂ (λ (l r : List ℕ). with_entry (number 255 l) (entries (suc (length ws)) r)) (before_it 44 (decimal v) (comma_list (w ∷ ws)) lacks) (behind_it_lem 44 (decimal v) (comma_list (w ∷ ws)) lacks)
    ∙ ap₂ with_entry (number_written 255 v h) (entries_written w ws rest)

-- a list that was read, told by its first entry
pub record Back (count : ℕ) (text vs : List ℕ) : Type 0 where
  pub long : length vs ≡ count
  pub bytes : text ≡ comma_list vs
  pub small : Small vs
  pub filled : 1 ≤ length vs

record FirstBack (x : Option ℕ) (o : Option (List ℕ)) (vs : List ℕ) : Type 0 where
  first : ℕ
  others : List ℕ
  is : x ≡ Some first
  rest : o ≡ Some others
  both : vs ≡ first ∷ others

first_back : (x : Option ℕ) (o : Option (List ℕ)) (vs : List ℕ) → with_entry x o ≡ Some vs → FirstBack x o vs
first_back None o vs e = absurd (none-some vs e)
first_back (Some v) None vs e = absurd (none-some vs e)
first_back (Some v) (Some ws) vs e =
    record { first = v; others = ws; is = refl; rest = refl; both = sym (same_Some (v ∷ ws) vs e) }

picked : (b : Bool) (o : Option (List ℕ)) (vs : List ℕ) → cond b o None ≡ Some vs → (b ≡ true) × (o ≡ Some vs)
picked true o vs e = (refl, e)
picked false o vs e = absurd (none-some vs e)

pub entries_back : (more : ℕ) (text vs : List ℕ) → entries (suc more) text ≡ Some vs → Back (suc more) text vs
entries_back zero text vs e =
    let f = first_back (number 255 text) (Some []) vs e in
    let none_more : f.others ≡ [] = sym (same_Some [] f.others f.rest) in
    let one : vs ≡ f.first ∷ [] = f.both ∙ ap (λ (l : List ℕ). f.first ∷ l) none_more in
    record {
      long = ap length one;
      bytes = number_back 255 text f.first f.is ∙ sym (append-nil (decimal f.first)) ∙ sym (ap comma_list one);
      small = rw one (and_small (number_limit 255 text f.first f.is) none_left);
      filled = omega (arith, ap length one);
    }
entries_back (suc more) text vs e =
    let p = picked (found 44 text) (with_entry (number 255 (before 44 text)) (entries (suc more) (behind 44 text))) vs e in
    let f = first_back (number 255 (before 44 text)) (entries (suc more) (behind 44 text)) vs p.1 in
    with_first more text vs p.0 f (entries_back more (behind 44 text) f.others f.rest)
  where
    joined : (v : ℕ) (ws : List ℕ) → 1 ≤ length ws → decimal v ++ (44 ∷ comma_list ws) ≡ comma_list (v ∷ ws)
    joined v [] h = let no : ⊥ = omega arith in absurd no
    joined v (w ∷ ws) h = refl

    with_first : (m : ℕ) (l us : List ℕ) → found 44 l ≡ true → (f : FirstBack (number 255 (before 44 l)) (entries (suc m) (behind 44 l)) us) → Back (suc m) (behind 44 l) f.others → Back (suc (suc m)) l us
    with_first m l us there f back =
        record {
          long = ap length f.both ∙ ap suc back.long;
          bytes = sym (parted 44 l (ltb-true (find 44 l) (length l) there))
              ∙ ap₂ (λ (x y : List ℕ). x ++ (44 ∷ y)) (number_back 255 (before 44 l) f.first f.is) back.bytes
              ∙ joined f.first f.others back.filled
              ∙ sym (ap comma_list f.both);
          small = rw f.both (and_small (number_limit 255 (before 44 l) f.first f.is) back.small);
          filled = omega (arith, ap length f.both);
        }

-- a list that the reader answers
pub record ListedBack (count : ℕ) (text values : List ℕ) : Type 0 where
  pub listed_values : List ℕ
  pub values_are : values ≡ eight (at listed_values)
  pub back : Back count text listed_values
  pub most : count ≤ 8

record FromEntries (o : Option (List ℕ)) (values : List ℕ) : Type 0 where
  vs : List ℕ
  is : o ≡ Some vs
  values_are : values ≡ eight (at vs)

from_entries : (o : Option (List ℕ)) (values : List ℕ) → listed_by o ≡ Some values → FromEntries o values
from_entries None values e = absurd (none-some values e)
from_entries (Some vs) values e =
    record { vs = vs; is = refl; values_are = sym (same_Some (eight (at vs)) values e) }

pub listed_back : (count : ℕ) (text values : List ℕ) → listed count text ≡ Some values → ListedBack count text values
listed_back count text values e =
    by_cases (dec_lt 8 count) (λ many. absurd (none-some values (sym (listed_many count text many) ∙ e)))
    (λ few. within count text values (omega arith) (sym (listed_some count text (omega arith)) ∙ e))
  where
    within : (n : ℕ) (l vs : List ℕ) → n ≤ 8 → listed_by (entries n l) ≡ Some vs → ListedBack n l vs
    within zero l vs h f = absurd (none-some vs f)
    within (suc n) l vs h f =
        let s = from_entries (entries (suc n) l) vs f in
        record {
          listed_values = s.vs;
          values_are = s.values_are;
          back = entries_back n l s.vs s.is;
          most = h;
        }

pub list_filled : (v : ℕ) (vs : List ℕ) → 1 ≤ length (comma_list (v ∷ vs))
list_filled v vs = omega (arith, length-append (decimal v) (more_entries vs), decimal_some v)

pub back_filled : (count : ℕ) (text vs : List ℕ) → Back count text vs → 1 ≤ length text
back_filled count text vs b = omega (arith, ap length b.bytes, filled vs b.filled)
  where
    filled : (ws : List ℕ) → 1 ≤ length ws → 1 ≤ length (comma_list ws)
    filled [] h = let no : ⊥ = omega arith in absurd no
    filled (w ∷ ws) h = list_filled w ws

pub listed_written : (v : ℕ) (vs : List ℕ) → suc (length vs) ≤ 8 → Small (v ∷ vs) → listed (suc (length vs)) (comma_list (v ∷ vs)) ≡ Some (eight (at (v ∷ vs)))
listed_written v vs h small =
    listed_some (suc (length vs)) (comma_list (v ∷ vs)) h ∙ ap listed_by (entries_written v vs small)

-- one entry more is written
pub more_snoc : (vs : List ℕ) (v : ℕ) → more_entries (vs ++ (v ∷ [])) ≡ more_entries vs ++ (44 ∷ decimal v)
more_snoc [] v = ap (λ (l : List ℕ). 44 ∷ l) (append-nil (decimal v))
more_snoc (w ∷ vs) v =
    ap (λ (l : List ℕ). 44 ∷ (decimal w ++ l)) (more_snoc vs v)
    ∙ ap (λ (l : List ℕ). 44 ∷ l) (sym (append_assoc (decimal w) (more_entries vs) (44 ∷ decimal v)))

pub list_snoc : (vs : List ℕ) (v : ℕ) → 1 ≤ length vs → comma_list (vs ++ (v ∷ [])) ≡ comma_list vs ++ (44 ∷ decimal v)
list_snoc [] v h = let no : ⊥ = omega arith in absurd no
list_snoc (w ∷ vs) v h =
    ap (λ (l : List ℕ). decimal w ++ l) (more_snoc vs v)
    ∙ sym (append_assoc (decimal w) (more_entries vs) (44 ∷ decimal v))
