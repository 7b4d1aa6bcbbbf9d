-- Laws of the lines of an answer: how long they are, and one behind the other in the output.
use mathlib.Core.Path.{◌≡◌, refl, ap, ◌∙◌}
use mathlib.Core.List.{List, ◌++◌}
use Prim.Native.Nat.{ℕ, zero, suc, ◌+◌, ◌-◌, ◌^◌, ◌≤◌, ◌<◌}
use native.Mathlib.Numerals.{add-one}
use native.Mathlib.Omega.{arith}
use borrow.Rule.Slice.PartMut.{put_mid}
use lib.ListN.{length, get_or, take, drop, length-append}
use lib.Seq.{sets, length-sets, take_all, length-take-le, get_or-take}
use Rattle.model.specs.Lists.{at}
use Rattle.pieces.specs.Lines.{key_line, list_line, pair_line}
use Rattle.answerlines.proofs.Placing.{sets_append, part_sets}
use Rattle.lines.proofs.Entries.{Small}
use Rattle.pieces.proofs.Lengths.{small_take, list_long, key_line_length, list_line_length, pair_line_length, wide_digits, decimal_length}
use Rattle.loglines.specs.Keys.{tablets_key, events_key}
use Rattle.answerlines.specs.Printing.{interval_key, interval_lines, cuts_key, witness_key, head_lines}
use Rattle.answerlines.specs.Outputs.{LinesAt}

-- lines that were put into a piece, which was copied to the front
pub lines_put : (out piece lines : List ℕ) (behind : ℕ) (exit : List ℕ) → piece ≡ lines → behind ≡ length piece → exit ≡ sets out 0 piece → LinesAt out 0 lines behind exit
lines_put out piece lines behind exit is long copied =
    record { behind_is = omega (arith, ap length is); exit_is = copied ∙ ap (sets out 0) is }

-- lines written at the front of what lies behind an offset
pub lines_behind : (out : List ℕ) (at : ℕ) (lines : List ℕ) (behind : ℕ) (exit : List ℕ) → at + behind ≤ length out → LinesAt (take (length out - at) (drop at out)) 0 lines behind exit → LinesAt out at lines (at + behind) (put_mid at (length out - at) out exit)
lines_behind out at lines behind exit fits l =
    record {
      behind_is = omega (arith, l.behind_is);
      exit_is = ap (put_mid at (length out - at) out) l.exit_is ∙ part_sets out at lines (omega (arith, l.behind_is));
    }

-- lines behind lines
pub lines_join : (out : List ℕ) (at : ℕ) (a : List ℕ) (middle : ℕ) (between : List ℕ) (b : List ℕ) (behind : ℕ) (exit : List ℕ) → LinesAt out at a middle between → LinesAt between middle b behind exit → LinesAt out at (a ++ b) behind exit
lines_join out at a middle between b behind exit first second =
    record {
      behind_is = omega (arith, first.behind_is, second.behind_is, length-append a b);
      exit_is =
          second.exit_is
          ∙ ap (λ (k : ℕ). sets between k b) first.behind_is
          ∙ ap (λ (l : List ℕ). sets l (at + length a) b) first.exit_is
          ∙ sets_append out at a b;
    }

pub lines_long : (out : List ℕ) (at : ℕ) (lines : List ℕ) (behind : ℕ) (exit : List ℕ) → LinesAt out at lines behind exit → length exit ≡ length out
lines_long out at lines behind exit l = ap length l.exit_is ∙ length-sets out at lines

-- an interval line: a position of at most 4 digits, a count of at most 20
pub interval_most : (p count : ℕ) → p ≤ 2032 → count < 2 ^ 64 → length (pair_line interval_key p count) ≤ 35
interval_most p count h fits =
    let small : p < 10 ^ suc 3 = omega arith in
    omega (arith, pair_line_length interval_key p count, decimal_length 3 p small, wide_digits count fits)

-- the lines up to one position more
pub lines_next : (count : ℕ → ℕ) (p : ℕ) → interval_lines count (p + 1) ≡ interval_lines count p ++ pair_line interval_key p (count p)
lines_next count p = ap (interval_lines count) (add-one p)

-- equal counts make equal lines
pub lines_agree : (count other : ℕ → ℕ) (m : ℕ) → ((p : ℕ) → p < m → count p ≡ other p) → interval_lines count m ≡ interval_lines other m
lines_agree count other zero same = refl
lines_agree count other (suc m) same =
    ap (λ (l : List ℕ). l ++ pair_line interval_key m (count m)) (lines_agree count other m (λ p h. same p (omega arith)))
    ∙ ap (λ (k : ℕ). interval_lines other m ++ pair_line interval_key m k) (same m (omega arith))

-- the lines of the first counts
pub lines_front : (counts : List ℕ) (m : ℕ) → m ≤ length counts → interval_lines (at (take m counts)) (length (take m counts)) ≡ interval_lines (at counts) m
lines_front counts m some =
    ap (interval_lines (at (take m counts))) (length-take-le m counts some)
    ∙ lines_agree (at (take m counts)) (at counts) m (λ p h. get_or-take m counts p 0 h)

pub tablets_most : (n : ℕ) → n ≤ 8 → length (key_line tablets_key n) ≤ 10
tablets_most n h = let small : n < 10 ^ suc 0 = omega arith in omega (arith, key_line_length tablets_key n, decimal_length 0 n small)

pub events_most : (events : ℕ) → events ≤ 2032 → length (key_line events_key events) ≤ 12
events_most events h =
    let small : events < 10 ^ suc 3 = omega arith in omega (arith, key_line_length events_key events, decimal_length 3 events small)

pub cuts_most : (sum : ℕ) → sum < 2 ^ 64 → length (key_line cuts_key sum) ≤ 26
cuts_most sum h = omega (arith, key_line_length cuts_key sum, wide_digits sum h)

pub head_most : (n events : ℕ) → n ≤ 8 → events ≤ 2032 → length (head_lines n events) ≤ 22
unfolding head_lines
head_most n events few most =
    omega (arith, length-append (key_line tablets_key n) (key_line events_key events), tablets_most n few, events_most events most)

-- at most eight entries, of at most three digits
pub witness_most : (entries : List ℕ) → 1 ≤ length entries → length entries ≤ 8 → ((i : ℕ) → get_or entries i 0 ≤ 255) → length (list_line witness_key entries) ≤ 40
witness_most entries some most bytes =
    let small : Small entries = rw (← take_all (length entries) entries (omega arith)) (small_take (length entries) entries (λ i h. bytes i)) in
    omega (arith, list_line_length witness_key entries, list_long entries small some)
