-- What calls of `write` leave in the fronts of their outputs is the store's text.
use mathlib.Core.Path.{◌≡◌, refl, sym, ap, ap₂, ◌∙◌}
use mathlib.Core.List.{List, ◌++◌}
use Prim.Native.Nat.{ℕ, zero, suc, ◌+◌, ◌≤◌}
use native.Mathlib.Omega.{arith}
use lib.ListN.{length, take, drop}
use lib.Seq.{take-append_seam}
use mathlib.Core.Bool.{true, false, false≢true}
use Rattle.std.specs.Prelude.{Result, Ok, Err, IsOk}
use Rattle.model.specs.declared.Refusal.{Refusal}
use Rattle.model.specs.Refusals.{verdict_number}
use Rattle.model.specs.Store.{Store}
use Rattle.writer.specs.Writing.{length_given, piece_text, pieces_to, text_of, WriteOutcome, writing}
use Rattle.writer.proofs.Pieces.{write_passed}
use Rattle.roundtrip.specs.Calls.{Written, fronts, joined}

-- a call that is not refused leaves its piece in the front of its output
front_is : (s : Store) (p : ℕ) (out : List ℕ) (o : WriteOutcome) → o ≡ writing s p out → o.refusal ≡ 0 → take o.length o.output ≡ piece_text s p
front_is s p out o is none =
    ap (λ (x : WriteOutcome). take x.length x.output) (is ∙ write_passed s p out (sym (ap (λ (x : WriteOutcome). x.refusal) is) ∙ none))
    ∙ take-append_seam (piece_text s p) (drop (length (piece_text s p)) out)

ok_number : (r : Result ℕ Refusal) → IsOk r → verdict_number r ≡ 0
ok_number (Ok long) h = refl
ok_number (Err why) h = let no : false ≡ true = h in absurd (false≢true no)

-- so the fronts joined are the pieces joined
module _ (s : Store) (w : Written s) where
  piece_of : (p : ℕ) → p ≤ s.events + 1 → take (length_given (w.answer p)) (w.after p) ≡ piece_text s p
  piece_of p inside = front_is s p (w.before p) _ (w.met p inside) (ok_number (w.answer p) (w.passed p inside))

  fronts_to : (p : ℕ) → p ≤ s.events + 1 → fronts (λ q. length_given (w.answer q)) w.after p ≡ pieces_to s p
  fronts_to zero inside = piece_of 0 inside
  fronts_to (suc p) inside =
      ap₂ (λ (x y : List ℕ). x ++ y) (fronts_to p (omega arith)) (piece_of (suc p) inside)

  pub joined_text : joined s w ≡ text_of s
  unfolding text_of
  joined_text = fronts_to (s.events + 1) (omega arith)
