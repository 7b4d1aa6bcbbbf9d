-- Laws of the texts that are printed: how long they are, and how they stand in the output.
use mathlib.Core.Path.{◌≡◌, ap₂, ◌∙◌}
use mathlib.Core.List.{List}
use Prim.Native.Nat.{ℕ, ◌+◌, ◌^◌, ◌≤◌, ◌<◌}
use native.Mathlib.Omega.{arith}
use lib.ListN.{length}
use Rattle.pieces.specs.Lines.{pair_line}
use Rattle.pieces.proofs.Lengths.{wide_digits, pair_line_length}
use Rattle.answerlines.specs.Outputs.{LinesAt}
use Rattle.answerlines.proofs.Placing.{sets_front}
use Rattle.report.specs.Report.{written, shown}

-- a line of two 64-bit numbers
pub pair_most : (key : List ℕ) (a b : ℕ) → a < 2 ^ 64 → b < 2 ^ 64 → length (pair_line key a b) ≤ length key + 42
pair_most key a b x y = omega (arith, pair_line_length key a b, wide_digits a x, wide_digits b y)

-- lines that were written at the front of the output
pub lines_shown : (refusal line : ℕ) (out text : List ℕ) (n : ℕ) (exit : List ℕ) → length text ≤ length out → LinesAt out 0 text n exit → written refusal line n exit ≡ shown refusal line text out
lines_shown refusal line out text n exit fits l =
    let long : n ≡ length text = omega (arith, l.behind_is) in
    ap₂ (written refusal line) long (l.exit_is ∙ sets_front out text fits)
