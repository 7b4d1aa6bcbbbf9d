-- No second outcome satisfies the contract of `write_answer`: the length and the output at exit.
use mathlib.Core.Path.{◌≡◌, sym, ◌∙◌}
use mathlib.Core.List.{List}
use Prim.Native.Nat.{ℕ}
use Rattle.answerlines.specs.Outputs.{LinesAt}

pub write_answer_unique : (out lines : List ℕ) (r s : ℕ) (exit other : List ℕ) → LinesAt out 0 lines r exit → LinesAt out 0 lines s other → (r ≡ s) × (exit ≡ other)
write_answer_unique out lines r s exit other p q = (p.behind_is ∙ sym q.behind_is, p.exit_is ∙ sym q.exit_is)
