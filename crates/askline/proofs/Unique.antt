-- No second answer satisfies a contract of this crate.
use mathlib.Core.Path.{◌≡◌, sym, ◌∙◌}
use mathlib.Core.List.{List}
use Prim.Native.Nat.{ℕ}
use Rattle.std.specs.Prelude.{Option}
use Rattle.model.specs.declared.Question.{Question}
use Rattle.askline.specs.Ask.{ask_line}

pub read_ask_unique : (input : List ℕ) (r s : Option Question) → r ≡ ask_line input → s ≡ ask_line input → r ≡ s
read_ask_unique input r s p q = p ∙ sym q
