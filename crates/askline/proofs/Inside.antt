-- A line that asks is not empty, and so ends within the input.
use mathlib.Core.Path.{◌≡◌, refl, sym, ◌∙◌}
use mathlib.Core.List.{List, [], ◌∷◌}
use Prim.Native.Nat.{ℕ, ◌≤◌, ◌<◌}
use native.Mathlib.Omega.{arith}
use lib.ListN.{length}
use Rattle.model.specs.declared.Question.{Question}
use Rattle.std.specs.Prelude.{Some, None}
use Rattle.std.proofs.lemmas.Option.{none-some}
use Rattle.lines.specs.Numbers.{plain, number}
use Rattle.lines.specs.Find.{first_line, line_length, value_behind}
use Rattle.lines.specs.Lists.{listed}
use Rattle.lines.proofs.Parts.{line_inside}
use Rattle.askline.specs.Sets.{named_set}
use Rattle.askline.specs.Ask.{all_form, exactly_form, ask_of, ask_line}

nothing_asked : ask_of [] ≡ None
unfolding ask_of exactly_form all_form named_set listed number plain value_behind
nothing_asked = refl

ask_filled : (line : List ℕ) (question : Question) → ask_of line ≡ Some question → 1 ≤ length line
ask_filled [] question is = absurd (none-some question (sym nothing_asked ∙ is))
ask_filled (b ∷ bs) question is = omega arith

pub ask_inside : (input : List ℕ) (question : Question) → ask_line input ≡ Some question → line_length input < length input
unfolding ask_line
ask_inside input question is = line_inside input (ask_filled (first_line input) question is)
