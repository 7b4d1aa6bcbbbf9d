-- No second answer satisfies a contract of this crate: each is an equation of the answer.
use mathlib.Core.Path.{◌≡◌, sym, ◌∙◌}
use mathlib.Core.Bool.{Bool}
use mathlib.Core.List.{List}
use Prim.Native.Nat.{ℕ}
use Rattle.std.specs.Prelude.{Option}
use Rattle.lines.specs.Numbers.{number}
use Rattle.lines.specs.Find.{find, line_length, starts_with, value_behind}
use Rattle.lines.specs.Lists.{listed}

pub read_number_unique : (text : List ℕ) (limit : ℕ) (r s : Option ℕ) → r ≡ number limit text → s ≡ number limit text → r ≡ s
read_number_unique text limit r s p q = p ∙ sym q

pub find_byte_unique : (text : List ℕ) (byte r s : ℕ) → r ≡ find byte text → s ≡ find byte text → r ≡ s
find_byte_unique text byte r s p q = p ∙ sym q

pub line_length_unique : (text : List ℕ) (r s : ℕ) → r ≡ line_length text → s ≡ line_length text → r ≡ s
line_length_unique text r s p q = p ∙ sym q

pub starts_with_unique : (text key : List ℕ) (r s : Bool) → r ≡ starts_with key text → s ≡ starts_with key text → r ≡ s
starts_with_unique text key r s p q = p ∙ sym q

-- of the part that is returned, its bytes
pub value_unique : (line key r s : List ℕ) → r ≡ value_behind key line → s ≡ value_behind key line → r ≡ s
value_unique line key r s p q = p ∙ sym q

pub read_list_unique : (text : List ℕ) (count : ℕ) (r s : Option (List ℕ)) → r ≡ listed count text → s ≡ listed count text → r ≡ s
read_list_unique text count r s p q = p ∙ sym q
