-- No second outcome satisfies a contract: the answer and the output at exit are fixed by what `write` promises.
use mathlib.Core.Path.{◌≡◌, sym, ap, ◌∙◌}
use mathlib.Core.List.{List}
use Prim.Native.Nat.{ℕ}
use Rattle.std.specs.Prelude.{Result}
use Rattle.model.specs.declared.Refusal.{Refusal}
use Rattle.model.specs.Store.{Store}
use Rattle.model.proofs.Refusals.{answer_unique}
use Rattle.writer.specs.Writing.{WriteOutcome, length_given, written, writing}

pub write_unique : (s : Store) (p : ℕ) (out : List ℕ) (a b : Result ℕ Refusal) (exit other : List ℕ) → written a exit ≡ writing s p out → written b other ≡ writing s p out → (a ≡ b) × (exit ≡ other)
write_unique s p out a b exit other x y =
    let same : written a exit ≡ written b other = x ∙ sym y in
    let long : length_given a ≡ length_given b = ap (λ (o : WriteOutcome). o.length) same in (
      answer_unique a b (ap (λ (o : WriteOutcome). o.refusal) same)
          (λ n m is was. ap length_given (sym is) ∙ long ∙ ap length_given was),
      ap (λ (o : WriteOutcome). o.output) same,
    )
