-- `write_eight`: a part written over is a run of writes.
use mathlib.Core.Path.{◌≡◌, sym, ap, ap₂, ◌∙◌}
use mathlib.Core.List.{List, ◌++◌, append_assoc}
use Prim.Native.Nat.{ℕ, ◌+◌, ◌-◌}
use native.Mathlib.Omega.{arith}
use lib.ListN.{length, take, drop}
use lib.Seq.{sets-eq}
use Rattle.std.proofs.lemmas.List.{drop-drop}
use borrow.Rule.Slice.PartMut.{put_mid}
use borrow.Author.Rules.{rules}
use Rattle.store.proofs.inner.write_eight.Goals as goal

pub returns : goal.returns
returns c =
    let a = c.args in
    let long : length a.eight ≡ 8 = search rules in
    let width : a.from + 8 - a.from ≡ length a.eight = omega arith in
    ap₂ (λ (k : ℕ) (vs : List ℕ). put_mid a.from k a.bytes.now vs) width c.copy_from_slice.ensures.after
    ∙ ap (λ (rest : List ℕ). take a.from a.bytes.now ++ (a.eight ++ rest)) (drop-drop (length a.eight) a.from a.bytes.now)
    ∙ sym (append_assoc (take a.from a.bytes.now) a.eight (drop (a.from + length a.eight) a.bytes.now))
    ∙ sym (sets-eq a.eight a.bytes.now a.from (omega (arith, long, c.requires)))
