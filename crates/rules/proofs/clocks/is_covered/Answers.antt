-- `is_covered`: `all` over the pairs is the test of each entry.
use mathlib.Core.Path.{◌∙◌}
use Prim.Native.Nat.{ℕ}
use lib.Dec.{leb}
use Rattle.std.proofs.Common.{rules}
use borrow.Author.Tests.{tests}
use Rattle.std.proofs.lemmas.Iterator.{YieldsList-from_slice, YieldsList-from_zip}
use Rattle.std.proofs.lemmas.Iterator.Search.{all_from_yields_List}
use Rattle.model.specs.Clocks.{covered}
use Rattle.model.proofs.Tests.{all_zipped}
use Rattle.rules.proofs.clocks.is_covered.Goals as goal

pub returns : goal.returns
unfolding covered
returns c =
    let a = c.args in
    all_from_yields_List (λ (p : ℕ × ℕ). leb p.0 p.1) c.all.new.self _ _ c.all.ensures.ran
    (YieldsList-from_zip (YieldsList-from_slice a.known.now cc) (YieldsList-from_slice a.clock.now cc))
    (λ x b q k. search (rules, tests))
    ∙ all_zipped leb a.known.now a.clock.now 8 c.requires.0 c.requires.1
