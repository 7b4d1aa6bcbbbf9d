-- `name_tablets`: the mask is that of the tablets passed, and the rest decides.
use mathlib.Core.Path.{◌≡◌}
use Prim.Native.Nat.{◌≤◌, ◌<◌}
use lib.ListN.{drop}
use Rattle.askline.specs.Sets.{bit, naming}
use Rattle.askline.proofs.sets.name_tablets.Given as goal

abbrev pub invariant-loop-tablet : goal.invariant-loop-tablet
invariant-loop-tablet l =
    (l.last ≤ 8) × (l.mask < bit l.last) × (naming 0 0 l.entries ≡ naming l.last l.mask (drop l.tablet-index l.entries))
