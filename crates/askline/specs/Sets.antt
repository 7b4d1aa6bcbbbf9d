-- Rule 46, the set that a list of rising tablets names, as a mask.
use Rattle.std.specs.Prelude.{ℕ, zero, suc, ◌+◌, ◌-◌, ◌*◌, cond, ◌&&◌, List, [], ◌∷◌, Option, Some, None, option_and_then, leb, ltb, eqb, take}
use Rattle.lines.specs.Lists.{listed}

-- the value of the bit that names the tablet in column j: 1 for tablet 1, and twice as much for each next one
abbrev pub bit : ℕ → ℕ
bit zero = 1
bit (suc j) = 2 * bit j

-- how many commas (byte 44) part a list
abbrev pub commas : List ℕ → ℕ
commas [] = 0
commas (b ∷ bs) = cond (eqb b 44) (suc (commas bs)) (commas bs)

-- tablets behind one that was the last (0: none yet), with the mask of those before: each above the last, and so above 0 and
-- strictly rising, and at most 8
abbrev pub naming : ℕ → ℕ → List ℕ → Option ℕ
naming last mask [] = Some mask
naming last mask (tablet ∷ rest) =
    cond (ltb last tablet && leb tablet 8) (naming tablet (mask + bit (tablet - 1)) rest) None

-- rule 46: a list of one entry more than it has commas, so one at least: behind nothing there is no set
unfoldable pub named_set : List ℕ → Option ℕ
named_set text =
    option_and_then (λ values. naming 0 0 (take (suc (commas text)) values)) (listed (suc (commas text)) text)
