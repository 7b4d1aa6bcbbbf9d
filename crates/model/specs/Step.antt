-- The lexical step (documents 000 and 002, their misprints put right: docs/DECISIONS.md): from one cut between two bounds to
-- the next.
use Rattle.std.specs.Prelude.{ℕ, zero, suc, ◌+◌, max, Bool, cond, ◌&&◌, List, [], ◌∷◌, leb, ltb, eqb}
use Rattle.std.proofs.Math.Option.{Option, none, some}
use Rattle.model.specs.Lists.{at, eight, all_below, max_below, keep}
use Rattle.model.specs.Lexical.{lex_before}
use Rattle.model.specs.Clocks.{Clocks, known}

-- the tablet of column k can be raised: its next event is within the bound, and what that event knows of the earlier
-- tablets is in the cut
unfoldable pub can_raise : Clocks → List ℕ → List ℕ → ℕ → Bool
can_raise clk high G k =
    ltb (at G k) (at high k) && all_below k (λ j. leb (at (clk k (at G k + 1)) j) (at G j))

-- the entries up to k, with k's raised by one
abbrev pub up_to : List ℕ → ℕ → ℕ → ℕ
up_to G k j = cond (eqb j k) (at G j + 1) (at G j)

-- the least that the tablet of column j, behind k, can be: the largest of Gmin's entry and of what the events of ALL
-- tablets up to k know of it
unfoldable pub least : Clocks → List ℕ → List ℕ → ℕ → ℕ → ℕ
least clk low G k j = max (at low j) (max_below (suc k) (λ i. at (known clk i (up_to G k i)) j))

unfoldable pub raised : Clocks → List ℕ → List ℕ → ℕ → List ℕ
raised clk low G k = eight (λ j. cond (leb j k) (up_to G k j) (least clk low G k j))

-- the last tablet below column k that can be raised is raised; none where there is no such tablet
abbrev pub raise_below : Clocks → List ℕ → List ℕ → List ℕ → ℕ → Option (List ℕ)
raise_below clk low high G zero = none
raise_below clk low high G (suc k) =
    cond (can_raise clk high G k) (some (raised clk low G k)) (raise_below clk low high G k)

unfoldable pub step : Clocks → List ℕ → List ℕ → List ℕ → Option (List ℕ)
step clk low high G = raise_below clk low high G 8

-- of a list of cuts, what stands behind a cut, told by the step from it: nothing, or the next cut and what stands behind that
abbrev pub following : List (List ℕ) → Option (List ℕ) → List (List ℕ)
following cuts none = []
following cuts (some H) = H ∷ keep (lex_before H) cuts
