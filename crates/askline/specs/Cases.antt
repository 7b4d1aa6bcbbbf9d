-- Ask lines that are easy to get wrong, as one table of tests.
use Rattle.std.specs.Prelude.{ℕ, ◌-◌, Bool, true, false, List, [], ◌∷◌, ◌++◌, Option, Some, None, eqb}
use Rattle.model.specs.declared.Question.{Question}
use Rattle.model.specs.declared.Question.TheVariants.{AtLeast, Exactly, All}
use Rattle.model.specs.Lists.{all_below, keep}
use Rattle.model.specs.Questions.{names}
use Rattle.askline.specs.Sets.{naming}
use Rattle.askline.specs.Ask.{at_least_key, exactly_key, all_key, ask_line}

abbrev pub at_least : ℕ → Option Question → Bool
at_least k (Some (AtLeast j)) = eqb j k
at_least k (Some (Exactly j)) = false
at_least k (Some (All mask)) = false
at_least k None = false

abbrev pub exactly : ℕ → Option Question → Bool
exactly k (Some (AtLeast j)) = false
exactly k (Some (Exactly j)) = eqb j k
exactly k (Some (All mask)) = false
exactly k None = false

abbrev pub all : ℕ → Option Question → Bool
all mask (Some (AtLeast j)) = false
all mask (Some (Exactly j)) = false
all mask (Some (All m)) = eqb m mask
all mask None = false

abbrev pub faulty : Option Question → Bool
faulty (Some question) = false
faulty None = true

-- the line of a key and what stands behind it (digits are the bytes 48 to 57, a comma is 44), with the line that follows it
abbrev pub line : List ℕ → List ℕ → Option Question
line key value = ask_line (key ++ (value ++ (10 ∷ 116 ∷ 10 ∷ [])))

-- the tablets that a mask names, and that their list gives that mask back: of every set
abbrev pub tablets_of : ℕ → List ℕ
tablets_of mask = keep (λ tablet. names mask (tablet - 1)) (1 ∷ 2 ∷ 3 ∷ 4 ∷ 5 ∷ 6 ∷ 7 ∷ 8 ∷ [])

abbrev pub gives : Option ℕ → ℕ → Bool
gives None mask = false
gives (Some m) mask = eqb m mask

abbrev pub every_set : Bool
every_set = all_below 256 (λ mask. gives (naming 0 0 (tablets_of mask)) mask)

abbrev pub table : List Bool
table =
    -- 0, and the largest K; one more is faulty, and so are 01 and no number
    at_least 0 (line at_least_key (48 ∷ []))
    ∷ exactly 4294967295 (line exactly_key (52 ∷ 50 ∷ 57 ∷ 52 ∷ 57 ∷ 54 ∷ 55 ∷ 50 ∷ 57 ∷ 53 ∷ []))
    ∷ faulty (line exactly_key (52 ∷ 50 ∷ 57 ∷ 52 ∷ 57 ∷ 54 ∷ 55 ∷ 50 ∷ 57 ∷ 54 ∷ []))
    ∷ faulty (line at_least_key (48 ∷ 49 ∷ []))
    ∷ faulty (line at_least_key [])
    -- 1,3,8 and all eight tablets
    ∷ all 133 (line all_key (49 ∷ 44 ∷ 51 ∷ 44 ∷ 56 ∷ []))
    ∷ all 255 (line all_key (49 ∷ 44 ∷ 50 ∷ 44 ∷ 51 ∷ 44 ∷ 52 ∷ 44 ∷ 53 ∷ 44 ∷ 54 ∷ 44 ∷ 55 ∷ 44 ∷ 56 ∷ []))
    -- no tablet; tablets 0 and 9; 01; falling; repeated; a comma at the end, at the front and doubled
    ∷ faulty (line all_key [])
    ∷ faulty (line all_key (48 ∷ []))
    ∷ faulty (line all_key (57 ∷ []))
    ∷ faulty (line all_key (48 ∷ 49 ∷ []))
    ∷ faulty (line all_key (51 ∷ 44 ∷ 49 ∷ []))
    ∷ faulty (line all_key (50 ∷ 44 ∷ 50 ∷ []))
    ∷ faulty (line all_key (49 ∷ 44 ∷ []))
    ∷ faulty (line all_key (44 ∷ 49 ∷ []))
    ∷ faulty (line all_key (49 ∷ 44 ∷ 44 ∷ 50 ∷ []))
    -- nine tablets; a blank, CR, and a second number behind K
    ∷ faulty (line all_key (49 ∷ 44 ∷ 50 ∷ 44 ∷ 51 ∷ 44 ∷ 52 ∷ 44 ∷ 53 ∷ 44 ∷ 54 ∷ 44 ∷ 55 ∷ 44 ∷ 56 ∷ 44 ∷ 57 ∷ []))
    ∷ faulty (line at_least_key (50 ∷ 32 ∷ []))
    ∷ faulty (line at_least_key (50 ∷ 13 ∷ []))
    ∷ faulty (line at_least_key (50 ∷ 44 ∷ 51 ∷ []))
    -- every set of tablets
    ∷ every_set
    -- no input, a lone LF, a line without its LF
    ∷ faulty (ask_line [])
    ∷ faulty (ask_line (10 ∷ []))
    ∷ faulty (ask_line (at_least_key ++ (50 ∷ [])))
    ∷ []
