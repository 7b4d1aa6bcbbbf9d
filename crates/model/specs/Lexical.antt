-- Rule 22, the lexical order (document 002), tablet 1 first.
use Rattle.std.specs.Prelude.{ℕ, Bool, true, false, cond, T, ltb, eqb}
use mathlib.Core.List.{List, [], ◌∷◌, Memᴰ}

-- G stands before H: at the first entry where they differ, G's is the smaller
abbrev pub lex_before : List ℕ → List ℕ → Bool
lex_before [] [] = false
lex_before [] (y ∷ H) = true
lex_before (x ∷ G) [] = false
lex_before (x ∷ G) (y ∷ H) = cond (ltb x y) true (cond (eqb x y) (lex_before G H) false)

-- a list of cuts that strictly rises: each stands before all that follow
abbrev pub Rising : List (List ℕ) → Type 0
Rising [] = Unit {0}
Rising (G ∷ Gs) = ((H : List ℕ) → Memᴰ H Gs → T (lex_before G H)) × Rising Gs
