-- The starred cases of document 01 as one table of tests on stores with full-size buffers.
use Rattle.std.specs.Prelude.{ℕ, suc, Bool, true, false, not, ◌&&◌, List, [], ◌∷◌, map, eqb, length, replicate, take, drop}
use Rattle.model.specs.declared.Event.{Event}
use Rattle.model.specs.declared.Question.{Question}
use Rattle.model.specs.declared.Question.TheVariants.{AtLeast, Exactly, All}
use Rattle.model.specs.declared.Range.TheVariants.{Whole}
use Rattle.model.specs.Lists.{at, eight, all_below}
use Rattle.model.specs.Refusals.{or_else}
use Rattle.model.specs.Follow.{tallies, follow_refusal}
use Rattle.model.specs.Store.{Store, store_of, fresh_record, clocks_of, tallies_of, store_refusal, accepted, event_refusal}
use Rattle.model.specs.Cuts.{consistent, interval, all_cuts, total}
use Rattle.model.specs.Questions.{meets, Witness, answer}

-- a cut or clock written without the zeros behind
abbrev pub wide : List ℕ → List ℕ
wide entries = eight (at entries)

-- tablet, clock and held value
abbrev pub event : ℕ → List ℕ → ℕ → Event
event tablet clock held = record { tablet = record { 0 = tablet }; clock = wide clock; held = held }

abbrev pub blank : ℕ → Store
blank n = store_of (fresh_record n) (replicate 16256 0) (replicate 2032 0) (replicate 2032 0)

-- the store after some events, none of which is tested here
abbrev pub after_all : Store → List Event → Store
after_all s [] = s
after_all s (e ∷ es) = after_all (accepted s e) es

abbrev pub day : ℕ → List Event → Store
day n es = after_all (blank n) es

-- a store that no call refuses, and the refusal of an event offered to one
abbrev pub sound : Store → Bool
sound s = eqb (store_refusal s) 0

abbrev pub offered : Store → Event → ℕ
offered s e = or_else (store_refusal s) (event_refusal s e)

abbrev pub same : List ℕ → List ℕ → Bool
same [] [] = true
same [] (y ∷ ys) = false
same (x ∷ xs) [] = false
same (x ∷ xs) (y ∷ ys) = eqb x y && same xs ys

abbrev pub same_cuts : List (List ℕ) → List (List ℕ) → Bool
same_cuts [] [] = true
same_cuts [] (H ∷ Hs) = false
same_cuts (G ∷ Gs) [] = false
same_cuts (G ∷ Gs) (H ∷ Hs) = same G (wide H) && same_cuts Gs Hs

-- the counts of intervals 0 to 4
abbrev pub counts : Store → List ℕ
counts s = map (λ p. length (interval s p)) (0 ∷ 1 ∷ 2 ∷ 3 ∷ 4 ∷ [])

abbrev pub asked : Store → Question → Witness
asked s q = answer s (record { question = q; range = Whole })

abbrev pub found : Witness → List ℕ → Bool
found w G = w.found && same w.cut (wide G)

abbrev pub none : Witness → Bool
none w = not w.found && same w.cut (wide [])

-- the events of trace A, and then its two orders and trace B
abbrev pub a1 : Event
a1 = event 1 (1 ∷ 0 ∷ []) 1

abbrev pub a2 : Event
a2 = event 2 (0 ∷ 1 ∷ []) 0

abbrev pub a3 : Event
a3 = event 1 (2 ∷ 0 ∷ []) 0

abbrev pub a4 : Event
a4 = event 2 (2 ∷ 2 ∷ []) 1

abbrev pub trace_a : Store
trace_a = day 2 (a1 ∷ a2 ∷ a3 ∷ a4 ∷ [])

abbrev pub trace_a_by_tablet : Store
trace_a_by_tablet = day 2 (a1 ∷ a3 ∷ a2 ∷ a4 ∷ [])

abbrev pub trace_b : Store
trace_b =
    day 2
    (event 1 (1 ∷ 0 ∷ []) 1 ∷ event 1 (2 ∷ 0 ∷ []) 0 ∷ event 2 (0 ∷ 1 ∷ []) 1 ∷ event 2 (0 ∷ 2 ∷ []) 0 ∷ [])

abbrev pub quiet : Store
quiet = day 3 []

abbrev pub handover : Store
handover = day 3 (event 1 (1 ∷ 0 ∷ 0 ∷ []) 0 ∷ event 2 (1 ∷ 1 ∷ 0 ∷ []) 0 ∷ [])

abbrev pub cuts_of_a : List (List ℕ)
cuts_of_a =
    (0 ∷ 0 ∷ []) ∷ (0 ∷ 1 ∷ []) ∷ (1 ∷ 0 ∷ []) ∷ (1 ∷ 1 ∷ []) ∷ (2 ∷ 0 ∷ []) ∷ (2 ∷ 1 ∷ []) ∷ (2 ∷ 2 ∷ []) ∷ []

-- no prefix of the trace's own order meets the question
abbrev pub no_prefix : Store → Question → Bool
no_prefix s q =
    all_below (suc s.events) (λ p. not (meets s q (tallies s.order p)))

abbrev pub table : List Bool
table =
    -- A in its own order
    sound trace_a
    ∷ same_cuts (all_cuts trace_a) cuts_of_a
    ∷ same (counts trace_a) (1 ∷ 1 ∷ 2 ∷ 2 ∷ 1 ∷ [])
    ∷ eqb (total trace_a) 7
    -- A's events, tablet 1's first
    ∷ sound trace_a_by_tablet
    ∷ same_cuts (all_cuts trace_a_by_tablet) cuts_of_a
    ∷ same (counts trace_a_by_tablet) (1 ∷ 1 ∷ 1 ∷ 3 ∷ 1 ∷ [])
    -- two cuts that A does not allow
    ∷ not (consistent (clocks_of trace_a) (tallies_of trace_a) (wide (0 ∷ 2 ∷ [])))
    ∷ not (consistent (clocks_of trace_a) (tallies_of trace_a) (wide (1 ∷ 2 ∷ [])))
    -- one question of each kind to A
    ∷ none (asked trace_a (AtLeast 2))
    ∷ found (asked trace_a (Exactly 0)) (0 ∷ 0 ∷ [])
    ∷ found (asked trace_a (All 2)) (2 ∷ 2 ∷ [])
    -- B: a double holding that no prefix of its own order shows
    ∷ sound trace_b
    ∷ eqb (length (all_cuts trace_b)) 9
    ∷ found (asked trace_b (AtLeast 2)) (1 ∷ 1 ∷ [])
    ∷ no_prefix trace_b (AtLeast 2)
    -- three tablets and no event
    ∷ sound quiet
    ∷ eqb (length (all_cuts quiet)) 1
    ∷ none (asked quiet (AtLeast 1))
    -- refusals 6 and 5 along A
    ∷ eqb (offered (day 2 (a1 ∷ a2 ∷ [])) (event 2 (2 ∷ 2 ∷ []) 1)) 6
    ∷ eqb (offered (day 2 (a1 ∷ [])) (event 1 (3 ∷ 0 ∷ []) 0)) 5
    ∷ eqb (offered (day 2 (a1 ∷ [])) (event 1 (1 ∷ 0 ∷ []) 0)) 5
    -- refusal 7 behind a handover, and what covers it
    ∷ sound handover
    ∷ eqb (offered handover (event 3 (0 ∷ 1 ∷ 1 ∷ []) 0)) 7
    ∷ eqb (offered handover (event 2 (0 ∷ 2 ∷ 0 ∷ []) 0)) 7
    ∷ eqb (offered handover (event 3 (1 ∷ 1 ∷ 1 ∷ []) 0)) 0
    ∷ []

abbrev pub passed : List Bool → Bool
passed [] = true
passed (test ∷ tests) = test && passed tests

-- Not starred: the layout of rules 8 and 9 with its numbers written out, since reading and writing share one definition of
-- it; and that a full tablet is 8 before 5, and 4 before 8.
abbrev pub layout : List Bool
layout =
    same (take 8 (drop 0 trace_a.clocks)) (wide (1 ∷ 0 ∷ []))
    ∷ same (take 8 (drop 8 trace_a.clocks)) (wide (2 ∷ 0 ∷ []))
    ∷ same (take 8 (drop 2032 trace_a.clocks)) (wide (0 ∷ 1 ∷ []))
    ∷ same (take 8 (drop 2040 trace_a.clocks)) (wide (2 ∷ 2 ∷ []))
    ∷ eqb (at trace_a.held 0) 1
    ∷ eqb (at trace_a.held 255) 1
    ∷ same (take 5 trace_a.order) (1 ∷ 2 ∷ 1 ∷ 2 ∷ 0 ∷ [])
    ∷ eqb (follow_refusal 2 (clocks_of quiet) (254 ∷ 0 ∷ []) 1 (1 ∷ 0 ∷ [])) 8
    ∷ eqb (follow_refusal 2 (clocks_of quiet) (254 ∷ 0 ∷ []) 0 (1 ∷ 0 ∷ [])) 4
    ∷ []
