-- Rule 27, proved of what the calls themselves promise: two sound stores that have the same n and the
-- same first p events are answered alike at p.
use mathlib.Core.Path.{◌≡◌, refl, sym, ap, ap₂, ◌∙◌}
use mathlib.Core.Bool.{Bool, true, false, cond, not, ◌&&◌}
use mathlib.Core.List.{List, ◌++◌}
use Prim.Native.Nat.{ℕ, zero, suc, ◌+◌, ◌-◌, ◌≤◌}
use native.Mathlib.Omega.{arith}
use borrow.Author.Tests.{le-ltb, le-leb, ltb-false, eq-eqb}
use lib.Dec.{ltb}
use lib.ListN.{length, take}
use Rattle.model.specs.declared.Place.{Place}
use Rattle.model.specs.declared.Position.{Position}
use Rattle.model.specs.declared.Question.{Question}
use Rattle.model.specs.declared.Range.TheVariants.{Interval}
use Rattle.model.specs.declared.Job.{Job}
use Rattle.model.specs.Clocks.{EventName, covered}
use Rattle.model.specs.Follow.{tallies}
use Rattle.model.specs.Store.{Store, clocks_of, store_refusal}
use Rattle.model.specs.Cuts.{Contains, consistent, gbnd, interval}
use Rattle.model.specs.Agree.{AgreeTo}
use Rattle.model.specs.Questions.{Witness, answer}
use Rattle.model.proofs.Sound.{Sound}
use Rattle.model.proofs.Valid.{tallies_grow}
use Rattle.model.proofs.Agree.{consistent_same, tallies_same, gmin_same, interval_same, answer_same}
use Rattle.store.proofs.Ready.{tested_sound}
use Rattle.std.proofs.lemmas.Bool.{cond-true}
use Rattle.walks.specs.Counting.{fits64}
use Rattle.cuts.specs.Outcomes.{CountOutcome, counting, AskOutcome, refused_asking, question_fits, asking}
use Rattle.cuts.specs.Listing.{room, fresh, shown_from, ListOutcome, refused_listing, list_of, in_interval, listing}
use Rattle.cuts.specs.Gathering.{GatherOutcome, joined, stands_in, gathered_from, refused_gathering, gathering}

module _ (s r : Store) (p : Position) (none : store_refusal s ≡ 0) (none-r : store_refusal r ≡ 0) (within : p.0 ≤ s.events) (within-r : p.0 ≤ r.events) (agree : AgreeTo p.0 s r) where
  snd : Sound s
  snd = tested_sound s none

  same_cuts_lem : interval s p.0 ≡ interval r p.0
  same_cuts_lem = interval_same s r snd p.0 within agree

  same_inside : (G : List ℕ) → in_interval s p.0 G ≡ in_interval r p.0 G
  same_inside G =
      ap₂ ◌&&◌ (ap (λ (l : List ℕ). covered l G) (gmin_same s r snd p.0 within agree))
      (consistent_same (clocks_of s) (clocks_of r) (gbnd s p.0) G agree.clocks
      ∙ ap (λ (l : List ℕ). consistent (clocks_of r) l G) (tallies_same s.order r.order p.0 agree.order))

  -- the same count
  pub count_same : counting s p.0 ≡ counting r p.0
  count_same = of_sound s none within ∙ ap counts same_cuts_lem ∙ sym (of_sound r none-r within-r)
    where
      counts : List (List ℕ) → CountOutcome
      counts cuts = cond (fits64 (length cuts)) (record { refusal = 0; count = length cuts }) (record { refusal = 11; count = 0 })

      of_sound : (t : Store) → store_refusal t ≡ 0 → p.0 ≤ t.events → counting t p.0 ≡ counts (interval t p.0)
      of_sound t clean h =
          cond-true _ _ _ (eq-eqb (store_refusal t) 0 clean)
          ∙ ap (λ (b : Bool). cond b (record { refusal = 9; count = 0 }) (counts (interval t p.0))) (le-ltb t.events p.0 h)

  -- the same listing: cuts, place, output and what is said
  pub list_same : (place : Place) (out : List ℕ) → listing s p.0 place out ≡ listing r p.0 place out
  list_same place out = of_sound s none within ∙ ap₂ lists same_cuts_lem (same_inside place.cut.counts) ∙ sym (of_sound r none-r within-r)
    where
      lists : List (List ℕ) → Bool → ListOutcome
      lists cuts inside = cond (ltb (length out) 8) (refused_listing 14 place out) (list_of cuts inside place out)

      of_sound : (t : Store) → store_refusal t ≡ 0 → p.0 ≤ t.events → listing t p.0 place out ≡ lists (interval t p.0) (in_interval t p.0 place.cut.counts)
      of_sound t clean h =
          cond-true _ _ _ (eq-eqb (store_refusal t) 0 clean)
          ∙ ap (λ (b : Bool). cond b (refused_listing 9 place out) (lists (interval t p.0) (in_interval t p.0 place.cut.counts))) (le-ltb t.events p.0 h)

  -- the same answer to a question put to the interval
  pub ask_same : (q : Question) → asking s (record { question = q; range = Interval p }) ≡ asking r (record { question = q; range = Interval p })
  ask_same q =
      of_sound s none within
      ∙ ap₂ answers (ap (λ (n : ℕ). question_fits n q) agree.tablets) (answer_same s r snd p q within agree)
      ∙ sym (of_sound r none-r within-r)
    where
      job : Job
      job = record { question = q; range = Interval p }

      answers : Bool → Witness → AskOutcome
      answers fits w = cond (not fits) (refused_asking 13) (record { refusal = 0; found = w.found; cut = w.cut })

      of_sound : (t : Store) → store_refusal t ≡ 0 → p.0 ≤ t.events → asking t job ≡ answers (question_fits t.tablets q) (answer t job)
      of_sound t clean h =
          cond-true _ _ _ (eq-eqb (store_refusal t) 0 clean)
          ∙ ap (λ (b : Bool). cond (not b) (refused_asking 9) (answers (question_fits t.tablets q) (answer t job))) (le-leb p.0 t.events h)

-- the same gathering, where the stores agree up to its last position
agree_less : (s r : Store) (p last : ℕ) → p ≤ last → AgreeTo last s r → AgreeTo p s r
agree_less s r p last h agree =
    record {
      tablets = agree.tablets;
      order = λ q less. agree.order q (omega arith);
      clocks = λ e c. agree.clocks e (grown e c);
      held = λ e c. agree.held e (grown e c);
    }
  where
    grown : (e : EventName) → Contains (tallies s.order p) e → Contains (tallies s.order last) e
    grown e c =
        record { column = c.column; first = c.first; last = omega (arith, c.last, tallies_grow s.order p last h e.column c.column) }

module _ (s r : Store) (none : store_refusal s ≡ 0) (none-r : store_refusal r ≡ 0) (last : ℕ) (within : last ≤ s.events) (within-r : last ≤ r.events) (agree : AgreeTo last s r) where
  joined_same : (first k : ℕ) → first + k ≤ suc last → joined s first k ≡ joined r first k
  joined_same first zero h = refl
  joined_same first (suc k) h =
      ap₂ ◌++◌ (joined_same first k (omega arith))
      (interval_same s r (tested_sound s none) (first + k) (omega arith) (agree_less s r (first + k) last (omega arith) agree))

  stands_same : (first k w : ℕ) → first + k ≤ last → stands_in s first k w ≡ stands_in r first k w
  stands_same first zero w h = refl
  stands_same first (suc k) w h =
      ap₂ (λ (l : List (List ℕ)) (q : ℕ). cond (ltb (length l) w) (first + suc k) q) (joined_same first (suc k) (omega arith)) (stands_same first k w (omega arith))

  pub gather_same : (first : ℕ) (out : List ℕ) → gathering s first last out ≡ gathering r first last out
  gather_same first out = of_sound s none within ∙ by_order (ltb last first) refl ∙ sym (of_sound r none-r within-r)
    where
      behind : Store → GatherOutcome
      behind t = cond (ltb (length out) 8) (refused_gathering 14 out) (gathered_from t first (last - first) out)

      ways : Store → Bool → GatherOutcome
      ways t b = cond b (refused_gathering 9 out) (behind t)

      of_sound : (t : Store) → store_refusal t ≡ 0 → last ≤ t.events → gathering t first last out ≡ ways t (ltb last first)
      of_sound t clean h =
          cond-true _ _ _ (eq-eqb (store_refusal t) 0 clean)
          ∙ ap (λ (b : Bool). cond b (refused_gathering 9 out) (ways t (ltb last first))) (le-ltb t.events last h)

      same : first ≤ last → gathered_from s first (last - first) out ≡ gathered_from r first (last - first) out
      same h =
          let cuts = joined_same first (suc (last - first)) (omega arith) in
          λ i. record {
            listing = shown_from (cuts i) fresh out;
            position = (stands_same first (last - first) (length (take (room out) (joined s first (suc (last - first))))) (omega arith) ∙ ap (λ (l : List (List ℕ)). stands_in r first (last - first) (length (take (room out) l))) cuts) i;
          }

      by_order : (b : Bool) → ltb last first ≡ b → ways s (ltb last first) ≡ ways r (ltb last first)
      by_order true e = ap (ways s) e ∙ sym (ap (ways r) e)
      by_order false e =
          ap (ways s) e
          ∙ ap (λ (o : GatherOutcome). cond (ltb (length out) 8) (refused_gathering 14 out) o) (same (ltb-false last first e))
          ∙ sym (ap (ways r) e)
