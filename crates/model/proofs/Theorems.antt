-- The ten theorems, in the words of specs/ (and `FirstThatMeets` of proofs/Questions): a reader needs no other proof file.
-- `T test` says that a test holds (document 01's T is `s.events`), `A × B` both, `(p : ℕ) × ..` that there is such a p,
-- `↔` that each side implies the other, `.. → ⊥` that it cannot be, `≢` different, `List.Memᴰ G Gs` that G is in the list Gs.
use mathlib.Core.Path.{◌≡◌, ap, ◌∙◌, subst}
use mathlib.Core.Logic.{◌≢◌, ◌↔◌}
use mathlib.Core.Bool.{true, false}
use mathlib.Core.List.{List, [], ◌∷◌, Memᴰ}
use Prim.Native.Nat.{ℕ, suc, ◌+◌, ◌≤◌, ◌<◌}
use native.Mathlib.Omega.{arith}
use lib.Dec.{T}
use lib.ListN.{length}
use Rattle.model.specs.declared.Event.{Event}
use Rattle.model.specs.declared.Job.{Job}
use Rattle.model.specs.declared.Position.{Position}
use Rattle.model.specs.declared.Question.{Question}
use Rattle.model.specs.declared.Range.TheVariants.{Interval}
use Rattle.model.specs.Lists.{at, zeros, keep}
use Rattle.model.specs.Numbers.{tablets_fit}
use Rattle.model.specs.Clocks.{EventName, clock_of, covered}
use Rattle.model.specs.Follow.{event_at}
use Rattle.model.specs.Store.{Store, clocks_of, held_of, tallies_of, full_size, valid, accepted, event_refusal}
use Rattle.model.specs.Cuts.{Within, Contains, consistent, box, gmin, gbnd, interval, all_cuts, total, cuts_in}
use Rattle.model.specs.Agree.{AgreeTo, SameEvents}
use Rattle.model.specs.Lexical.{lex_before, Rising}
use Rattle.model.specs.Happened.{HappenedBefore}
use Rattle.model.specs.Questions.{meets, answer}
use Rattle.model.specs.Step.{step, following}
use Rattle.model.proofs.Entries.{covered_at_most, at_most_covered}
use Rattle.model.proofs.Box.{box_rising, box_from, box_into}
use Rattle.model.proofs.Ranges.{consistent_holds, holds_consistent, range_from}
use Rattle.model.proofs.Causal.{Causal, knows_all}
use Rattle.model.proofs.Happened.{happened_before_clocks, happened_before_irrefl, happened_before_trans, happened_before_tablet, consistent_is_closed}
use Rattle.model.proofs.Valid.{at_tallies}
use Rattle.model.proofs.Total.{tally_bounded, tally_above}
use Rattle.model.proofs.Questions.{interval_rising, all_rising, FirstThatMeets, answer_found_lem, answer_none}
use Rattle.model.proofs.Sound.{full_sizes_lem, sizes_full}
use Rattle.model.proofs.Sound.{Sound, sound, sound_valid, causal_at}
use Rattle.model.proofs.Bounds.{Bounds, gmin_long, zeros_consistent, interval_bounds, whole_bounds, whole_range}
use Rattle.model.proofs.Intervals.{interval_zero, interval_literal, interval_means}
use Rattle.model.proofs.Partition.{cut_from, cut_into, counts_add_up, in_one_interval}
use Rattle.model.proofs.Agree.{same_cuts_lem, same_total, interval_same, answer_same}
use Rattle.model.proofs.Step.{step_next, range_first}
use Rattle.model.proofs.Accepted.{accepted_one_more, still_contained, accepted_full, accepted_agrees, event_written, clock_stored, held_stored, accepted_sound}

-- 1. The box of a bound has exactly the vectors within it, strictly rising.
pub box_is_exact : (bound G : List ℕ) → Memᴰ G (box bound) ↔ Within bound G
box_is_exact bound G = (box_from bound G, box_into bound G)

pub box_rises : (bound : List ℕ) → Rising (box bound)
box_rises bound = box_rising bound

module _ (s : Store) (width : T (tablets_fit s.tablets)) (ok : T (valid s)) where
  snd : Sound s
  snd = sound s width ok

  now : Causal (clocks_of s) (tallies_of s)
  now = causal_at s snd s.events (omega arith)

  whole : Bounds (clocks_of s) zeros (tallies_of s)
  whole = whole_bounds s snd

  -- Numbers: no tablet has more than 254 events, no accepted clock an entry above 254, and nothing is above n.
  pub tallies_fit : (j : ℕ) → j < 8 → at (tallies_of s) j ≤ 254
  tallies_fit j h =
      omega (arith, at_tallies s.order s.events j h, tally_bounded s.tablets snd.narrow (clocks_of s) s.order s.events snd.follow j)

  pub entries_fit : (e : EventName) → Contains (tallies_of s) e → (j : ℕ) → j < 8 → at (clock_of (clocks_of s) e) j ≤ 254
  entries_fit e c j h = omega (arith, now.within e c j h, tallies_fit j h)

  pub cuts_zero_above : (G : List ℕ) → T (consistent (clocks_of s) (tallies_of s) G) → (j : ℕ) → j < 8 → s.tablets ≤ j → at G j ≡ 0
  cuts_zero_above G t j h above =
      omega (arith, (consistent_holds (clocks_of s) (tallies_of s) G t).most j h, at_tallies s.order s.events j h, tally_above s.tablets snd.narrow (clocks_of s) s.order s.events snd.follow j above)

  -- 2. In a valid store each event's clock covers the clocks of all that it knows. (10 says that it stays so.)
  pub known_events : (e f : EventName) → Contains (tallies_of s) f → e.column < 8 → 1 ≤ e.number → e.number ≤ at (clock_of (clocks_of s) f) e.column → T (covered (clock_of (clocks_of s) e) (clock_of (clocks_of s) f))
  known_events e f cf column first known =
      at_most_covered (clock_of (clocks_of s) e) (clock_of (clocks_of s) f)
      (knows_all (clocks_of s) (tallies_of s) now e f cf column first known)

  -- 3. Rule 19: happened-before can be told by the clocks. It is a strict order (transitive by definition), and on one
  -- tablet it is the tablet's order.
  pub happened_before_by_clocks : (e f : EventName) → Contains (tallies_of s) e → Contains (tallies_of s) f → e ≢ f → HappenedBefore (clocks_of s) e f ↔ T (covered (clock_of (clocks_of s) e) (clock_of (clocks_of s) f))
  happened_before_by_clocks e f ce cf differ =
      let iff = happened_before_clocks (clocks_of s) (tallies_of s) now e f ce cf differ in (
        λ h. at_most_covered (clock_of (clocks_of s) e) (clock_of (clocks_of s) f) (iff.0 h),
        λ t. iff.1 (covered_at_most (clock_of (clocks_of s) e) (clock_of (clocks_of s) f) t),
      )

  pub never_before_itself : (e : EventName) → Contains (tallies_of s) e → HappenedBefore (clocks_of s) e e → ⊥
  never_before_itself e ce = happened_before_irrefl (clocks_of s) (tallies_of s) now e ce

  pub before_is_transitive : (d e f : EventName) → HappenedBefore (clocks_of s) d e → HappenedBefore (clocks_of s) e f → HappenedBefore (clocks_of s) d f
  before_is_transitive d e f = happened_before_trans (clocks_of s) (tallies_of s) now d e f

  pub before_on_one_tablet : (e f : EventName) → Contains (tallies_of s) e → Contains (tallies_of s) f → e.column ≡ f.column → HappenedBefore (clocks_of s) e f ↔ (e.number < f.number)
  before_on_one_tablet e f ce cf same = happened_before_tablet (clocks_of s) (tallies_of s) now e f ce cf same

  -- 4. A cut up to the tallies is consistent by document 01's rule exactly when its events are closed under happened-before.
  pub consistent_when_closed : (G : List ℕ) → T (covered G (tallies_of s)) → T (consistent (clocks_of s) (tallies_of s) G) ↔ ((e f : EventName) → Contains G f → HappenedBefore (clocks_of s) e f → Contains G e)
  consistent_when_closed G most =
      let iff = consistent_is_closed (clocks_of s) (tallies_of s) now G (covered_at_most G (tallies_of s) most) in (
        λ t. iff.0 (consistent_holds (clocks_of s) (tallies_of s) G t),
        λ shut. holds_consistent (clocks_of s) (tallies_of s) G (iff.1 shut),
      )

  -- 5. Rules 23 and 24: interval p has the consistent cuts between its bounds, which are those that contain the event at p and
  -- no event accepted after it. The event at position p = q + 1 is `event_at order q`. Interval 0 has the empty cut alone.
  pub interval_is_between : (p : ℕ) → p ≤ s.events → (G : List ℕ) → length G ≡ 8 → Memᴰ G (interval s p) ↔ (T (consistent (clocks_of s) (tallies_of s) G) × T (covered (gmin s p) G) × T (covered G (gbnd s p)))
  interval_is_between p h G long =
      let iff = interval_literal s snd p h G long in (
        λ m. let c = iff.0 m in
            (holds_consistent (clocks_of s) (tallies_of s) G c.0, at_most_covered (gmin s p) G c.1, at_most_covered G (gbnd s p) c.2),
        λ c. iff.1 (consistent_holds (clocks_of s) (tallies_of s) G c.0, covered_at_most (gmin s p) G c.1, covered_at_most G (gbnd s p) c.2),
      )

  pub interval_contains : (q : ℕ) → q < s.events → (G : List ℕ) → length G ≡ 8 → Memᴰ G (interval s (suc q)) ↔ (T (consistent (clocks_of s) (tallies_of s) G) × Contains G (event_at s.order q) × ((r : ℕ) → suc q ≤ r → r < s.events → Contains G (event_at s.order r) → ⊥))
  interval_contains q h G long =
      let iff = interval_means s snd q h G long in (
        λ m. let c = iff.0 m in (holds_consistent (clocks_of s) (tallies_of s) G c.0, c.1, c.2),
        λ c. iff.1 (consistent_holds (clocks_of s) (tallies_of s) G c.0, c.1, c.2),
      )

  pub interval_of_none : interval s 0 ≡ zeros ∷ []
  interval_of_none = interval_zero s

  -- All consistent cuts: exactly those, strictly rising, so that none is counted twice; the cut of all zeros is one of them.
  pub all_cuts_exact : (G : List ℕ) → Memᴰ G (all_cuts s) ↔ ((length G ≡ 8) × T (consistent (clocks_of s) (tallies_of s) G))
  unfolding all_cuts
  all_cuts_exact G = (
    λ m. let c = cut_from (clocks_of s) (tallies_of s) whole.long G m in (c.0, holds_consistent (clocks_of s) (tallies_of s) G c.1),
    λ c. cut_into (clocks_of s) (tallies_of s) whole.long G c.0 (consistent_holds (clocks_of s) (tallies_of s) G c.1),
  )

  pub all_cuts_rise : Rising (all_cuts s)
  all_cuts_rise = all_rising s

  pub interval_rises : (p : ℕ) → Rising (interval s p)
  interval_rises p = interval_rising s p

  pub empty_cut_consistent : T (consistent (clocks_of s) (tallies_of s) zeros)
  empty_cut_consistent = holds_consistent (clocks_of s) (tallies_of s) zeros (zeros_consistent (clocks_of s) (tallies_of s))

  -- 6. Rule 25: the sum of the intervals' counts is the number of consistent cuts found by testing every vector up
  -- to the tallies, and every consistent cut is in exactly one interval.
  pub counts_are_the_total : total s ≡ length (all_cuts s)
  counts_are_the_total = counts_add_up s snd

  pub each_in_one_interval : (G : List ℕ) → Memᴰ G (all_cuts s) → (p : ℕ) × (p ≤ s.events) × Memᴰ G (interval s p) × ((q : ℕ) → q ≤ s.events → Memᴰ G (interval s q) → q ≡ p)
  each_in_one_interval G m = in_one_interval s snd G m

  -- 7. Rule 26: the order in which the same events were accepted changes neither the list of cuts nor the total.
  pub orders_agree : (r : Store) → T (tablets_fit r.tablets) → T (valid r) → SameEvents s r → (all_cuts s ≡ all_cuts r) × (total s ≡ total r)
  orders_agree r w v same = (same_cuts_lem s r same, same_total s r snd (sound r w v) same)

  -- 8. What interval p holds, and what is answered for it, depends on n and the first p events alone.
  pub prefix_decides : (r : Store) (p : Position) → p.0 ≤ s.events → AgreeTo p.0 s r → (interval s p.0 ≡ interval r p.0) × ((q : Question) → answer s (record { question = q; range = Interval p }) ≡ answer r (record { question = q; range = Interval p }))
  prefix_decides r p h agree = (interval_same s r snd p.0 h agree, λ q. answer_same s r snd p q h agree)

  -- Asking: a cut that is found is the lexically first that meets the question; none is said only if there is none.
  pub answer_is_first : (job : Job) → (answer s job).found ≡ true → FirstThatMeets s job (answer s job).cut
  answer_is_first job e = answer_found_lem s job e

  pub none_is_none : (job : Job) → (answer s job).found ≡ false → ((answer s job).cut ≡ zeros) × ((H : List ℕ) → Memᴰ H (cuts_in s job.range) → T (meets s job.question H) → ⊥)
  none_is_none job e = answer_none s job e

  -- 9. The lexical step from a cut of an interval, or of the whole trace, gives the next cut, or says that there is none.
  pub step_in_interval : (p : ℕ) → p ≤ s.events → (G : List ℕ) → Memᴰ G (interval s p) → keep (lex_before G) (interval s p) ≡ following (interval s p) (step (clocks_of s) (gmin s p) (gbnd s p) G)
  unfolding interval
  step_in_interval p h G m =
      let b = interval_bounds s snd p h in
      step_next (clocks_of s) (gmin s p) (gbnd s p) b G (range_from (clocks_of s) (gmin s p) (gbnd s p) b.long G m)

  pub step_in_trace : (G : List ℕ) → Memᴰ G (all_cuts s) → keep (lex_before G) (all_cuts s) ≡ following (all_cuts s) (step (clocks_of s) zeros (tallies_of s) G)
  step_in_trace G m =
      rw (whole_range s)
      (step_next (clocks_of s) zeros (tallies_of s) whole G
      (range_from (clocks_of s) zeros (tallies_of s) whole.long G (subst (Memᴰ G) (whole_range s) m)))

  -- The first cut of interval p is Gmin.
  pub interval_first : T (full_size s) → (p : ℕ) → p ≤ s.events → interval s p ≡ gmin s p ∷ keep (lex_before (gmin s p)) (interval s p)
  unfolding interval
  interval_first full p h =
      range_first (clocks_of s) (gmin s p) (gbnd s p) (interval_bounds s snd p h) (gmin_long s snd (full_sizes_lem s full) p h)

  -- 10. Accepting an event that may follow leaves a valid store of T + 1 events, T + 1 at most 2,032: the first T events
  -- are as they were, and the event at T + 1 is the one offered, with its clock and its held value.
  module _ (full : T (full_size s)) (e : Event) (long : length e.clock ≡ 8) (may : event_refusal s e ≡ 0) where
    pub accepted_is_valid : ((accepted s e).events ≡ s.events + 1) × ((accepted s e).events ≤ 2032) × T (full_size (accepted s e)) × T (valid (accepted s e))
    accepted_is_valid =
        let sizes = full_sizes_lem s full in
        let after = accepted_sound s snd sizes e long may in (
          accepted_one_more s snd sizes e long may,
          after.total,
          sizes_full (accepted s e) (accepted_full s snd sizes e long may),
          sound_valid (accepted s e) after,
        )

    pub accepted_keeps : AgreeTo s.events s (accepted s e)
    accepted_keeps = accepted_agrees s snd (full_sizes_lem s full) e long may

    pub accepted_adds : (clock_of (clocks_of (accepted s e)) (event_at (accepted s e).order s.events) ≡ e.clock) × (held_of (accepted s e) (event_at (accepted s e).order s.events) ≡ e.held)
    accepted_adds =
        let named = event_written s snd (full_sizes_lem s full) e long may in (
          ap (clock_of (clocks_of (accepted s e))) named ∙ clock_stored s snd (full_sizes_lem s full) e long may,
          ap (held_of (accepted s e)) named ∙ held_stored s snd (full_sizes_lem s full) e long may,
        )

    -- 2, after an event is accepted: the events of before still cover all that they know
    pub known_events_stay : (d f : EventName) → Contains (tallies_of s) f → d.column < 8 → 1 ≤ d.number → d.number ≤ at (clock_of (clocks_of (accepted s e)) f) d.column → T (covered (clock_of (clocks_of (accepted s e)) d) (clock_of (clocks_of (accepted s e)) f))
    known_events_stay d f cf column first known =
        let sizes = full_sizes_lem s full in
        let after = accepted_sound s snd sizes e long may in
        at_most_covered (clock_of (clocks_of (accepted s e)) d) (clock_of (clocks_of (accepted s e)) f)
        (knows_all (clocks_of (accepted s e)) (tallies_of (accepted s e)) (causal_at (accepted s e) after (accepted s e).events (omega arith)) d f
        (still_contained s snd sizes e long may f cf) column first known)
