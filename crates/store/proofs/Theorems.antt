-- What accepting does to a store, in the words of specs/: a sound store stays sound, a refused one stays as it was.
use mathlib.Core.Path.{◌≡◌, sym, ap, ◌∙◌, subst}
use mathlib.Core.Logic.{by_cases}
use mathlib.Core.Bool.{Bool, cond, not}
use mathlib.Core.List.{List}
use Prim.Native.Nat.{ℕ, ◌≤◌, ◌<◌}
use native.Mathlib.Omega.{arith}
use native.Mathlib.Decide.{dec_le}
use lib.ListN.{length}
use Rattle.model.specs.declared.Event.{Event}
use Rattle.model.specs.Lists.{at}
use Rattle.model.specs.Store.{Store, record_of, tallies_of, full_size, valid, store_refusal, accepted, event_refusal}
use Rattle.model.proofs.Tests.{holds}
use Rattle.model.proofs.Sound.{Sound, sound_valid, Full, sizes_full}
use Rattle.model.proofs.Accepted.{accepted_sound, accepted_full}
use Rattle.store.specs.Outcomes.{Outcome, appending, accepting, AppendReady, AppendedTo}
use Rattle.store.proofs.Verdicts.{some_tablets, record_passes, by_valid}
use Rattle.store.proofs.Ready.{tested_sound, tested_full, tested_bounded}
use borrow.Author.Tests.{eq-eqb, ne_eqb}
use Rattle.std.proofs.lemmas.Bool.{cond-true, cond-false}
use Rattle.store.proofs.Outcomes.{append_passed, append_refused}

sound_passes : (s : Store) → Sound s → Full s → store_refusal s ≡ 0
sound_passes s snd full =
    by_valid s (record_passes (record_of s) (some_tablets s.tablets snd.some snd.narrow)) (holds (full_size s) (sizes_full s full))
    ∙ ap (λ (v : Bool). cond (not v) 3 0) (holds (valid s) (sound_valid s snd))

-- a sound store has T at most 2,032 and no tally above 254
pub sound_limits : (s : Store) → store_refusal s ≡ 0 → (s.events ≤ 2032) × ((j : ℕ) → j < 8 → at (tallies_of s) j ≤ 254)
sound_limits s none = ((tested_sound s none).total, tested_bounded s none)

-- an accepted event leaves a sound store
pub accepted_stays_sound : (s : Store) (e : Event) → length e.clock ≡ 8 → store_refusal s ≡ 0 → event_refusal s e ≡ 0 → store_refusal (accepted s e) ≡ 0
accepted_stays_sound s e long none may =
    let snd = tested_sound s none in
    let full = tested_full s none in
    sound_passes (accepted s e) (accepted_sound s snd full e long may) (accepted_full s snd full e long may)

-- a refused one leaves it as it was
pub refused_leaves : (s : Store) (e : Event) → 1 ≤ (accepting s e).refusal → (accepting s e).store ≡ s
refused_leaves s e some = by_cases (dec_le 1 (store_refusal s)) by_store (λ n. by_event (omega arith))
  where
    by_store : 1 ≤ store_refusal s → (accepting s e).store ≡ s
    by_store h = ap (λ (o : Outcome). o.store) (cond-false _ _ _ (ne_eqb (store_refusal s) 0 (omega arith)))

    by_event : store_refusal s ≡ 0 → (accepting s e).store ≡ s
    by_event z =
        let as-offered : accepting s e ≡ appending s e = cond-true _ _ _ (eq-eqb (store_refusal s) 0 z) in
        by_cases (dec_le 1 (event_refusal s e))
        (λ h. ap (λ (o : Outcome). o.store) (as-offered ∙ append_refused s e h))
        (λ n. let may : event_refusal s e ≡ 0 = omega arith in
        let taken = ap (λ (o : Outcome). o.refusal) (as-offered ∙ append_passed s e may) in
        let z : ⊥ = omega arith in
        absurd z)

-- so an append may follow an append: what it asks is what the last one left
pub append_ready : (s : Store) (e : Event) (counts after : List ℕ) (o : Outcome) → length e.clock ≡ 8 → AppendReady s counts → AppendedTo s e o after → AppendReady o.store after
append_ready s e counts after o long ready done =
    let stores : o.store ≡ (appending s e).store = ap (λ (r : Outcome). r.store) done.outcome_is in
    subst (λ (r : Store). AppendReady r after) (sym stores) (record { refusal = still; tally = done.tally })
  where
    still : store_refusal (appending s e).store ≡ 0
    still =
        by_cases (dec_le 1 (event_refusal s e))
        (λ h. ap (λ (r : Outcome). store_refusal r.store) (append_refused s e h) ∙ ready.refusal)
        (λ n. let may : event_refusal s e ≡ 0 = omega arith in
        ap (λ (r : Outcome). store_refusal r.store) (append_passed s e may) ∙ accepted_stays_sound s e long ready.refusal may)
