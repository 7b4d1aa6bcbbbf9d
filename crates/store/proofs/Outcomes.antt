-- The two ways of an event offered to a sound store.
use mathlib.Core.Path.{◌≡◌, sym, ap, ap₂, ◌∙◌, subst}
use mathlib.Core.List.{List}
use Prim.Native.Nat.{ℕ, ◌≤◌}
use native.Mathlib.Omega.{arith}
use borrow.Author.Tests.{eq-eqb, ne_eqb}
use Rattle.std.specs.Prelude.{Result, Ok, Err, IsErrAnd}
use Rattle.std.proofs.lemmas.Bool.{cond-true, cond-false}
use Rattle.std.proofs.lemmas.Result.{err_from_is_err_and}
use Rattle.model.specs.declared.Event.{Event}
use Rattle.model.specs.declared.Refusal.{Refusal}
use Rattle.model.specs.Refusals.{number_of, verdict_number}
use Rattle.model.specs.Clocks.{clock_at}
use Rattle.model.specs.Follow.{follow_refusal}
use Rattle.model.proofs.Refusals.{passed_zero, refused_some}
use Rattle.store.specs.declared.Buffers.{Buffers}
use Rattle.store.specs.declared.inner.Appended.{Appended}
use Rattle.model.specs.declared.Record.{Record}
use Rattle.model.specs.Store.{Store, tallies_of, event_refusal, accepted}
use Rattle.store.specs.Outcomes.{store_at, Outcome, appended, tallies_left, appending, AppendReady, WriteReady, AppendedTo, Stored}

module _ (s : Store) (e : Event) where
  pub append_passed : event_refusal s e ≡ 0 → appending s e ≡ record { refusal = 0; store = accepted s e }
  append_passed z = cond-true _ _ _ (eq-eqb (event_refusal s e) 0 z)

  pub append_refused : 1 ≤ event_refusal s e → appending s e ≡ record { refusal = event_refusal s e; store = s }
  append_refused h = cond-false _ _ _ (ne_eqb (event_refusal s e) 0 (omega arith))

  appended_refused : (counts : List ℕ) (number : ℕ) → AppendReady s counts → number ≡ event_refusal s e → 1 ≤ event_refusal s e → AppendedTo s e (record { refusal = number; store = s }) counts
  appended_refused counts number ready told some =
      record {
        outcome_is = ap {B = Outcome} (λ (k : ℕ). record { refusal = k; store = s }) told ∙ sym (append_refused some);
        tally = ready.tally ∙ sym (ap (λ (o : Outcome). tallies_of o.store) (append_refused some));
      }

  appended_stored : (o : Outcome) (counts : List ℕ) → event_refusal s e ≡ 0 → Stored s e o counts → AppendedTo s e o counts
  appended_stored o counts may stored =
      record {
        outcome_is = stored.outcome_is ∙ sym (append_passed may);
        tally = stored.tally ∙ sym (ap (λ (r : Outcome). tallies_of r.store) (append_passed may));
      }

-- The same by the code: the verdict of the rules on an event, by the bytes and tallies that the caller keeps, which are the
-- store's.
module _ (given : Record) (lent : Buffers) (e : Event) (bytes counts : List ℕ) (v : Result (Unit {0}) Refusal) (there : bytes ≡ lent.clocks.now) (ready : AppendReady (store_at given lent) counts) (number : verdict_number v ≡ follow_refusal given.tablets (clock_at bytes) counts e.tablet.0 e.clock) where
  abbrev s : Store
  s = store_at given lent

  told : verdict_number v ≡ event_refusal s e
  unfolding event_refusal
  told =
      number ∙ ap₂ (λ (mem tal : List ℕ). follow_refusal given.tablets (clock_at mem) tal e.tablet.0 e.clock) there ready.tally

  pub append_left : (why : Refusal) (r : Result Appended Refusal) → v ≡ Err why → IsErrAnd r (λ y. y ≡ why) → AppendedTo s e (appended given r lent.clocks.now lent.held.now lent.order.now) (tallies_left counts r)
  append_left why r is left =
      let p = err_from_is_err_and r left in
      subst (λ (a : Result Appended Refusal). AppendedTo s e (appended given a lent.clocks.now lent.held.now lent.order.now) (tallies_left counts a)) (sym p.1)
      (appended_refused s e counts (number_of p.0) ready (ap number_of p.2 ∙ ap verdict_number (sym is) ∙ told) (refused_some v why _ told is))

  pub append_writes : (went : Unit {0}) → v ≡ Ok went → WriteReady s counts e
  append_writes went is = record { ready = ready; may = passed_zero v went _ told is }

  pub append_done : (went : Unit {0}) (o : Outcome) (after : List ℕ) → v ≡ Ok went → Stored s e o after → AppendedTo s e o after
  append_done went o after is stored = appended_stored s e o after (passed_zero v went _ told is) stored
