-- No second outcome satisfies a contract: the answers, the records and the buffers at exit are fixed by what the public
-- calls promise.
use mathlib.Core.Path.{◌≡◌, sym, ap, ◌∙◌}
use mathlib.Core.List.{List}
use Prim.Native.Nat.{ℕ}
use lib.Seq.{sets}
use Rattle.model.specs.declared.Event.{Event}
use Rattle.model.specs.declared.Record.{Record}
use Rattle.model.specs.declared.Refusal.{Refusal}
use Rattle.std.specs.Prelude.{Result}
use Rattle.model.specs.Refusals.{verdict_number}
use Rattle.model.specs.Store.{Store, fresh_record, no_record, store_refusal}
use Rattle.model.proofs.Refusals.{answer_unique, verdict_unique}
use Rattle.model.proofs.Records.{store_record}
use Rattle.store.specs.declared.inner.Appended.{Appended}
use Rattle.store.specs.declared.Trace.{Trace}
use Rattle.store.specs.declared.Buffers.{Buffers}
use Rattle.store.specs.Outcomes.{store_in, store_at, Opened, opened, opening, Outcome, record_left, taken, accepting, record_after, appended, tallies_left, AppendedTo}

-- an answer is told by its number and the record that goes on
left_unique : (given : Record) (t u : Result Record Refusal) → verdict_number t ≡ verdict_number u → record_left given t ≡ record_left given u → t ≡ u
left_unique given t u e same =
    answer_unique t u e (λ x y p q. ap (record_left given) (sym p) ∙ same ∙ ap (record_left given) q)

pub open_unique : (tablets : ℕ) (t u : Result Record Refusal) → opened t ≡ opening tablets → opened u ≡ opening tablets → t ≡ u
open_unique tablets t u p q =
    let same : opened t ≡ opened u = p ∙ sym q in
    left_unique no_record t u (ap (λ (o : Opened). o.refusal) same) (ap (λ (o : Opened). o.returned) same)

pub fresh_record_unique : (tablets : ℕ) (a b : Record) → a ≡ fresh_record tablets → b ≡ fresh_record tablets → a ≡ b
fresh_record_unique tablets a b p q = p ∙ sym q

pub no_record_unique : (a b : Record) → a ≡ no_record → b ≡ no_record → a ≡ b
no_record_unique a b p q = p ∙ sym q

-- a trace of a record and its buffers is that store
pub trace_unique : (r : Record) (lent : Buffers) (a b : Trace) → store_in a ≡ store_at r lent → store_in b ≡ store_at r lent → store_in a ≡ store_in b
trace_unique r lent a b p q = p ∙ sym q

-- an outcome's buffers are those of its store
pub accept_unique : (s : Store) (e : Event) (given : Record) (t u : Result Record Refusal) (clocks held order bytes numbers tablets : List ℕ) → taken given t clocks held order ≡ accepting s e → taken given u bytes numbers tablets ≡ accepting s e → (t ≡ u) × (clocks ≡ bytes) × (held ≡ numbers) × (order ≡ tablets)
accept_unique s e given t u clocks held order bytes numbers tablets p q =
    let same : taken given t clocks held order ≡ taken given u bytes numbers tablets = p ∙ sym q in (
      left_unique given t u (ap (λ (o : Outcome). o.refusal) same) (store_record (record_left given t) (record_left given u) clocks held order bytes numbers tablets (ap (λ (o : Outcome). o.store) same)),
      ap (λ (o : Outcome). o.store.clocks) same,
      ap (λ (o : Outcome). o.store.held) same,
      ap (λ (o : Outcome). o.store.order) same,
    )

pub check_unique : (s : Store) (v w : Result (Unit {0}) Refusal) → verdict_number v ≡ store_refusal s → verdict_number w ≡ store_refusal s → v ≡ w
check_unique s v w p q = verdict_unique v w (p ∙ sym q)

pub append_unique : (s : Store) (e : Event) (given : Record) (before : List ℕ) (a b : Result Appended Refusal) (clocks held order bytes numbers tablets : List ℕ) → AppendedTo s e (appended given a clocks held order) (tallies_left before a) → AppendedTo s e (appended given b bytes numbers tablets) (tallies_left before b) → (a ≡ b) × (clocks ≡ bytes) × (held ≡ numbers) × (order ≡ tablets)
append_unique s e given before a b clocks held order bytes numbers tablets p q =
    let same : appended given a clocks held order ≡ appended given b bytes numbers tablets = p.outcome_is ∙ sym q.outcome_is in
    let records = store_record (record_after given a) (record_after given b) clocks held order bytes numbers tablets (ap (λ (o : Outcome). o.store) same) in
    let counts : tallies_left before a ≡ tallies_left before b = p.tally ∙ sym q.tally in (
      answer_unique a b (ap (λ (o : Outcome). o.refusal) same)
          (λ x y is was. let n = ap (record_after given) (sym is) ∙ records ∙ ap (record_after given) was in
          let k = ap (tallies_left before) (sym is) ∙ counts ∙ ap (tallies_left before) was in
          λ i. record { «record» = n i; tallies = k i }),
      ap (λ (o : Outcome). o.store.clocks) same,
      ap (λ (o : Outcome). o.store.held) same,
      ap (λ (o : Outcome). o.store.order) same,
    )

pub write_eight_unique : (bytes : List ℕ) (from : ℕ) (eight a b : List ℕ) → a ≡ sets bytes from eight → b ≡ sets bytes from eight → a ≡ b
write_eight_unique bytes from eight a b p q = p ∙ sym q
