-- The theorems on the trace text, in the words of specs/.
use mathlib.Core.Path.{◌≡◌, sym, ap, ◌∙◌, subst}
use mathlib.Core.Bool.{true}
use mathlib.Core.List.{List}
use Prim.Native.Nat.{ℕ, ◌≤◌, ◌<◌}
use native.Mathlib.Omega.{arith}
use Rattle.model.specs.Follow.{event_at}
use Rattle.std.specs.Prelude.{Result, Ok, Err, IsOkAnd}
use Rattle.model.specs.declared.Record.{Record}
use Rattle.model.specs.Store.{Store, store_of, full_sizes, held_of, store_refusal}
use Rattle.model.specs.Agree.{AgreeTo}
use Rattle.model.proofs.Refusals.{number_positive}
use Rattle.text.specs.declared.reading.ReadRefusal.{ReadRefusal}
use Rattle.text.specs.Reading.{ReadOutcome, read_outcome, reading}
use Rattle.writer.specs.Writing.{text_of}
use Rattle.roundtrip.specs.Calls.{Written, joined}
use Rattle.roundtrip.proofs.Back.{read_back}
use Rattle.roundtrip.proofs.Again.{written_again}
use Rattle.roundtrip.proofs.Calls.{joined_text}

-- What is written of a sound store reads back, into any buffers of full size: accepted, with the same T, and the same number
-- of tablets, order, clocks and held values over the slots in use (`AgreeTo` all T events). The held values are 16-bit
-- numbers, as the buffer that holds them has them.
pub written_reads_back : (s : Store) → store_refusal s ≡ 0 → ((q : ℕ) → q < s.events → held_of s (event_at s.order q) ≤ 65535) → (clocks held order : List ℕ) → full_sizes clocks held order ≡ true → ((reading (text_of s) clocks held order).refusal ≡ 0) × ((reading (text_of s) clocks held order).store.events ≡ s.events) × AgreeTo s.events s (reading (text_of s) clocks held order).store
written_reads_back s sound fits clocks held order full = written_again s sound fits clocks held order full

-- An accepted text leaves a sound store, and is written back from it byte for byte.
pub read_writes_back : (text clocks held order : List ℕ) → (reading text clocks held order).refusal ≡ 0 → (store_refusal (reading text clocks held order).store ≡ 0) × (text_of (reading text clocks held order).store ≡ text)
read_writes_back text clocks held order passed = read_back text clocks held order passed

-- The same in words of calls. What the calls of `write` for the pieces 0 to T+1 leave in the fronts of their outputs, each as
-- long as it answered, is the store's text when joined. That the store is sound needs no saying: of another, `write` refuses
-- every piece.
pub pieces_join : (s : Store) (w : Written s) → joined s w ≡ text_of s
pieces_join s w = joined_text s w

-- Reading what those calls wrote gives the same events back: a call of `read`, with its answer and buffers at exit, passes.
pub calls_read_back : (s : Store) → store_refusal s ≡ 0 → ((q : ℕ) → q < s.events → held_of s (event_at s.order q) ≤ 65535) → (w : Written s) → (clocks held order : List ℕ) → full_sizes clocks held order ≡ true → (r : Result Record ReadRefusal) (c h o : List ℕ) → read_outcome r c h o ≡ reading (joined s w) clocks held order → IsOkAnd r (λ q. (q.events ≡ s.events) × AgreeTo s.events s (store_of q c h o))
calls_read_back s sound fits w clocks held order full r c h o met =
    let is : read_outcome r c h o ≡ reading (text_of s) clocks held order = met ∙ ap (λ (text : List ℕ). reading text clocks held order) (pieces_join s w) in
    by_answer r (subst (λ (x : ReadOutcome). (x.refusal ≡ 0) × (x.store.events ≡ s.events) × AgreeTo s.events s x.store) (sym is) (written_reads_back s sound fits clocks held order full))
  where
    by_answer : (x : Result Record ReadRefusal) → ((read_outcome x c h o).refusal ≡ 0) × ((read_outcome x c h o).store.events ≡ s.events) × AgreeTo s.events s (read_outcome x c h o).store → IsOkAnd x (λ q. (q.events ≡ s.events) × AgreeTo s.events s (store_of q c h o))
    by_answer (Ok q) back = (back.1, back.2)
    by_answer (Err e) back = let no : ⊥ = omega (arith, number_positive e.why, back.0) in absurd no

-- Writing out the store that an accepted text left gives that text.
pub calls_write_back : (text clocks held order : List ℕ) (r : Result Record ReadRefusal) (c h o : List ℕ) → read_outcome r c h o ≡ reading text clocks held order → (q : Record) → r ≡ Ok q → (w : Written (store_of q c h o)) → joined (store_of q c h o) w ≡ text
calls_write_back text clocks held order r c h o met q passed w =
    let is : read_outcome (Ok q) c h o ≡ reading text clocks held order = ap (λ (x : Result Record ReadRefusal). read_outcome x c h o) (sym passed) ∙ met in
    let none = sym (ap (λ (x : ReadOutcome). x.refusal) is) in
    pieces_join (store_of q c h o) w ∙ ap (λ (x : ReadOutcome). text_of x.store) is ∙ (read_writes_back text clocks held order none).1

-- That every text is accepted or refused with exactly one number and line needs no theorem: `reading` is a function of the
-- text and the buffers, and `read_unique` says that the call's contract leaves no second answer.
