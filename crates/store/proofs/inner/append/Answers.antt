-- `append`: a refused event leaves all as it was; one that may follow is written.
use mathlib.Core.Path.{ap}
use Rattle.model.specs.Store.{Store}
use Rattle.store.specs.Outcomes.{store_at}
use Rattle.store.proofs.Ready.{tested_sound, tested_full, tested_bounded, room}
use Rattle.store.proofs.Outcomes.{append_left, append_writes, append_done}
use Rattle.store.proofs.inner.append.Goals as goal

pub invariant_of-clocks : goal.invariant_of-clocks
invariant_of-clocks c =
    record { full = rw (ap (λ (t : Store). t.clocks) c.trace.ensures) (tested_full (store_at c.args.«record» c.args.buffers.now) c.requires.refusal).clocks }

pub invariant_of-past : goal.invariant_of-past
invariant_of-past c =
    let s = store_at c.args.«record» c.args.buffers.now in
    record { narrow = (tested_sound s c.requires.refusal).narrow; bounded = λ j h. rw c.requires.tally (tested_bounded s c.requires.refusal j h) }

pub returns-in_err-offered_verdict-clause-appended : goal.returns-in_err-offered_verdict-clause-appended
returns-in_err-offered_verdict-clause-appended c =
    append_left _ c.args.buffers.now c.args.event _ _ _ (ap (λ (t : Store). t.clocks) c.trace.ensures) c.requires c.offered_verdict.ensures.number _ _ c.in_err-offered_verdict.was c.from_residual.ensures.1

pub write_event-requires : goal.write_event-requires
write_event-requires c =
    let ready = append_writes _ c.args.buffers.now c.args.event _ _ _ (ap (λ (t : Store). t.clocks) c.trace.ensures) c.requires c.offered_verdict.ensures.number _ c.in_ok-offered_verdict.was in
    record { ready = ready; room = room (store_at c.args.«record» c.args.buffers.now) c.args.tallies c.args.event ready }

pub returns-clause-appended : goal.returns-clause-appended
returns-clause-appended c =
    append_done _ c.args.buffers.now c.args.event _ _ _ (ap (λ (t : Store). t.clocks) c.trace.ensures) c.requires c.offered_verdict.ensures.number _ _ _ c.in_ok-offered_verdict.was c.write_event.ensures.written
