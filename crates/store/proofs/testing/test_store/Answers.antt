-- `test_store`: what is tested before the events, then the run over them.
use native.Mathlib.Omega.{arith}
use Rattle.store.specs.Outcomes.{store_in}
use Rattle.store.proofs.Verdicts.{tested_stopped, tested_sizes, tested_long, tested_events}
use Rattle.store.proofs.testing.test_store.Goals as goal

pub returns-in_err-and : goal.returns-in_err-and
returns-in_err-and c =
    tested_stopped (store_in c.args.trace) _ _ _ c.and.ensures c.record_verdict.ensures c.size_verdict.ensures _ _ c.in_err-and.was c.from_residual.ensures.1

pub returns-then-record-gt2032 : goal.returns-then-record-gt2032
returns-then-record-gt2032 c =
    tested_long (store_in c.args.trace) _ _ _ c.and.ensures c.record_verdict.ensures c.size_verdict.ensures _ c.in_ok-and.was c.if-record-gt2032.true

pub follow_all-requires : goal.follow_all-requires
follow_all-requires c =
    let sizes = tested_sizes (store_in c.args.trace) _ _ _ c.and.ensures c.record_verdict.ensures c.size_verdict.ensures _ c.in_ok-and.was in
    (sizes.0, omega (arith, sizes.1.order))

pub returns : goal.returns
returns c =
    tested_events (store_in c.args.trace) _ _ _ c.and.ensures c.record_verdict.ensures c.size_verdict.ensures _ c.in_ok-and.was c.follow_all.result _ (omega arith) c.follow_all.ensures c.ok_or.ensures.value
