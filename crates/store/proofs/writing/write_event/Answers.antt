-- `write_event`: the three writes are the accepted store.
use Rattle.store.specs.Outcomes.{store_at}
use Rattle.store.proofs.Ready.{written}
use Rattle.store.proofs.writing.write_event.Goals as goal

pub returns-clause-written : goal.returns-clause-written
returns-clause-written c =
    let a = c.args in
    written (store_at a.«record» a.buffers.now) a.tallies a.event c.requires.ready c.slot_of-at.result c.write_eight.new.bytes c.slot_of-at.ensures c.write_eight.ensures
