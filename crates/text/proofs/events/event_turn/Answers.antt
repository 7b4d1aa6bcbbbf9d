-- `event_turn`: the last line, or an event that was taken or refused.
use Rattle.std.proofs.Common.{◌∙◌, sym}
use Rattle.model.specs.Store.{Store}
use Rattle.store.specs.Outcomes.{store_at}
use Rattle.store.proofs.Theorems.{sound_limits}
use Rattle.text.proofs.Steps.{turn_ends, turn_takes, turn_refuses}
use Rattle.text.proofs.events.event_turn.Goals as goal

pub returns-then-ends_here-clause-taken : goal.returns-then-ends_here-clause-taken
returns-then-ends_here-clause-taken c =
    let st : Store = store_at c.args.«record» c.args.buffers.now in
    let few = (sound_limits st c.requires.refusal).0 in
    λ line. turn_ends st c.args.ahead.now c.args.buffers.now.clocks.now c.args.buffers.now.held.now c.args.buffers.now.order.now few line c.read_end.result (sym c.ends_here.ensures ∙ c.if-ends_here.true)
    (c.read_end.ensures line c.args.buffers.now.clocks.now c.args.buffers.now.held.now c.args.buffers.now.order.now)

pub returns-in-Ok-clause-taken : goal.returns-in-Ok-clause-taken
returns-in-Ok-clause-taken c =
    let st : Store = store_at c.args.«record» c.args.buffers.now in
    let few = (sound_limits st c.requires.refusal).0 in
    λ line. turn_takes st c.args.ahead.now _ _ _ few line (sym c.ends_here.ensures ∙ c.if-ends_here.false) c.in-Ok.taken c.in-Ok.ensures.read

pub returns-in-Err-clause-taken : goal.returns-in-Err-clause-taken
returns-in-Err-clause-taken c =
    let st : Store = store_at c.args.«record» c.args.buffers.now in
    let few = (sound_limits st c.requires.refusal).0 in
    λ line. turn_refuses st c.args.ahead.now _ _ _ few line (sym c.ends_here.ensures ∙ c.if-ends_here.false) c.in-Err.refused c.args.«record» c.in-Err.ensures.read
