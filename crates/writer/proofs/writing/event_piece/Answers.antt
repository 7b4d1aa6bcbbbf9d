-- `event_piece`: the event's lines, from where its clock and held value lie.
use mathlib.Core.Path.{ap, ◌∙◌}
use Prim.Native.Nat.{◌-◌}
use Rattle.store.specs.Outcomes.{store_in}
use Rattle.pieces.specs.Pieces.{empty_piece, grown}
use Rattle.writer.proofs.Pieces.{event_text_lem}
use Rattle.writer.proofs.writing.event_piece.Goals as goal

pub returns : goal.returns
returns c =
    let a = c.args in
    c.three_lines.ensures
    ∙ ap (grown empty_piece) (event_text_lem (store_in a.trace) (a.position.0 - 1) c.number_at-number.result.0 c.stored-clock.result.now c.slot_of.result c.number_at-number.ensures c.stored-clock.ensures.clock c.slot_of.ensures)
