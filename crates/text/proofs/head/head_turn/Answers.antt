-- `head_turn`: behind the `tablets` line.
use Rattle.text.proofs.Steps.{head_goes}
use Rattle.text.proofs.head.head_turn.Goals as goal

pub returns-in-Ok : goal.returns-in-Ok
returns-in-Ok c = head_goes c.args.text.now c.in-Ok.record _ c.in-Ok.ensures.says c.line_length.ensures
