-- The table of texts holds: one fact, computed over the whole of it.
use lib.Dec.{T}
use Rattle.model.specs.Lists.{eight, zeros}
use Rattle.model.specs.Numbers.{slot}
use Rattle.model.specs.Clocks.{clock_in, covered}
use Rattle.model.specs.Follow.{tallies, tablet_refusal, others_within, covers, clock_refusal, follow_refusal}
use Rattle.model.specs.Store.{record_refusal, accepted, event_refusal}
use Rattle.model.specs.Cases.{passed}
use Rattle.lines.specs.Numbers.{decimal, plain, digits_from, number}
use Rattle.lines.specs.Find.{line_length, value_behind}
use Rattle.lines.specs.Lists.{listed}
use Rattle.loglines.specs.Keys.{number_line, clock_line, ends_here}
use Rattle.loglines.specs.Events.{held_part, clock_part, event_lines}
use Rattle.text.specs.Reading.{ending, turn, read_on, beginning, reading}
use Rattle.pieces.specs.Lines.{key_line, list_line}
use Rattle.writer.specs.Writing.{event_text, piece_text, text_of}
use Rattle.roundtrip.specs.Cases.{table}

pub texts_as_written : T (passed table)
unfolding eight zeros slot clock_in covered tallies tablet_refusal others_within covers clock_refusal follow_refusal record_refusal accepted event_refusal decimal plain digits_from number line_length value_behind listed number_line clock_line ends_here held_part clock_part event_lines ending turn read_on beginning reading key_line list_line event_text piece_text text_of
texts_as_written = tt
