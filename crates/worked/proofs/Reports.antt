-- The table of reports holds: one fact, computed over the whole of it.
use lib.Dec.{T}
use Rattle.model.specs.Lists.{eight, zeros}
use Rattle.model.specs.Numbers.{slot}
use Rattle.model.specs.Clocks.{clock_in, covered}
use Rattle.model.specs.Follow.{tallies, tablet_refusal, others_within, covers, clock_refusal, follow_refusal}
use Rattle.model.specs.Store.{record_refusal, accepted, event_refusal}
use Rattle.model.specs.Cuts.{closed, consistent, cuts_between, interval, all_cuts, total}
use Rattle.model.specs.Questions.{holding, sum_held, meets, set_fits, answer}
use Rattle.model.specs.Cases.{passed}
use Rattle.lines.specs.Numbers.{decimal, plain, digits_from, number}
use Rattle.lines.specs.Find.{line_length, value_behind}
use Rattle.lines.specs.Lists.{listed}
use Rattle.pieces.specs.Lines.{key_line, list_line, pair_line}
use Rattle.askline.specs.Sets.{named_set}
use Rattle.askline.specs.Ask.{all_form, exactly_form, ask_of, ask_line}
use Rattle.loglines.specs.Keys.{number_line, clock_line, ends_here}
use Rattle.loglines.specs.Events.{held_part, clock_part, event_lines}
use Rattle.text.specs.Reading.{ending, turn, read_on, beginning, reading}
use Rattle.answerlines.specs.Printing.{witness_line, head_lines, tail_lines, answer_lines}
use Rattle.report.specs.Report.{counting, answering, answering_read, tracing, looking, reporting}
use Rattle.worked.specs.Reports.{table}

pub reports_as_written : T (passed table)
unfolding eight zeros slot clock_in covered tallies tablet_refusal others_within covers clock_refusal follow_refusal record_refusal accepted event_refusal closed consistent cuts_between interval all_cuts total holding sum_held meets set_fits answer decimal plain digits_from number line_length value_behind listed key_line list_line pair_line named_set all_form exactly_form ask_of ask_line number_line clock_line ends_here held_part clock_part event_lines ending turn read_on beginning reading witness_line head_lines tail_lines answer_lines counting answering answering_read tracing looking reporting
reports_as_written = tt
