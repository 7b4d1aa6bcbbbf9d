-- The table of ask lines holds: one fact, computed over the whole of it.
use lib.Dec.{T}
use Rattle.model.specs.Lists.{eight}
use Rattle.model.specs.Cases.{passed}
use Rattle.lines.specs.Numbers.{plain, digits_from, number}
use Rattle.lines.specs.Find.{line_length, value_behind}
use Rattle.lines.specs.Lists.{listed}
use Rattle.askline.specs.Sets.{named_set}
use Rattle.askline.specs.Ask.{all_form, exactly_form, ask_of, ask_line}
use Rattle.askline.specs.Cases.{table}

pub asks_as_written : T (passed table)
unfolding eight plain digits_from number line_length value_behind listed named_set all_form exactly_form ask_of ask_line
asks_as_written = tt
