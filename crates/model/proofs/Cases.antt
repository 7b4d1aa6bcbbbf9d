-- The starred cases of document 01 hold: one fact, computed over the whole table.
use lib.Dec.{T}
use Rattle.model.specs.Lists.{eight, zeros}
use Rattle.model.specs.Numbers.{slot}
use Rattle.model.specs.Clocks.{clock_in, covered}
use Rattle.model.specs.Follow.{tallies, tablet_refusal, others_within, covers, clock_refusal, follow_refusal}
use Rattle.model.specs.Store.{full_size, valid, record_refusal, store_refusal, accepted, event_refusal}
use Rattle.model.specs.Cuts.{closed, consistent, cuts_between, interval, all_cuts, total}
use Rattle.model.specs.Questions.{holding, sum_held, meets, answer}
use Rattle.model.specs.Cases.{table, layout, passed}

pub starred_cases : T (passed table)
unfolding full_size record_refusal store_refusal eight zeros slot clock_in covered tallies tablet_refusal others_within covers clock_refusal follow_refusal valid accepted event_refusal closed consistent cuts_between interval all_cuts total holding sum_held meets answer
starred_cases = tt

pub layout_as_written : T (passed layout)
unfolding eight zeros slot clock_in covered tallies tablet_refusal others_within covers clock_refusal follow_refusal accepted
layout_as_written = tt
