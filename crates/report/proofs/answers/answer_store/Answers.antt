-- `answer_store`: 13, or 11, or the witness and the counts.
use Rattle.std.proofs.Common.{◌≡◌, ℕ, length, ap, ap₂, ◌∙◌, arith, rules}
use Rattle.model.specs.Refusals.{number_of}
use Rattle.store.specs.Outcomes.{store_in}
use Rattle.store.proofs.Ready.{tested_sound}
use Rattle.report.specs.Report.{refused_shown, counting}
use Rattle.report.proofs.Outcomes.{told_refusal, answering_refused, answering_given, over_refused, counting_over, counting_written}
use Rattle.report.proofs.answers.answer_store.Goals as goal

pub returns-in_err-witness : goal.returns-in_err-witness
returns-in_err-witness c =
    told_refusal _ _ _ c.from_residual.ensures.1 ∙ answering_refused (store_in c.args.trace) c.args.question c.args.out.now _ c.answer_job.ensures _ c.in_err-witness.was

pub returns-in_err-sum : goal.returns-in_err-sum
returns-in_err-sum c =
    let over = over_refused _ _ c.in_err-sum.ensures.value in
    told_refusal _ _ _ c.from_residual-in_err-sum.ensures.1
    ∙ ap (λ why. refused_shown (number_of why) 0 c.args.out.now) over.1
    ∙ counting_over (store_in c.args.trace) _ _ _ _ _ (c.count_all.ensures c.args.trace.held.now) over.0
    ∙ answering_given (store_in c.args.trace) c.args.question c.args.out.now _ c.answer_job.ensures _ c.in_ok-witness.was

pub write_answer-requires : goal.write_answer-requires
write_answer-requires c =
    let sound = tested_sound (store_in c.args.trace) c.requires.0 in
    let same : ◌≡◌ {A = ℕ} 2033 (length c.count_all.new.counts) = search rules in
    record { some = sound.some; most = sound.narrow; few = sound.total; counted = omega arith; entries = c.entries_of.ensures.eight; fits = c.requires.1 }

pub returns : goal.returns
returns c =
    let all = c.count_all.ensures c.args.trace.held.now in
    let lent = c.entries_of.ensures in
    counting_written (store_in c.args.trace) _ _ _ _ _ (rw c.in_ok-sum.ensures.ok_part at all) _ _ (omega (arith, c.write_answer.ensures.0, c.requires.1)) c.write_answer.ensures.1
    ∙ ap₂ (λ found cut. counting (store_in c.args.trace) found cut c.args.out.now) lent.some lent.entries
    ∙ answering_given (store_in c.args.trace) c.args.question c.args.out.now _ c.answer_job.ensures _ c.in_ok-witness.was
