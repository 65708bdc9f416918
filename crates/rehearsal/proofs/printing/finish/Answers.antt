use Rattle.std.proofs.Common.{◌≡◌, ◌∙◌, ap, sym, rules, inl, inr}
use Rattle.log_lines.specs.LogTexts.{log_text}
use Rattle.session_results.specs.Results.{status_for}
use Rattle.rehearsal.specs.Outcomes.{at_fault}
use Rattle.rehearsal.proofs.Prints.{all_printed, front_of, never_zero}
use Rattle.rehearsal.proofs.printing.finish.Goals as goal

pub returns-in-Ok-clause-printed : goal.returns-in-Ok-clause-printed
returns-in-Ok-clause-printed g c = λ d b log image.
    let wrote = c.in-Ok.ensures.ok d b log image in
    all_printed d b log c.args.clients c.in-Ok.counts c.args.done.faults.items c.args.done.lines c.args.done.refused c.summary_of-summary.result
    (g.K.Sink.state c.args.out.now) (g.K.Sink.state c.write_log.new.out) (g.K.Sink.state c.end_with.new.out) c.end_with.result
    wrote.1 c.summary_of-summary.ensures wrote.0 c.in-Ok.ensures.still c.end_with.ensures.printed

pub returns-in-Err-Failed-clause-printed : goal.returns-in-Err-Failed-clause-printed
returns-in-Err-Failed-clause-printed g c = λ d b log image.
    let same : c.at_fault.result ≡ at_fault (status_for c.args.done.faults.items) = c.at_fault.ensures ∙ ap at_fault (c.status_for.ensures ∙ ap status_for c.as_slice.ensures.value) in
    inr (inl (front_of _ _ (log_text log) _ (c.in-Err-Failed.ensures.front d b log image), (search rules), same))

pub returns-in-Err-Failed-clause-flushed : goal.returns-in-Err-Failed-clause-flushed
returns-in-Err-Failed-clause-flushed g c = λ e. never_zero c.status_for.result (sym c.at_fault.ensures ∙ e)

pub returns-clause-printed : goal.returns-clause-printed
returns-clause-printed g c = λ d b log image.
    inr (inr (front_of _ _ (log_text log) _ (c.in-Err-NoMemory.ensures.front d b log image), (search rules), (search rules)))
