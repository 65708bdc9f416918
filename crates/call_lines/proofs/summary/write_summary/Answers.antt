use Rattle.request_lines.proofs.Whole.{whole_err, whole_has_cause, on_err_then}
use Rattle.call_lines.proofs.summary.write_summary.Goals as goal

pub returns-clause-err : goal.returns-clause-err
returns-clause-err g c =
    on_err_then c.finish.result (λ m. whole_err c.new-page.ensures.empty c.new-page.ensures.fresh c.put_summary.ensures c.finish.ensures.puts m) c.finish.ensures.err

pub returns-clause-cause : goal.returns-clause-cause
returns-clause-cause g c = whole_has_cause c.finish.result c.new-page.ensures.fresh c.put_summary.ensures c.finish.ensures.puts c.finish.ensures.ok c.finish.ensures.err
