use Rattle.request_lines.proofs.Whole.{whole_has_cause}
use Rattle.usage_texts.proofs.Some.{both_some}
use Rattle.fault_texts.proofs.telling.write_faults.Goals as goal

pub returns : goal.returns
returns g c =
    whole_has_cause c.finish.result c.new-page.ensures.fresh ((both_some c.put_faults.ensures c.put_output.ensures).1) c.finish.ensures.puts c.finish.ensures.ok c.finish.ensures.err
