use Rattle.std.proofs.Common.{sym, ap, codes, ◌++◌}
use Rattle.request_lines.specs.Json.{quoted}
use Rattle.request_lines.specs.Items.{summary_text}
use Rattle.request_lines.proofs.Putting.{puts_then, puts_same}
use Rattle.request_lines.proofs.items.SummaryWritten.put_on.Goals as goal

pub returns : goal.returns
unfolding summary_text
returns g c = puts_then c.put_number.ensures (puts_then (puts_same (ap (λ w. codes ",\"do\":" ++ quoted w) (sym c.name_of.ensures)) c.put_word.ensures) (puts_then c.put_number-2.ensures c.put.ensures))
