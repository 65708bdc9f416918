use Rattle.std.proofs.Common.{◌++◌, codes, sym, ap}
use Rattle.request_lines.specs.Json.{quoted}
use Rattle.request_lines.proofs.Putting.{puts_then, puts_same}
use Rattle.call_lines.proofs.stops.put_record.Goals as goal

pub returns : goal.returns
returns g c =
    let cause = puts_same (ap (λ w. codes "{\"cause\":" ++ quoted w) (sym c.cause_name_of.ensures)) c.put_word.ensures in
    let table = puts_same (ap (λ w. codes ",\"table\":" ++ quoted w) (sym c.table_name_of.ensures)) c.put_word-3.ensures in
    puts_then cause (puts_then c.put_word-2.ensures (puts_then c.put_number.ensures (puts_then table c.put.ensures)))
