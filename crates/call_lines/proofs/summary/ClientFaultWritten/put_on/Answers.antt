use Rattle.std.proofs.Common.{◌++◌, codes, sym, ap}
use Rattle.request_lines.specs.Json.{quoted}
use Rattle.request_lines.proofs.Putting.{puts_then, puts_same}
use Rattle.call_lines.proofs.summary.ClientFaultWritten.put_on.Goals as goal

pub returns : goal.returns
returns g c =
    let named = puts_same (ap (λ w. codes "," ++ quoted w) (sym c.name_of.ensures)) c.put_word.ensures in
    puts_then c.put_number.ensures (puts_then named c.put.ensures)
