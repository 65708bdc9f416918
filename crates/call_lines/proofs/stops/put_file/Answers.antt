use Rattle.std.proofs.Common.{◌++◌, codes, sym, ap}
use Rattle.request_lines.specs.Json.{quoted}
use Rattle.request_lines.proofs.Putting.{puts_then, puts_same}
use Rattle.call_lines.proofs.stops.put_file.Goals as goal

pub returns : goal.returns
returns g c =
    let file = puts_same (ap (λ w. codes ",\"file\":" ++ quoted w) (sym c.name_of.ensures)) c.put_word-2.ensures in
    puts_then c.put_number.ensures (puts_then c.put_word.ensures (puts_then file c.put.ensures))
