use Rattle.std.proofs.Common.{ap, sym, ◌∙◌, codes, ◌++◌}
use Rattle.request_lines.specs.Json.{quoted}
use Rattle.request_lines.proofs.Putting.{puts_then, puts_same}
use Rattle.request_lines.proofs.refused.put_field.Goals as goal

pub returns : goal.returns
returns g c =
    puts_then (puts_same (ap (λ w. codes "{\"name\":" ++ quoted w) (sym (c.as_bytes.ensures.value ∙ c.name_of.ensures))) c.put_word.ensures) (puts_then c.put_word-2.ensures c.put.ensures)
