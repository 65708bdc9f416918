use Rattle.std.proofs.Common.{◌≡◌, ℕ, List, ap, sym, ◌∙◌, codes, decimal, ◌++◌}
use Rattle.std.proofs.lemmas.List.{append_assoc}
use Rattle.request_lines.proofs.Putting.{puts_then, puts_same}
use Rattle.request_lines.proofs.refused.put_number.Goals as goal

-- a key and its value before the rest
keyed : (key value rest : List ℕ) → ((key ++ codes "\":") ++ value) ++ rest ≡ (key ++ codes "\"") ++ (codes ":" ++ (value ++ rest))
keyed key value rest =
    append_assoc (key ++ codes "\":") value rest ∙ append_assoc key (codes "\":") (value ++ rest) ∙ sym (append_assoc key (codes "\"") (codes ":" ++ (value ++ rest)))

pub returns : goal.returns
returns g c =
    let rest = codes ",\"ok\":false,\"refusal\":\"" ++ ((c.args.name.now ++ codes "\"") ++ (codes ",\"seen\":" ++ (decimal c.args.seen ++ codes "}\n"))) in
    puts_same (ap (λ w. codes "{\"" ++ w) (keyed c.args.key.now (decimal c.args.number) rest))
    (puts_then c.put_word.ensures (puts_then c.put_number.ensures (puts_then c.put_word-2.ensures c.put_seen.ensures)))
