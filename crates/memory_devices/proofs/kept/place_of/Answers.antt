use Rattle.std.proofs.Common.{rules, ◌≡◌, ◌∙◌, ap, sym, true, false, bytes_eq, get_or}
use Rattle.memory_devices.specs.Kept.{name_of}
use Rattle.memory_devices.proofs.Entries.{first_found, passed_by, same}
use Rattle.memory_devices.proofs.kept.place_of.Goals as goal

pub returns-then-eq-clause-found : goal.returns-then-eq-clause-found
returns-then-eq-clause-found c =
    let alike : bytes_eq (name_of (get_or c.args.kept.now c.loop-i.i c.index-kept-i.result)) c.args.name.now ≡ true = ap (λ t. bytes_eq t c.args.name.now) (sym c.as_str.ensures.value) ∙ sym c.eq.ensures ∙ c.if-eq.true in
    first_found c.args.name.now c.args.kept.now c.loop-i.i c.index-kept-i.result (search rules) (same _ _ alike) c.loop-i.invariant

pub loop-i-preserved : goal.loop-i-preserved
loop-i-preserved c =
    let apart : bytes_eq (name_of (get_or c.args.kept.now c.loop-i.i c.index-kept-i.result)) c.args.name.now ≡ false = ap (λ t. bytes_eq t c.args.name.now) (sym c.as_str.ensures.value) ∙ sym c.eq.ensures ∙ c.if-eq.false in
    passed_by c.args.name.now c.args.kept.now c.loop-i.i c.index-kept-i.result (search rules) apart c.loop-i.invariant
