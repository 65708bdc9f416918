use Rattle.std.proofs.Common.{arith, ap, length, ◌∙◌}
use Rattle.std.proofs.lemmas.Grind.{common_steps}
use Rattle.std.proofs.lemmas.Fmt.{decimal_nonempty}
use Rattle.node_ids.proofs.DigitLemmas.{read_front}
use Rattle.node_ids.proofs.digits.write_digits.Goals as goal

pub returns-clause-read : goal.returns-clause-read
returns-clause-read c = read_front c.args.n _ c.ranges.n.fits (grind (arith, common_steps))

pub returns-clause-count : goal.returns-clause-count
returns-clause-count c =
    let e = ap length (c.as_bytes-text.ensures.value ∙ c.format.ensures.text) in
    (omega (arith, decimal_nonempty c.args.n c.ranges.n.fits), omega (arith, ap length c.as_bytes-text.ensures.value, c.format.ensures.fits))
