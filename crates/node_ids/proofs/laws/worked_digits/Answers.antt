use Rattle.std.proofs.Common.{refl}
use Rattle.node_ids.specs.Digits.{number_of}
use Rattle.node_ids.proofs.laws.worked_digits.Goals as goal

pub returns : goal.returns
unfolding number_of
returns c = record {
  least = refl;
  plain = refl;
  most = refl;
  over = refl;
  long = refl;
  empty = refl;
  leading = refl;
  signed = refl;
}
