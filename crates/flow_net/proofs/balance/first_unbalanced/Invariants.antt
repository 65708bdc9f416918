use Rattle.std.proofs.Common.{◌≡◌, ◌*◌, None, map, min, length}
use Rattle.flow_net.specs.Net.{first_below, wire_of}
use Rattle.flow_net.specs.Verdict.{unbalanced}
use Rattle.flow_net.proofs.balance.first_unbalanced.Given as goal

abbrev pub invariant-loop-block : goal.invariant-loop-block
invariant-loop-block l = record {
  none : first_below (unbalanced (map wire_of l.links) l.sources l.sinks l.amounts) (min l.n (2048 * l.block)) ≡ None;
  into : length l.into ≡ 2048;
  out : length l.out ≡ 2048;
}
