use Rattle.std.proofs.Common.{ℕ, ◌<◌, ◌≤◌, ◌*◌, ◌^◌, map, length, get_or}
use Rattle.flow_net.specs.Net.{wire_of}
use Rattle.graph_model.specs.Flows.{run_in, run_out}
use Rattle.flow_net.specs.Sums.{AreSums}
use Rattle.flow_net.proofs.balance.add_links.Given as goal

abbrev pub invariant-loop-k : goal.invariant-loop-k
invariant-loop-k l = record {
  into : AreSums (run_in (map wire_of l.links) l.amounts) l.k l.first l.into;
  out : AreSums (run_out (map wire_of l.links) l.amounts) l.k l.first l.out;
  small_into : (i : ℕ) → i < length l.into → get_or l.into i 0 ≤ 2 ^ 63 * l.k;
  small_out : (i : ℕ) → i < length l.out → get_or l.out i 0 ≤ 2 ^ 63 * l.k;
}
