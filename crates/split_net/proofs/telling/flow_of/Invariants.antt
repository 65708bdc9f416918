use Rattle.std.proofs.Common.{◌≡◌, ◌≤◌, length, map}
use Rattle.graph_model.specs.Carries.{carries}
use Rattle.op_model.specs.Cuts.{links_of}
use Rattle.split_net.proofs.Carried.{tell}
use Rattle.split_net.proofs.telling.flow_of.Given as goal

abbrev pub invariant-loop-at : goal.invariant-loop-at
invariant-loop-at l = record {
  told : l.list.items ≡ map tell (carries (links_of l.part) l.amounts l.at);
  within : l.at ≤ length l.part;
}
