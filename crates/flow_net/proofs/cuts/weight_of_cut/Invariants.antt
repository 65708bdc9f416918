use Rattle.std.proofs.Common.{◌≡◌, ◌≤◌, ◌*◌, map, take}
use Rattle.std.specs.List.{sum_by}
use Rattle.graph_model.specs.Wires.{wire, weight_of}
use Rattle.flow_net.specs.Net.{wire_of}
use Rattle.flow_net.proofs.cuts.weight_of_cut.Given as goal

abbrev pub invariant-loop-block : goal.invariant-loop-block
invariant-loop-block l = record {
  so_far : l.sum ≡ sum_by (λ k. weight_of (wire (map wire_of l.links) k).room) (take (64 * l.block) l.cut);
  bound : l.sum ≤ 4294967295 * (64 * l.block);
}
