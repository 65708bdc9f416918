use Rattle.std.proofs.Common.{◌≡◌, ◌≤◌, ◌*◌, map, take, sum, length}
use Rattle.std.specs.List.{sum_by}
use Rattle.graph_model.specs.Wires.{wire, weight_of}
use Rattle.flow_net.specs.Net.{wire_of}
use Rattle.flow_net.proofs.cuts.weight_of_block.Given as goal

abbrev pub invariant-loop-i : goal.invariant-loop-i
invariant-loop-i l = record {
  len : length l.rooms ≡ 64;
  so_far : sum (take l.i l.rooms) ≡ sum_by (λ k. weight_of (wire (map wire_of l.links) k).room) (take l.i l.block);
  bound : sum (take l.i l.rooms) ≤ 4294967295 * l.i;
}
