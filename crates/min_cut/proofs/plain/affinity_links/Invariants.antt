use Rattle.std.proofs.Common.{◌≡◌, map}
use Rattle.flow_net.specs.Net.{wire_of}
use Rattle.graph_model.specs.Cuts.{chosen, is_affinity}
use Rattle.min_cut.proofs.plain.affinity_links.Given as goal

abbrev pub invariant-loop-k : goal.invariant-loop-k
invariant-loop-k l = l.chosen.items ≡ chosen (is_affinity (map wire_of l.links)) l.k
