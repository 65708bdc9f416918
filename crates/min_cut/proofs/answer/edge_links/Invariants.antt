use Rattle.std.proofs.Common.{◌≡◌, map, is_some}
use Rattle.flow_net.specs.Net.{wire_of}
use Rattle.graph_model.specs.Cuts.{chosen, crosses}
use Rattle.min_cut.specs.Tree.{visit_at}
use Rattle.min_cut.proofs.answer.edge_links.Given as goal

abbrev pub invariant-loop-k : goal.invariant-loop-k
invariant-loop-k l = l.chosen.items ≡ chosen (crosses (map wire_of l.links) (λ v. is_some (visit_at l.visits v))) l.k
