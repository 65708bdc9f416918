use Rattle.row_append.proofs.EndLaws.{edges_end, nodes_end, links_end}
use Rattle.row_append.proofs.laws.members_end.Goals as goal

pub returns : goal.returns
returns c = record { edges = edges_end; nodes = nodes_end; links = links_end }
