use Rattle.edge_rows.proofs.PairOrder.{changed_ascend}
use Rattle.new_ids.proofs.laws.changed_pairs_ascend.Goals as goal

pub returns : goal.returns
returns c = changed_ascend
