use Rattle.record_rows.proofs.EntryPlaces.{entries_ascend}
use Rattle.record_rows.proofs.laws.entries_stand_in_order.Goals as goal

pub returns : goal.returns
returns c = entries_ascend
