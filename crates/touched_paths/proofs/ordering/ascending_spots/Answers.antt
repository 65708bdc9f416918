use Rattle.std.proofs.lemmas.List.Filters.{dedup_is}
use Rattle.touched_paths.proofs.Orders.{once_ascends, once_same}
use Rattle.touched_paths.proofs.ordering.ascending_spots.Goals as goal

pub returns-clause-ascending : goal.returns-clause-ascending
returns-clause-ascending c = once_ascends c.sort_unstable.new.self.items c.dedup.new.self.items c.sort_unstable.ensures.sorted (dedup_is _ _ _ c.dedup.ensures.filtered)

pub returns-clause-same : goal.returns-clause-same
returns-clause-same c = once_same c.args.list.items c.sort_unstable.new.self.items c.dedup.new.self.items c.sort_unstable.ensures.permutation (dedup_is _ _ _ c.dedup.ensures.filtered)
