use Rattle.std.proofs.Common.{◌∙◌, ap}
use Rattle.graph_model.specs.Lists.{has}
use Rattle.made_nodes.proofs.Once.{once_ascends, once_same}
use Rattle.made_nodes.proofs.finding.different_leasts.Goals as goal

pub returns-clause-ascending : goal.returns-clause-ascending
returns-clause-ascending c =
    once_ascends c.in_ok-list.list.items c.sort_unstable.new.self.items c.dedup.new.self.items c.sort_unstable.ensures.permutation c.sort_unstable.ensures.sorted c.dedup.ensures.filtered

pub returns-clause-same : goal.returns-clause-same
returns-clause-same c p =
    once_same c.in_ok-list.list.items c.sort_unstable.new.self.items c.dedup.new.self.items c.sort_unstable.ensures.permutation c.sort_unstable.ensures.sorted c.dedup.ensures.filtered p
    ∙ ap (λ xs. has xs p) c.in_ok-list.ensures
