use Rattle.std.proofs.Common.{◌≤◌, sym, subst}
use Rattle.parent_rows.proofs.Sought.{segment_low}
use Rattle.parent_rows.proofs.runs.chunk_by.Goals as goal

pub overflow_sub-result : goal.overflow_sub-result
overflow_sub-result c = subst (λ p. p.segment ≤ c.args.id) (sym c.unpack.ensures) (segment_low c.args.ids c.args.id)
