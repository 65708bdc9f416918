use Rattle.row_append.proofs.LastLemmas.{ends_are_last, ends_lie}
use Rattle.row_append.proofs.laws.ends_are_last.Goals as goal

pub returns : goal.returns
returns c = record { last = ends_are_last; within = ends_lie }
