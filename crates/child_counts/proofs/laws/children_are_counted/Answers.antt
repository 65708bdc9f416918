use Rattle.child_counts.proofs.Counted.{counted}
use Rattle.child_counts.proofs.laws.children_are_counted.Goals as goal

pub returns : goal.returns
returns c d b log e ids layer below firsts leasts nodes valid base two is lower here made told small = counted d b valid base log e ids layer two is below firsts leasts nodes lower here made told small
