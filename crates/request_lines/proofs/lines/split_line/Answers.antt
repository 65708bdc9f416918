use Rattle.std.proofs.Common.{rules, ◌∙◌}
use Rattle.request_lines.proofs.Splitting.{search_next, search_found, search_last}
use Rattle.request_lines.proofs.lines.split_line.Goals as goal

pub returns-then-bytes-at-eq10-clause-some : goal.returns-then-bytes-at-eq10-clause-some
returns-then-bytes-at-eq10-clause-some c =
    rw c.split_at.ensures.front
    (rw c.split_at-then-bytes-at-eq10.ensures.back (c.loop-at.invariant ∙ search_found c.args.bytes.now c.loop-at.at 0 c.loop-at-test.true c.if-bytes-at-eq10.true))

pub loop-at-preserved : goal.loop-at-preserved
loop-at-preserved c = c.loop-at.invariant ∙ search_next c.args.bytes.now c.loop-at.at 0 c.loop-at-test.true c.if-bytes-at-eq10.false

pub returns-clause-some : goal.returns-clause-some
returns-clause-some c =
    rw c.split_at-2.ensures.front
    (rw c.split_at-2.ensures.back (c.loop-at.invariant ∙ search_last c.args.bytes.now c.loop-at.at c.loop-at-test.false (search rules)))
