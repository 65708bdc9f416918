use Rattle.std.proofs.Common.{◌∙◌, sym}
use Rattle.client_events.proofs.Numbering.{numbers_in, numbers_out, numbers_end}
use Rattle.client_events.proofs.locks.next_number.Goals as goal

pub returns-then-has_number-clause-some : goal.returns-then-has_number-clause-some
returns-then-has_number-clause-some c =
    (c.loop-n-test.true, c.loop-n.invariant ∙ numbers_in c.args.mask c.loop-n.n c.loop-n-test.true (sym c.has_number.ensures ∙ c.if-has_number.true))

pub loop-n-preserved : goal.loop-n-preserved
loop-n-preserved c = c.loop-n.invariant ∙ numbers_out c.args.mask c.loop-n.n c.loop-n-test.true (sym c.has_number.ensures ∙ c.if-has_number.false)

pub returns-clause-none : goal.returns-clause-none
returns-clause-none c = c.loop-n.invariant ∙ numbers_end c.args.mask c.loop-n.n c.loop-n-test.false
