use Rattle.std.proofs.Common.{◌∙◌, sym}
use Rattle.client_events.proofs.Numbering.{held_end, held_more, held_not, held_out}
use Rattle.client_events.proofs.locks.holds_each.Goals.{else-has_number-via-then-has_number+else-locks-n, else-has_number-via-else-has_number}
use Rattle.client_events.proofs.locks.holds_each.Goals as goal

pub returns-then-locks-n : goal.returns-then-locks-n
returns-then-locks-n c =
    sym (c.loop-n.invariant ∙ held_not c.args.locks.now c.args.client c.args.mask c.loop-n.n c.loop-n-test.true (sym c.has_number.ensures ∙ c.if-has_number.true) c.if-locks-n.true)

pub loop-n-preserved : goal.loop-n-preserved
loop-n-preserved c =
    elim c.else-has_number.branch [
      | else-has_number-via-then-has_number+else-locks-n w ↦ c.loop-n.invariant ∙ held_more c.args.locks.now c.args.client c.args.mask c.loop-n.n c.loop-n-test.true (sym c.has_number.ensures ∙ w.if-has_number.true) w.if-locks-n.false
      | else-has_number-via-else-has_number w ↦ c.loop-n.invariant ∙ held_out c.args.locks.now c.args.client c.args.mask c.loop-n.n c.loop-n-test.true (sym c.has_number.ensures ∙ w.if-has_number.false)
    ]

pub returns : goal.returns
returns c = sym (c.loop-n.invariant ∙ held_end c.args.locks.now c.args.client c.args.mask c.loop-n.n c.loop-n-test.false)
