use Rattle.std.proofs.Common.{◌∙◌, sym, arith}
use Rattle.schedules.proofs.WordLemmas.{blank_passed}
use Rattle.schedules.proofs.words.blanks.Goals as goal

pub loop-at-preserved : goal.loop-at-preserved
loop-at-preserved c =
    (let l = c.loop-at-test.true in omega (arith, l), blank_passed c.args.text.now c.loop-at.at 0 c.loop-at-test.true (sym c.is_blank.ensures ∙ c.if-is_blank.true) ∙ c.loop-at.invariant.1)
