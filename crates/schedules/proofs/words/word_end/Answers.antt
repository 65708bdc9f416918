use Rattle.std.proofs.Common.{sym}
use Rattle.schedules.proofs.WordLemmas.{ends_last, ends_there}
use Rattle.schedules.proofs.words.word_end.Goals as goal

pub returns-else-not-is_blank-clause-next : goal.returns-else-not-is_blank-clause-next
returns-else-not-is_blank-clause-next c = ends_there c.args.text.now c.loop-at.at 0 c.loop-at-test.true (sym c.if-not-is_blank.ensures)

pub returns-after-loop-at-clause-next : goal.returns-after-loop-at-clause-next
returns-after-loop-at-clause-next c = ends_last c.args.text.now c.loop-at.at c.loop-at-test.false
