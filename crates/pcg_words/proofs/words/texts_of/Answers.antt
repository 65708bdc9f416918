use Rattle.std.proofs.Common.{rules}
use Rattle.pcg_words.proofs.Texts.{bad_text, next_text}
use Rattle.pcg_words.proofs.words.texts_of.Goals as goal

pub returns-in_default : goal.returns-in_default
returns-in_default c = bad_text c.args.words.now c.loop-word.word-index c.word-item.result c.loop-word-test.true c.word-item.is (search rules)

pub loop-word-preserved : goal.loop-word-preserved
loop-word-preserved c =
    next_text c.args.words.now c.loop-word.word-index c.word-item.result c.loop-word.list.items c.push.new.self.items c.in-Some.text (search rules) c.loop-word-test.true c.word-item.is (search rules) c.loop-word.invariant
