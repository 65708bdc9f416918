use Rattle.std.proofs.Common.{◌≡◌, ◌<◌, ◌∷◌, length, sym, ◌∙◌}
use Rattle.schedules.specs.Words.{words_of}
use Rattle.schedules.proofs.WordLemmas.{none_there, split_there}
use Rattle.schedules.proofs.words.split_word.Goals as goal

pub returns-then-skipped-text-clause-none : goal.returns-then-skipped-text-clause-none
returns-then-skipped-text-clause-none c =
    sym c.blanks-skipped.ensures.same ∙ none_there c.args.text.now c.blanks-skipped.result c.if-skipped-text.true

both : (c : goal.After-split_at-2) → (words_of c.args.text.now ≡ c.split_at-2.result.0.now ∷ words_of c.split_at-2.result.1.now) × (length c.split_at-2.result.1.now < length c.args.text.now)
both c =
    split_there c.args.text.now c.split_at.result.1.now c.split_at-2.result.0.now c.split_at-2.result.1.now c.blanks-skipped.result c.word_end-end.result
    c.split_at.ensures.back c.if-skipped-text.false (c.blanks-skipped.ensures.first c.if-skipped-text.false) c.blanks-skipped.ensures.same
    c.word_end-end.ensures.within c.word_end-end.ensures.whole c.word_end-end.ensures.next c.split_at-2.ensures.front c.split_at-2.ensures.back

pub returns-clause-some : goal.returns-clause-some
returns-clause-some c = (both c).0

pub returns-clause-shorter : goal.returns-clause-shorter
returns-clause-shorter c = (both c).1
