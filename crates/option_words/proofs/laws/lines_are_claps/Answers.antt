use Rattle.option_words.proofs.Lines.{line_from}
use Rattle.option_words.proofs.laws.lines_are_claps.Goals as goal

pub returns : goal.returns
returns c = λ known with_stems words unnamed. line_from known with_stems words unnamed
