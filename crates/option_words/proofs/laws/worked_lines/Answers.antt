use Rattle.std.proofs.Common.{refl}
use Rattle.option_words.specs.Grammar.{fits, line_of, names_of, stems_of, uses_of, value_of}
use Rattle.option_words.proofs.laws.worked_lines.Goals as goal

pub returns : goal.returns
unfolding line_of uses_of fits names_of stems_of value_of
returns c = (refl, refl, refl)
