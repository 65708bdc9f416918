use Rattle.std.proofs.Common.{rules}
use Rattle.row_append.specs.Tails.{word_number}
use Rattle.row_append.proofs.Pushes.{edge_stored}
use Rattle.row_append.proofs.pushing.push_edge.Goals as goal

pub returns-clause-words : goal.returns-clause-words
returns-clause-words c rows h e a b n =
    edge_stored rows h c.args.w.now.words e c.next_place-place.result (c.next_place-place.ensures.is rows e) c.args.edge (word_number c.args.lesser) (word_number c.args.greater)
    c.edge_word.result c.strength.result c.fill.new.w.words c.fill-2.new.w.words c.put_row.new.w.words (search rules) (search rules) (search rules) (search rules) (search rules) a b n
