use Rattle.std.proofs.Common.{rules}
use Rattle.row_append.specs.Tails.{word_number}
use Rattle.row_append.proofs.Pushes.{node_stored}
use Rattle.row_append.proofs.pushing.push_node.Goals as goal

pub returns-clause-words : goal.returns-clause-words
returns-clause-words c rows n h e i l m a f g r =
    node_stored rows h c.args.w.now.words e c.next_place-place.result (c.next_place-place.ensures.is rows e) n c.args.node.id c.args.node.least c.args.node.made (word_number c.args.nodes)
    c.fill.new.w.words c.put_row.new.w.words (search rules) (search rules) i l m a f g r
