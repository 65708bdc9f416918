use Rattle.std.proofs.Common.{rules}
use Rattle.row_append.specs.Tails.{word_number}
use Rattle.row_append.proofs.Pushes.{link_stored}
use Rattle.row_append.proofs.pushing.push_link.Goals as goal

pub returns-clause-words : goal.returns-clause-words
returns-clause-words c rows l h e i n p q a b =
    link_stored rows h c.args.w.now.words e c.next_place-place.result (c.next_place-place.ensures.is rows e) l c.args.link.child c.args.link.child_at c.args.link.entry c.args.link.parent_at
    (word_number c.args.children) (word_number c.args.versions) c.fill.new.w.words c.fill-2.new.w.words c.put_row.new.w.words (search rules) (search rules) (search rules) i n p q a b
