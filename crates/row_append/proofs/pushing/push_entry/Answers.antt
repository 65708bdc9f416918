use Rattle.std.proofs.Common.{rules}
use Rattle.row_append.proofs.Pushes.{entry_stored}
use Rattle.row_append.proofs.pushing.push_entry.Goals as goal

pub returns-clause-words : goal.returns-clause-words
returns-clause-words c rows x h e is n = entry_stored rows h c.args.w.now.words e x c.args.at c.put_row.new.w.words (search rules) is n
