use Rattle.std.proofs.Common.{rules}
use Rattle.row_append.proofs.Pushes.{chunk_stored}
use Rattle.row_append.proofs.pushing.push_chunk.Goals as goal

pub returns-clause-words : goal.returns-clause-words
returns-clause-words c rows h e a = chunk_stored rows h c.args.w.now.words e c.args.id c.put_row.new.w.words (search rules) a
