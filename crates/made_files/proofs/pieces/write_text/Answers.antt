use Rattle.made_files.proofs.Written.{front_put}
use Rattle.request_lines.proofs.Whole.{whole_err}
use Rattle.made_files.proofs.pieces.write_text.Goals as goal

pub returns-in-Err-clause-front : goal.returns-in-Err-clause-front
returns-in-Err-clause-front g c = front_put (g.T.Pieces.text c.args.text.now) c.new-page.ensures.empty c.new-page.ensures.fresh c.in-Err.ensures.front

pub returns-in-Err-finish-clause-front : goal.returns-in-Err-finish-clause-front
returns-in-Err-finish-clause-front g c = whole_err c.new-page.ensures.empty c.new-page.ensures.fresh c.in-Ok.ensures.text c.finish.ensures.puts c.in-Err-finish.ensures.err
