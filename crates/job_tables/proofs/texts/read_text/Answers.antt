use Rattle.job_tables.proofs.Later.{all_still}
use Rattle.job_tables.proofs.texts.read_text.Goals as goal

pub returns-in-Ok-clause-still_here : goal.returns-in-Ok-clause-still_here
returns-in-Ok-clause-still_here g c =
    all_still (g.P.Place.state c.args.place.now).counts (g.P.Place.state c.read_name.new.place).counts c.as_str.result.now c.in-Ok.ensures.still_here c.read_name.ensures.only_here
