use Rattle.job_tables.proofs.TextLemmas.{both_read, second_stop}
use Rattle.job_tables.proofs.texts.read_tables.Goals as goal

pub returns-in-Ok-read_text-clause-read : goal.returns-in-Ok-read_text-clause-read
returns-in-Ok-read_text-clause-read g c =
    let at = g.P.Place.state in
    both_read c.args.job.now (at c.args.place.now) (at c.read_text.new.place) (at c.read_text-2.new.place) c.requires c.read_text.ensures.files c.in-Ok.ensures.whole c.read_text-2.ensures.only_left
    c.in-Ok-read_text.ensures.whole

pub returns-in-Err-read_text-clause-stop : goal.returns-in-Err-read_text-clause-stop
returns-in-Err-read_text-clause-stop g c =
    let at = g.P.Place.state in
    second_stop c.args.job.now (at c.args.place.now) (at c.read_text.new.place) (at c.read_text-2.new.place) c.in-Err-read_text.stop c.requires c.read_text.ensures.files c.read_text.ensures.later
    c.in-Ok.ensures.whole c.read_text-2.ensures.only_left c.in-Err-read_text.ensures.stop
