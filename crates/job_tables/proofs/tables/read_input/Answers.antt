use Rattle.job_tables.proofs.MadeLemmas.{read_so, stop_so}
use Rattle.job_tables.proofs.tables.read_input.Goals as goal

pub returns-clause-made : goal.returns-clause-made
returns-clause-made g c = read_so (g.P.Place.state c.args.place.now).files c.args.job.now c.in-Ok.texts c.make_input.result c.in-Ok.ensures.texts c.make_input.ensures.made

pub returns-clause-stop : goal.returns-clause-stop
returns-clause-stop g c =
    let at = g.P.Place.state in
    stop_so c.args.job.now (at c.args.place.now) (at c.read_texts.new.place) c.in-Ok.texts c.make_input.result c.in-Ok.ensures.texts c.in-Ok.ensures.read c.make_input.ensures.stop
