use Rattle.pcg_words.specs.Words.{job_of}
use Rattle.rehearsal.specs.Between.{states}
use Rattle.pcg_serve.proofs.Outcomes.{job_complete, job_done, job_due, job_faultless, job_tells}
use Rattle.pcg_serve.proofs.calls.run.Goals as goal

pub returns-clause-done : goal.returns-clause-done
returns-clause-done g c =
    job_done (states g.P.Place.state c.args.place.now c.do_words.new.place)
    (states g.K.Sink.state c.args.out.now c.do_words.new.out) c.do_words.result (job_of c.args.words.now) c.do_words.ensures.outcome

pub returns-clause-faultless : goal.returns-clause-faultless
returns-clause-faultless g c =
    job_faultless (states g.P.Place.state c.args.place.now c.do_words.new.place)
    (states g.K.Sink.state c.args.out.now c.do_words.new.out) c.do_words.result (job_of c.args.words.now) c.do_words.ensures.outcome

pub returns-clause-tells : goal.returns-clause-tells
returns-clause-tells g c =
    job_tells (states g.P.Place.state c.args.place.now c.do_words.new.place)
    (states g.K.Sink.state c.args.out.now c.do_words.new.out) c.do_words.result (job_of c.args.words.now) c.do_words.ensures.outcome

pub returns-clause-due : goal.returns-clause-due
returns-clause-due g c =
    job_due (states g.P.Place.state c.args.place.now c.do_words.new.place)
    (states g.K.Sink.state c.args.out.now c.do_words.new.out) c.do_words.result (job_of c.args.words.now) c.do_words.ensures.outcome

pub returns-clause-complete : goal.returns-clause-complete
returns-clause-complete g c =
    job_complete (states g.P.Place.state c.args.place.now c.do_words.new.place)
    (states g.K.Sink.state c.args.out.now c.do_words.new.out) c.do_words.result (job_of c.args.words.now) c.do_words.ensures.outcome
