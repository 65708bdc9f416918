use Rattle.std.proofs.Common.{rules}
use Rattle.rehearsal.specs.Between.{states}
use Rattle.pcg_serve.proofs.Outcomes.{made_others, made_outcome, rehearsed_others, rehearsed_outcome, trial_others, trial_outcome}
use Rattle.pcg_serve.proofs.calls.do_job.Goals as goal

pub returns-in-Rehearse-clause-outcome : goal.returns-in-Rehearse-clause-outcome
returns-in-Rehearse-clause-outcome g c =
    rehearsed_outcome c.args.job.now c.in-Rehearse.job (states g.P.Place.state c.args.place.now c.run_rehearse.new.place)
    (states g.K.Sink.state c.args.out.now c.run_rehearse.new.out) c.run_rehearse.result (search rules) c.run_rehearse.ensures.outcome

pub returns-in-Rehearse-clause-others : goal.returns-in-Rehearse-clause-others
returns-in-Rehearse-clause-others g c = rehearsed_others c.args.job.now c.in-Rehearse.job (states g.P.Place.state c.args.place.now c.run_rehearse.new.place) (search rules) c.run_rehearse.ensures.others

pub returns-in-Make-clause-outcome : goal.returns-in-Make-clause-outcome
returns-in-Make-clause-outcome g c =
    made_outcome c.args.job.now c.in-Make.job (states g.P.Place.state c.args.place.now c.run_make.new.place)
    (states g.K.Sink.state c.args.out.now c.run_make.new.out) c.run_make.result (search rules) c.run_make.ensures.reads c.run_make.ensures.outcome

pub returns-in-Make-clause-others : goal.returns-in-Make-clause-others
returns-in-Make-clause-others g c = made_others c.args.job.now c.in-Make.job (states g.P.Place.state c.args.place.now c.run_make.new.place) (search rules) c.run_make.ensures.others

pub returns-in-Trial-clause-outcome : goal.returns-in-Trial-clause-outcome
returns-in-Trial-clause-outcome g c =
    trial_outcome c.args.job.now c.in-Trial.job (g.P.Place.state c.args.place.now) (states g.K.Sink.state c.args.out.now c.run_trial.new.out)
    c.run_trial.result (search rules) c.run_trial.ensures.outcome

pub returns-in-Trial-clause-others : goal.returns-in-Trial-clause-others
returns-in-Trial-clause-others g c = trial_others c.args.job.now c.in-Trial.job (g.P.Place.state c.args.place.now) (search rules)
