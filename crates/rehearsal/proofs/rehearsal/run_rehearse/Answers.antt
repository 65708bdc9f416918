use Rattle.std.proofs.Common.{◌≡◌, length, subst, rules}
use Rattle.pcg_base.specs.States.{PlaceState}
use Rattle.job_tables.specs.Inputs.{dataset_of}
use Rattle.session_results.specs.Results.{status_for}
use Rattle.rehearsal.specs.Between.{states}
use Rattle.rehearsal.specs.Outcomes.{Printed}
use Rattle.rehearsal.specs.Printing.{whole_text}
use Rattle.rehearsal.proofs.Coming.{came_out}
use Rattle.rehearsal.proofs.rehearsal.run_rehearse.Goals as goal

pub returns-in-Ok-clause-outcome : goal.returns-in-Ok-clause-outcome
returns-in-Ok-clause-outcome g c =
    let job = c.args.job.now in
    let S : PlaceState = g.P.Place.state c.args.place.now in
    let V : PlaceState = g.P.Place.state c.rehearse.new.place in
    let q = c.in-Ok.ensures.served in
    let done = c.in-Ok.done in
    let count : c.len.result ≡ length job.stems = search rules in
    came_out job S V done q (states g.K.Sink.state c.args.out.now c.finish.new.out) c.finish.result
    (subst (λ n. Printed (g.K.Sink.state c.args.out.now) (g.K.Sink.state c.finish.new.out)
    (whole_text (dataset_of job) q.base q.served.log n done.faults.items done.lines done.refused) (status_for done.faults.items) c.finish.result) count
    (c.finish.ensures.printed (dataset_of job) q.base q.served.log q.served.image))
