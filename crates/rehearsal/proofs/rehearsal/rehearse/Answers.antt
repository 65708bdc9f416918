use Rattle.pcg_base.specs.States.{PlaceState}
use Rattle.call_lines.specs.declared.stops.Stop.{Stop}
use Rattle.session_results.specs.declared.playing.SessionsDone.{SessionsDone}
use Rattle.rehearsal.specs.Played.{IsBefore}
use Rattle.rehearsal.proofs.Coming.{is_served, sessions_stop}
use Rattle.rehearsal.proofs.Whole.{if_err_then, if_ok_then}
use Rattle.rehearsal.proofs.rehearsal.rehearse.Goals as goal

pub returns-clause-stop : goal.returns-clause-stop
returns-clause-stop g c =
    let S : PlaceState = g.P.Place.state c.args.place.now in
    let T : PlaceState = g.P.Place.state c.read_input.new.place in
    let V : PlaceState = g.P.Place.state c.run_clients.new.place in
    let before : IsBefore S T = record { files = c.read_input.ensures.files; reads = c.in-Ok.ensures.still; writes = c.read_input.ensures.writes; counts = c.in-Ok.ensures.still_here } in
    if_err_then c.run_clients.result (λ (stop : Stop) h. sessions_stop c.args.job.now c.requires S T V c.in-Ok.input stop before c.in-Ok.ensures.made c.in-Ok.ensures.read h c.run_clients.ensures.elsewhere) c.run_clients.ensures.stop

pub returns-clause-served : goal.returns-clause-served
returns-clause-served g c =
    let S : PlaceState = g.P.Place.state c.args.place.now in
    let T : PlaceState = g.P.Place.state c.read_input.new.place in
    let V : PlaceState = g.P.Place.state c.run_clients.new.place in
    let before : IsBefore S T = record { files = c.read_input.ensures.files; reads = c.in-Ok.ensures.still; writes = c.read_input.ensures.writes; counts = c.in-Ok.ensures.still_here } in
    let made = c.in-Ok.ensures.made in
    if_ok_then c.run_clients.result (λ (done : SessionsDone) h. is_served c.args.job.now c.requires S T V c.in-Ok.input done before made c.in-Ok.ensures.read h c.run_clients.ensures.elsewhere)
    (c.run_clients.ensures.done S made.base before made.image)
