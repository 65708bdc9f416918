use Rattle.std.proofs.Common.{◌≡◌, map, refl, subst, rules}
use Rattle.pcg_base.specs.States.{PlaceState}
use Rattle.job_files.specs.Places.{EachStep, KeepsIn, KeepsOut}
use Rattle.job_files.specs.Clients.{kept_of}
use Rattle.session_results.specs.declared.playing.SessionsDone.{SessionsDone}
use Rattle.session_results.specs.Ended.{AreDone}
use Rattle.rehearsal.specs.Played.{sources_of}
use Rattle.rehearsal.proofs.Serving.{are_lines}
use Rattle.rehearsal.proofs.Whole.{if_none_then, if_some_then, unplayed, unread}
use Rattle.rehearsal.proofs.clients.serve_all.Goals as goal

pub returns-clause-done : goal.returns-clause-done
returns-clause-done g c = λ b at image.
    let S : PlaceState = g.P.Place.state c.args.place.now in
    let T : PlaceState = g.P.Place.state c.read_requests.new.place in
    let U : PlaceState = g.P.Place.state c.keep_answers-2.new.place in
    let rs = c.args.files.now.requests in
    let ns = c.args.files.now.answers in
    let e : c.as_slice.result.now ≡ rs = search rules in
    let f : c.as_slice-3.result.now ≡ ns = search rules in
    let h : c.as_slice-2.result.now ≡ c.args.input.schedule.items = search rules in
    let read = c.in-Ok.ensures.read in
    let lefts = map g.P.In.Source.left c.args.opened.sources.items in
    let done = c.play_sessions-end.ensures.done b at (sources_of lefts read.0) image (are_lines lefts read.0 c.in-Ok.read.items read.1) in
    if_some_then c.play_sessions-end.result.done (λ (x : SessionsDone) d. record {
      kept = read.0;
      read = c.in-Ok.read.items;
      mid = T;
      are_read = read.1;
      kept_in = subst (λ names. EachStep KeepsIn names read.0 S T) e read.2;
      ended = c.play_sessions-end.result.answers.items;
      count = c.play_sessions-end.ensures.count;
      kept_out = subst (λ names. EachStep KeepsOut names (map (kept_of g.P.Out.Sink.state) c.play_sessions-end.result.answers.items) T U) f c.keep_answers-2.ensures.each;
      done_so = subst (λ s. AreDone g.P.Out.Sink.state c.args.input.dataset b at c.args.clock s (sources_of lefts read.0) c.args.opened.answers.items c.play_sessions-end.result.answers.items x) h d;
    }) done

pub returns-in-Err-clause-none : goal.returns-in-Err-clause-none
returns-in-Err-clause-none g c =
    let T : PlaceState = g.P.Place.state c.read_requests.new.place in
    let U : PlaceState = g.P.Place.state c.keep_answers.new.place in
    unplayed g.P.In.Source.left g.P.Out.Sink.state c.args.files.now.requests c.args.files.now.answers c.as_slice.result.now c.as_slice-in-Err.result.now c.args.opened.sources.items c.args.opened.answers.items c.args.opened.answers.items
    (g.P.Place.state c.args.place.now) T U (search rules) (search rules) refl c.in-Err.ensures.begun c.keep_answers.ensures.each

pub returns-clause-none : goal.returns-clause-none
returns-clause-none g c =
    let T : PlaceState = g.P.Place.state c.read_requests.new.place in
    let U : PlaceState = g.P.Place.state c.keep_answers-2.new.place in
    if_none_then c.play_sessions-end.result.done (λ same. unread g.P.In.Source.left g.P.Out.Sink.state c.args.files.now.requests c.args.files.now.answers c.as_slice.result.now c.as_slice-3.result.now c.args.opened.sources.items c.in-Ok.read.items c.args.opened.answers.items c.play_sessions-end.result.answers.items
    (g.P.Place.state c.args.place.now) T U (search rules) (search rules) same c.in-Ok.ensures.read c.keep_answers-2.ensures.each) c.play_sessions-end.ensures.none
