use Rattle.std.proofs.Common.{◌≡◌, ◌∙◌, length, map, subst, sym, ap, IsTrue, false, bytes_eq}
use Rattle.std.specs.List.{list_any}
use Rattle.pcg_base.specs.States.{PlaceState}
use Rattle.op_model.specs.declared.base.Dataset.{Dataset}
use Rattle.op_model.specs.Ingest.{ingested}
use Rattle.record_rows.specs.Readings.{Image}
use Rattle.pcg_words.specs.Job.{all_differ, answer_file, request_file}
use Rattle.job_files.specs.Clients.{kept_of}
use Rattle.job_files.specs.Kept.{KeepsOther}
use Rattle.call_lines.specs.declared.stops.Stop.TheVariants as stops
use Rattle.job_tables.specs.Inputs.{clock_time, dataset_of}
use Rattle.rehearsal.specs.Outcomes.{SessionsStop}
use Rattle.rehearsal.specs.Played.{ArePlayed}
use Rattle.rehearsal.proofs.Apart.{names_in, names_out}
use Rattle.rehearsal.proofs.Emptied.{fresh_each, unfailed_each}
use Rattle.rehearsal.proofs.Serving.{empty_count, opened_count}
use Rattle.rehearsal.proofs.Unplayed.{stop_others}
use Rattle.rehearsal.proofs.Whole.{back_later, back_left, back_others, numbers_within, room_of, unopened, whole_served, whole_unplayed}
use Rattle.rehearsal.proofs.Zips.{length_map}
use Rattle.rehearsal.proofs.clients.run_clients.Goals as goal

pub open_all-requires-clause-differ : goal.open_all-requires-clause-differ
open_all-requires-clause-differ g c κs within = subst (λ ns. IsTrue (all_differ ns)) (sym c.in-Ok.ensures.requests) (names_in c.args.job.now c.requires.job)

pub returns-in-Err-clause-others : goal.returns-in-Err-clause-others
returns-in-Err-clause-others g c =
    let S : PlaceState = g.P.Place.state c.args.place.now in
    let V : PlaceState = g.P.Place.state c.open_all.new.place in
    subst (λ ns. KeepsOther S.files ns V.files) c.in-Ok.ensures.answers
    (stop_others c.answers_are_emptied.ensures c.in-Ok.files.requests c.in-Ok.files.answers S V c.in-Err.stop c.in-Err.ensures.stop)

pub serve_all-requires-clause-room : goal.serve_all-requires-clause-room
serve_all-requires-clause-room g c κs within = room_of c.args.job.now c.args.input c.requires.input.0 c.requires.input.1

pub serve_all-requires-clause-sources : goal.serve_all-requires-clause-sources
serve_all-requires-clause-sources g c κs within =
    opened_count g.P.In.Source.left g.P.In.Source.faults (g.P.Place.state c.args.place.now).files c.in-Ok.files.requests c.in-Ok-open_all.opened.sources.items c.in-Ok-open_all.ensures.sources

pub serve_all-requires-clause-answers : goal.serve_all-requires-clause-answers
serve_all-requires-clause-answers g c κs within =
    let n = empty_count g.P.Out.Sink.state (g.P.Place.state c.args.place.now).files c.in-Ok.files.answers c.in-Ok-open_all.opened.answers.items c.in-Ok-open_all.ensures.answers in
    n ∙ ap length c.in-Ok.ensures.answers ∙ length_map answer_file c.args.job.now.stems ∙ sym (ap length c.in-Ok.ensures.requests ∙ length_map request_file c.args.job.now.stems)

pub serve_all-requires-clause-unfailed : goal.serve_all-requires-clause-unfailed
serve_all-requires-clause-unfailed g c κs within =
    unfailed_each g.P.In.Source.left g.P.In.Source.faults (g.P.Place.state c.args.place.now).files c.in-Ok.files.requests c.in-Ok-open_all.opened.sources.items c.in-Ok-open_all.ensures.sources

pub serve_all-requires-clause-fresh : goal.serve_all-requires-clause-fresh
serve_all-requires-clause-fresh g c κs within =
    fresh_each g.P.Out.Sink.state (g.P.Place.state c.args.place.now).files c.in-Ok.files.answers c.in-Ok-open_all.opened.answers.items c.in-Ok-open_all.ensures.answers

pub serve_all-requires-clause-numbers : goal.serve_all-requires-clause-numbers
serve_all-requires-clause-numbers g c κs within = numbers_within c.args.job.now c.args.input c.requires.input.0 c.in-Ok.files.requests c.in-Ok.ensures.requests c.requires.input.1

pub returns-in-Some-clause-done : goal.returns-in-Some-clause-done
returns-in-Some-clause-done g c = λ o b before image.
    let job = c.args.job.now in
    let S : PlaceState = g.P.Place.state c.args.place.now in
    let T : PlaceState = g.P.Place.state c.open_all.new.place in
    let V : PlaceState = g.P.Place.state c.serve_all.new.place in
    let rs = c.in-Ok.files.requests in
    let ns = c.in-Ok.files.answers in
    let rd = subst (λ ns. IsTrue (all_differ ns)) (sym c.in-Ok.ensures.requests) (names_in job c.requires.job) in
    let ad = subst (λ ns. IsTrue (all_differ ns)) (sym c.in-Ok.ensures.answers) (names_out job c.requires.job) in
    let d = c.requires.input.1.dataset in
    let now = subst (λ (x : Dataset). Image x b (ingested x b (clock_time job.clock 0)) c.args.input.words.words) (sym d) image in
    let p = c.in-Some.ensures.done b (clock_time job.clock 0) now in
    let q = subst (λ (x : Dataset). ArePlayed g.P.In.Source.left g.P.Out.Sink.state x b (clock_time job.clock 0) job.clock c.args.input.schedule.items rs ns c.in-Ok-open_all.opened.sources.items c.in-Ok-open_all.opened.answers.items T V c.in-Some.done) d p in
    whole_served c.sources_are_kept.ensures c.sinks_are_kept.ensures c.answers_are_emptied.ensures rs ns rd ad g.P.In.Source.left g.P.In.Source.faults g.P.Out.Sink.state (dataset_of job) b job.clock c.args.input.schedule.items job.stems
    c.in-Ok-open_all.opened.sources.items c.in-Ok-open_all.opened.answers.items o S T V c.in-Some.done c.in-Ok-open_all.ensures.open q before c.in-Ok.ensures.requests c.in-Ok.ensures.answers c.in-Ok-open_all.ensures.sources c.in-Ok-open_all.ensures.answers

pub returns-in-Some-clause-elsewhere : goal.returns-in-Some-clause-elsewhere
returns-in-Some-clause-elsewhere g c = λ n away.
    let job = c.args.job.now in
    let S : PlaceState = g.P.Place.state c.args.place.now in
    let T : PlaceState = g.P.Place.state c.open_all.new.place in
    let V : PlaceState = g.P.Place.state c.serve_all.new.place in
    let rs = c.in-Ok.files.requests in
    let ns = c.in-Ok.files.answers in
    let rd = subst (λ ns. IsTrue (all_differ ns)) (sym c.in-Ok.ensures.requests) (names_in job c.requires.job) in
    let ad = subst (λ ns. IsTrue (all_differ ns)) (sym c.in-Ok.ensures.answers) (names_out job c.requires.job) in
    let r = c.requires.input.1 in
    let now = subst (λ (x : Dataset). Image x r.base (ingested x r.base (clock_time job.clock 0)) c.args.input.words.words) (sym r.dataset) r.image in
    let p = c.in-Some.ensures.done r.base (clock_time job.clock 0) now in
    let outs = map (kept_of g.P.Out.Sink.state) p.ended in
    back_left c.sources_are_kept.ensures c.sinks_are_kept.ensures c.answers_are_emptied.ensures rs ns rd ad p.kept outs S T p.mid V c.in-Ok-open_all.ensures.open p.kept_in p.kept_out n (subst (λ ns. list_any (bytes_eq n) ns ≡ false) (sym c.in-Ok.ensures.requests) away)

pub returns-in-Some-clause-later : goal.returns-in-Some-clause-later
returns-in-Some-clause-later g c =
    let job = c.args.job.now in
    let S : PlaceState = g.P.Place.state c.args.place.now in
    let T : PlaceState = g.P.Place.state c.open_all.new.place in
    let V : PlaceState = g.P.Place.state c.serve_all.new.place in
    let rs = c.in-Ok.files.requests in
    let ns = c.in-Ok.files.answers in
    let rd = subst (λ ns. IsTrue (all_differ ns)) (sym c.in-Ok.ensures.requests) (names_in job c.requires.job) in
    let ad = subst (λ ns. IsTrue (all_differ ns)) (sym c.in-Ok.ensures.answers) (names_out job c.requires.job) in
    let r = c.requires.input.1 in
    let now = subst (λ (x : Dataset). Image x r.base (ingested x r.base (clock_time job.clock 0)) c.args.input.words.words) (sym r.dataset) r.image in
    let p = c.in-Some.ensures.done r.base (clock_time job.clock 0) now in
    let outs = map (kept_of g.P.Out.Sink.state) p.ended in
    back_later c.sources_are_kept.ensures c.sinks_are_kept.ensures c.answers_are_emptied.ensures rs ns rd ad p.kept outs S T p.mid V c.in-Ok-open_all.ensures.open p.kept_in p.kept_out c.open_all.ensures.later

pub returns-in-Some-clause-others : goal.returns-in-Some-clause-others
returns-in-Some-clause-others g c =
    let job = c.args.job.now in
    let S : PlaceState = g.P.Place.state c.args.place.now in
    let T : PlaceState = g.P.Place.state c.open_all.new.place in
    let V : PlaceState = g.P.Place.state c.serve_all.new.place in
    let rs = c.in-Ok.files.requests in
    let ns = c.in-Ok.files.answers in
    let rd = subst (λ ns. IsTrue (all_differ ns)) (sym c.in-Ok.ensures.requests) (names_in job c.requires.job) in
    let ad = subst (λ ns. IsTrue (all_differ ns)) (sym c.in-Ok.ensures.answers) (names_out job c.requires.job) in
    let r = c.requires.input.1 in
    let now = subst (λ (x : Dataset). Image x r.base (ingested x r.base (clock_time job.clock 0)) c.args.input.words.words) (sym r.dataset) r.image in
    let p = c.in-Some.ensures.done r.base (clock_time job.clock 0) now in
    let outs = map (kept_of g.P.Out.Sink.state) p.ended in
    subst (λ ns. KeepsOther S.files ns V.files) c.in-Ok.ensures.answers (back_others c.sources_are_kept.ensures c.sinks_are_kept.ensures c.answers_are_emptied.ensures rs ns rd ad p.kept outs S T p.mid V c.in-Ok-open_all.ensures.open p.kept_in p.kept_out)

pub returns-clause-stop : goal.returns-clause-stop
returns-clause-stop g c =
    let job = c.args.job.now in
    let S : PlaceState = g.P.Place.state c.args.place.now in
    let T : PlaceState = g.P.Place.state c.open_all.new.place in
    let V : PlaceState = g.P.Place.state c.serve_all.new.place in
    let rs = c.in-Ok.files.requests in
    let ns = c.in-Ok.files.answers in
    let rd = subst (λ ns. IsTrue (all_differ ns)) (sym c.in-Ok.ensures.requests) (names_in job c.requires.job) in
    let ad = subst (λ ns. IsTrue (all_differ ns)) (sym c.in-Ok.ensures.answers) (names_out job c.requires.job) in
    subst (λ ns. SessionsStop (map request_file job.stems) ns S V stops.NoMemory) c.in-Ok.ensures.answers (subst (λ rs. SessionsStop rs c.in-Ok.files.answers S V stops.NoMemory) c.in-Ok.ensures.requests
    (whole_unplayed c.sources_are_kept.ensures c.sinks_are_kept.ensures c.answers_are_emptied.ensures rs ns rd ad g.P.Out.Sink.state c.in-Ok-open_all.opened.answers.items S T V c.in-Ok-open_all.ensures.open c.in-None.ensures.none c.in-Ok-open_all.ensures.answers))

pub returns-clause-elsewhere : goal.returns-clause-elsewhere
returns-clause-elsewhere g c = λ n away.
    let job = c.args.job.now in
    let S : PlaceState = g.P.Place.state c.args.place.now in
    let T : PlaceState = g.P.Place.state c.open_all.new.place in
    let V : PlaceState = g.P.Place.state c.serve_all.new.place in
    let rs = c.in-Ok.files.requests in
    let ns = c.in-Ok.files.answers in
    let rd = subst (λ ns. IsTrue (all_differ ns)) (sym c.in-Ok.ensures.requests) (names_in job c.requires.job) in
    let ad = subst (λ ns. IsTrue (all_differ ns)) (sym c.in-Ok.ensures.answers) (names_out job c.requires.job) in
    let p = c.in-None.ensures.none in
    let outs = map (kept_of g.P.Out.Sink.state) c.in-Ok-open_all.opened.answers.items in
    back_left c.sources_are_kept.ensures c.sinks_are_kept.ensures c.answers_are_emptied.ensures rs ns rd ad p.kept outs S T p.mid V c.in-Ok-open_all.ensures.open p.kept_in p.kept_out n (subst (λ ns. list_any (bytes_eq n) ns ≡ false) (sym c.in-Ok.ensures.requests) away)

pub returns-clause-later : goal.returns-clause-later
returns-clause-later g c =
    let job = c.args.job.now in
    let S : PlaceState = g.P.Place.state c.args.place.now in
    let T : PlaceState = g.P.Place.state c.open_all.new.place in
    let V : PlaceState = g.P.Place.state c.serve_all.new.place in
    let rs = c.in-Ok.files.requests in
    let ns = c.in-Ok.files.answers in
    let rd = subst (λ ns. IsTrue (all_differ ns)) (sym c.in-Ok.ensures.requests) (names_in job c.requires.job) in
    let ad = subst (λ ns. IsTrue (all_differ ns)) (sym c.in-Ok.ensures.answers) (names_out job c.requires.job) in
    let p = c.in-None.ensures.none in
    let outs = map (kept_of g.P.Out.Sink.state) c.in-Ok-open_all.opened.answers.items in
    back_later c.sources_are_kept.ensures c.sinks_are_kept.ensures c.answers_are_emptied.ensures rs ns rd ad p.kept outs S T p.mid V c.in-Ok-open_all.ensures.open p.kept_in p.kept_out c.open_all.ensures.later

pub returns-clause-others : goal.returns-clause-others
returns-clause-others g c =
    let job = c.args.job.now in
    let S : PlaceState = g.P.Place.state c.args.place.now in
    let T : PlaceState = g.P.Place.state c.open_all.new.place in
    let V : PlaceState = g.P.Place.state c.serve_all.new.place in
    let rs = c.in-Ok.files.requests in
    let ns = c.in-Ok.files.answers in
    let rd = subst (λ ns. IsTrue (all_differ ns)) (sym c.in-Ok.ensures.requests) (names_in job c.requires.job) in
    let ad = subst (λ ns. IsTrue (all_differ ns)) (sym c.in-Ok.ensures.answers) (names_out job c.requires.job) in
    let p = c.in-None.ensures.none in
    let outs = map (kept_of g.P.Out.Sink.state) c.in-Ok-open_all.opened.answers.items in
    subst (λ ns. KeepsOther S.files ns V.files) c.in-Ok.ensures.answers (back_others c.sources_are_kept.ensures c.sinks_are_kept.ensures c.answers_are_emptied.ensures rs ns rd ad p.kept outs S T p.mid V c.in-Ok-open_all.ensures.open p.kept_in p.kept_out)

pub returns-in_default-clause-stop : goal.returns-in_default-clause-stop
returns-in_default-clause-stop g c =
    unopened (map request_file c.args.job.now.stems) (map answer_file c.args.job.now.stems) (g.P.Place.state c.args.place.now)

pub returns-in_default-clause-others : goal.returns-in_default-clause-others
returns-in_default-clause-others g c =
    (unopened (map request_file c.args.job.now.stems) (map answer_file c.args.job.now.stems) (g.P.Place.state c.args.place.now)).1

pub returns-in-Err-clause-stop : goal.returns-in-Err-clause-stop
returns-in-Err-clause-stop g c =
    let S : PlaceState = g.P.Place.state c.args.place.now in
    let V : PlaceState = g.P.Place.state c.open_all.new.place in
    subst (λ ns. SessionsStop (map request_file c.args.job.now.stems) ns S V c.in-Err.stop) c.in-Ok.ensures.answers (subst (λ rs. SessionsStop rs c.in-Ok.files.answers S V c.in-Err.stop) c.in-Ok.ensures.requests c.in-Err.ensures.stop)

pub returns-in-Err-clause-elsewhere : goal.returns-in-Err-clause-elsewhere
returns-in-Err-clause-elsewhere g c = λ n away. c.open_all.ensures.elsewhere n (subst (λ ns. list_any (bytes_eq n) ns ≡ false) (sym c.in-Ok.ensures.requests) away)

pub serve_all-requires-clause-image : goal.serve_all-requires-clause-image
serve_all-requires-clause-image g c κs within =
    let r = c.requires.input.1 in
    (r.base, clock_time c.args.job.now.clock 0, subst (λ (x : Dataset). Image x r.base (ingested x r.base (clock_time c.args.job.now.clock 0)) c.args.input.words.words) (sym r.dataset) r.image)

pub serve_all-requires-clause-names : goal.serve_all-requires-clause-names
serve_all-requires-clause-names g c κs within =
    ap length c.in-Ok.ensures.answers ∙ length_map answer_file c.args.job.now.stems ∙ sym (ap length c.in-Ok.ensures.requests ∙ length_map request_file c.args.job.now.stems)
