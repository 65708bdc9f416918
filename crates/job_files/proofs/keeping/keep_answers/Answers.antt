use Rattle.std.proofs.Common.{◌≡◌, length, true, refl, rules}
use Rattle.std.specs.Vec.Iter.{into_iter_items}
use Rattle.std.proofs.lemmas.Option.{slice_get_read}
use Rattle.job_files.specs.Clients.{kept_of}
use Rattle.job_files.specs.Places.{KeepsOut}
use Rattle.job_files.proofs.Counting.{all_at, all_then}
use Rattle.job_files.proofs.Steps.{kept_next, kept_none, kept_within}
use Rattle.job_files.proofs.keeping.keep_answers.Goals as goal

pub loop-client-init : goal.loop-client-init
loop-client-init g c = (
  kept_none KeepsOut (kept_of g.P.Out.Sink.state) c.args.names.now c.args.answers.items (into_iter_items c.into_iter-client-iterator.result) (g.P.Place.state c.args.place.now) c.into_iter-client-iterator.ensures.into_iter_gives.0,
  c.requires.opened,
  λ n o. o,
)

pub bounds-names-at : goal.bounds-names-at
bounds-names-at g c =
    let within = kept_within KeepsOut (kept_of g.P.Out.Sink.state) c.args.names.now c.args.answers.items c.loop-client.yielded (into_iter_items c.loop-client.client-iterator) c.loop-client.at (g.P.Place.state c.args.place.now) (g.P.Place.state c.loop-client.place) c.in-Some.client (into_iter_items c.next.new.self)
    c.loop-client.invariant.0 c.in-Some.ensures.steps.0 c.requires.enough in
    within

pub offset_bounds-names-at : goal.offset_bounds-names-at
offset_bounds-names-at g c =
    let within = kept_within KeepsOut (kept_of g.P.Out.Sink.state) c.args.names.now c.args.answers.items c.loop-client.yielded (into_iter_items c.loop-client.client-iterator) c.loop-client.at (g.P.Place.state c.args.place.now) (g.P.Place.state c.loop-client.place) c.in-Some.client (into_iter_items c.next.new.self)
    c.loop-client.invariant.0 c.in-Some.ensures.steps.0 c.requires.enough in
    search rules

pub overflow_add-at : goal.overflow_add-at
overflow_add-at g c =
    let within = kept_within KeepsOut (kept_of g.P.Out.Sink.state) c.args.names.now c.args.answers.items c.loop-client.yielded (into_iter_items c.loop-client.client-iterator) c.loop-client.at (g.P.Place.state c.args.place.now) (g.P.Place.state c.loop-client.place) c.in-Some.client (into_iter_items c.next.new.self)
    c.loop-client.invariant.0 c.in-Some.ensures.steps.0 c.requires.enough in
    search rules

pub keep_answer-requires-clause-opened : goal.keep_answer-requires-clause-opened
keep_answer-requires-clause-opened g c =
    let within = kept_within KeepsOut (kept_of g.P.Out.Sink.state) c.args.names.now c.args.answers.items c.loop-client.yielded (into_iter_items c.loop-client.client-iterator) c.loop-client.at (g.P.Place.state c.args.place.now) (g.P.Place.state c.loop-client.place) c.in-Some.client (into_iter_items c.next.new.self)
    c.loop-client.invariant.0 c.in-Some.ensures.steps.0 c.requires.enough in
    let there = slice_get_read c.args.names.now (length c.args.names.now) c.loop-client.at c.index-names-at.result refl within c.index-names-at.is in
    λ _ _. all_at (λ n. (g.P.Place.state c.loop-client.place).opened_out n ≡ true) c.args.names.now c.loop-client.at c.index-names-at.result c.loop-client.invariant.1 there

pub loop-client-preserved : goal.loop-client-preserved
loop-client-preserved g c =
    let names = c.args.names.now in
    let within = kept_within KeepsOut (kept_of g.P.Out.Sink.state) c.args.names.now c.args.answers.items c.loop-client.yielded (into_iter_items c.loop-client.client-iterator) c.loop-client.at (g.P.Place.state c.args.place.now) (g.P.Place.state c.loop-client.place) c.in-Some.client (into_iter_items c.next.new.self)
    c.loop-client.invariant.0 c.in-Some.ensures.steps.0 c.requires.enough in
    let there = slice_get_read c.args.names.now (length c.args.names.now) c.loop-client.at c.index-names-at.result refl within c.index-names-at.is in (
      kept_next KeepsOut (kept_of g.P.Out.Sink.state) names c.args.answers.items c.loop-client.yielded (into_iter_items c.loop-client.client-iterator) c.loop-client.at (g.P.Place.state c.args.place.now) (g.P.Place.state c.loop-client.place) (g.P.Place.state c.keep_answer.new.place) c.in-Some.client (into_iter_items c.next.new.self) c.index-names-at.result
          c.loop-client.invariant.0 c.in-Some.ensures.steps.0 there c.keep_answer.ensures.step,
      all_then (λ n. (g.P.Place.state c.loop-client.place).opened_out n ≡ true) (λ n. (g.P.Place.state c.keep_answer.new.place).opened_out n ≡ true) c.keep_answer.ensures.stays_out names c.loop-client.invariant.1,
      λ n o. c.keep_answer.ensures.stays_in n (c.loop-client.invariant.2 n o),
    )
