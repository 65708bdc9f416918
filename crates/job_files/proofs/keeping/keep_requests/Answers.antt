use Rattle.std.proofs.Common.{◌≡◌, length, true, refl, rules}
use Rattle.std.specs.Vec.Iter.{into_iter_items}
use Rattle.std.proofs.lemmas.Option.{slice_get_read}
use Rattle.job_files.specs.Places.{KeepsIn}
use Rattle.job_files.proofs.Counting.{all_at, all_then}
use Rattle.job_files.proofs.Steps.{kept_next, kept_none, kept_within, of_source}
use Rattle.job_files.proofs.keeping.keep_requests.Goals as goal

pub loop-source-init : goal.loop-source-init
loop-source-init g c = (
  kept_none KeepsIn (of_source g.P.In.Source.left g.P.In.Source.faults) c.args.names.now c.args.sources.items (into_iter_items c.into_iter-source-iterator.result) (g.P.Place.state c.args.place.now) c.into_iter-source-iterator.ensures.into_iter_gives.0,
  c.requires.opened,
  λ n o. o,
)

pub bounds-names-at : goal.bounds-names-at
bounds-names-at g c =
    let within = kept_within KeepsIn (of_source g.P.In.Source.left g.P.In.Source.faults) c.args.names.now c.args.sources.items c.loop-source.yielded (into_iter_items c.loop-source.source-iterator) c.loop-source.at (g.P.Place.state c.args.place.now) (g.P.Place.state c.loop-source.place) c.in-Some.source (into_iter_items c.next.new.self)
    c.loop-source.invariant.0 c.in-Some.ensures.steps.0 c.requires.enough in
    within

pub offset_bounds-names-at : goal.offset_bounds-names-at
offset_bounds-names-at g c =
    let within = kept_within KeepsIn (of_source g.P.In.Source.left g.P.In.Source.faults) c.args.names.now c.args.sources.items c.loop-source.yielded (into_iter_items c.loop-source.source-iterator) c.loop-source.at (g.P.Place.state c.args.place.now) (g.P.Place.state c.loop-source.place) c.in-Some.source (into_iter_items c.next.new.self)
    c.loop-source.invariant.0 c.in-Some.ensures.steps.0 c.requires.enough in
    search rules

pub overflow_add-at : goal.overflow_add-at
overflow_add-at g c =
    let within = kept_within KeepsIn (of_source g.P.In.Source.left g.P.In.Source.faults) c.args.names.now c.args.sources.items c.loop-source.yielded (into_iter_items c.loop-source.source-iterator) c.loop-source.at (g.P.Place.state c.args.place.now) (g.P.Place.state c.loop-source.place) c.in-Some.source (into_iter_items c.next.new.self)
    c.loop-source.invariant.0 c.in-Some.ensures.steps.0 c.requires.enough in
    search rules

pub keep_request-requires-clause-opened : goal.keep_request-requires-clause-opened
keep_request-requires-clause-opened g c =
    let within = kept_within KeepsIn (of_source g.P.In.Source.left g.P.In.Source.faults) c.args.names.now c.args.sources.items c.loop-source.yielded (into_iter_items c.loop-source.source-iterator) c.loop-source.at (g.P.Place.state c.args.place.now) (g.P.Place.state c.loop-source.place) c.in-Some.source (into_iter_items c.next.new.self)
    c.loop-source.invariant.0 c.in-Some.ensures.steps.0 c.requires.enough in
    let there = slice_get_read c.args.names.now (length c.args.names.now) c.loop-source.at c.index-names-at.result refl within c.index-names-at.is in
    λ _ _. all_at (λ n. (g.P.Place.state c.loop-source.place).opened_in n ≡ true) c.args.names.now c.loop-source.at c.index-names-at.result c.loop-source.invariant.1 there

pub loop-source-preserved : goal.loop-source-preserved
loop-source-preserved g c =
    let names = c.args.names.now in
    let within = kept_within KeepsIn (of_source g.P.In.Source.left g.P.In.Source.faults) c.args.names.now c.args.sources.items c.loop-source.yielded (into_iter_items c.loop-source.source-iterator) c.loop-source.at (g.P.Place.state c.args.place.now) (g.P.Place.state c.loop-source.place) c.in-Some.source (into_iter_items c.next.new.self)
    c.loop-source.invariant.0 c.in-Some.ensures.steps.0 c.requires.enough in
    let there = slice_get_read c.args.names.now (length c.args.names.now) c.loop-source.at c.index-names-at.result refl within c.index-names-at.is in (
      kept_next KeepsIn (of_source g.P.In.Source.left g.P.In.Source.faults) names c.args.sources.items c.loop-source.yielded (into_iter_items c.loop-source.source-iterator) c.loop-source.at (g.P.Place.state c.args.place.now) (g.P.Place.state c.loop-source.place) (g.P.Place.state c.keep_request.new.place) c.in-Some.source (into_iter_items c.next.new.self) c.index-names-at.result
          c.loop-source.invariant.0 c.in-Some.ensures.steps.0 there c.keep_request.ensures.step,
      all_then (λ n. (g.P.Place.state c.loop-source.place).opened_in n ≡ true) (λ n. (g.P.Place.state c.keep_request.new.place).opened_in n ≡ true) c.keep_request.ensures.stays_in names c.loop-source.invariant.1,
      λ n o. c.keep_request.ensures.stays_out n (c.loop-source.invariant.2 n o),
    )
