use Rattle.std.proofs.Common.{◌≡◌, length, true, refl, arith, rules, vec_len}
use Rattle.std.specs.Vec.Iter.{into_iter_items}
use Rattle.std.proofs.lemmas.Option.{slice_get_read}
use Rattle.job_files.proofs.Counting.{all_at, all_then}
use Rattle.job_files.proofs.ReadLines.{all_between, read_next, read_none, read_within}
use Rattle.job_files.proofs.reading.read_each.Goals as goal

pub loop-source-init : goal.loop-source-init
loop-source-init g c = (
  read_none g.P.In.Source.left c.args.names.now c.args.sources.items (into_iter_items c.into_iter-source-iterator.result) c.args.read.now.items (g.P.Place.state c.args.place.now) c.into_iter-source-iterator.ensures.into_iter_gives.0 c.requires.none,
  c.requires.room,
  c.requires.opened,
  λ n o. o,
)

pub bounds-names-at : goal.bounds-names-at
bounds-names-at g c =
    let within = read_within g.P.In.Source.left c.args.names.now c.args.sources.items c.loop-source.yielded (into_iter_items c.loop-source.source-iterator) c.loop-source.at c.loop-source.whole c.loop-source.read.items (g.P.Place.state c.args.place.now) (g.P.Place.state c.loop-source.place)
    c.in-Some.source (into_iter_items c.next.new.self) c.loop-source.invariant.0 c.in-Some.ensures.steps.0 c.requires.each in
    within

pub offset_bounds-names-at : goal.offset_bounds-names-at
offset_bounds-names-at g c =
    let within = read_within g.P.In.Source.left c.args.names.now c.args.sources.items c.loop-source.yielded (into_iter_items c.loop-source.source-iterator) c.loop-source.at c.loop-source.whole c.loop-source.read.items (g.P.Place.state c.args.place.now) (g.P.Place.state c.loop-source.place)
    c.in-Some.source (into_iter_items c.next.new.self) c.loop-source.invariant.0 c.in-Some.ensures.steps.0 c.requires.each in
    search rules

pub overflow_add-at : goal.overflow_add-at
overflow_add-at g c =
    let within = read_within g.P.In.Source.left c.args.names.now c.args.sources.items c.loop-source.yielded (into_iter_items c.loop-source.source-iterator) c.loop-source.at c.loop-source.whole c.loop-source.read.items (g.P.Place.state c.args.place.now) (g.P.Place.state c.loop-source.place)
    c.in-Some.source (into_iter_items c.next.new.self) c.loop-source.invariant.0 c.in-Some.ensures.steps.0 c.requires.each in
    search rules

pub read_next-whole-requires-clause-opened : goal.read_next-whole-requires-clause-opened
read_next-whole-requires-clause-opened g c =
    let within = read_within g.P.In.Source.left c.args.names.now c.args.sources.items c.loop-source.yielded (into_iter_items c.loop-source.source-iterator) c.loop-source.at c.loop-source.whole c.loop-source.read.items (g.P.Place.state c.args.place.now) (g.P.Place.state c.loop-source.place)
    c.in-Some.source (into_iter_items c.next.new.self) c.loop-source.invariant.0 c.in-Some.ensures.steps.0 c.requires.each in
    let there = slice_get_read c.args.names.now (length c.args.names.now) c.loop-source.at c.index-names-at.result refl within c.index-names-at.is in
    λ _ _. all_at (λ n. (g.P.Place.state c.loop-source.place).opened_in n ≡ true) c.args.names.now c.loop-source.at c.index-names-at.result c.loop-source.invariant.2 there

pub read_next-whole-requires-clause-fresh : goal.read_next-whole-requires-clause-fresh
read_next-whole-requires-clause-fresh g c = λ _ _. all_between (λ s. g.P.In.Source.faults s ≡ 0) c.args.sources.items c.loop-source.yielded (into_iter_items c.loop-source.source-iterator) c.in-Some.source (into_iter_items c.next.new.self)
    c.loop-source.invariant.0.parts c.in-Some.ensures.steps.0 c.requires.fresh

pub read_next-whole-requires-clause-room : goal.read_next-whole-requires-clause-room
read_next-whole-requires-clause-room g c =
    let within = read_within g.P.In.Source.left c.args.names.now c.args.sources.items c.loop-source.yielded (into_iter_items c.loop-source.source-iterator) c.loop-source.at c.loop-source.whole c.loop-source.read.items (g.P.Place.state c.args.place.now) (g.P.Place.state c.loop-source.place)
    c.in-Some.source (into_iter_items c.next.new.self) c.loop-source.invariant.0 c.in-Some.ensures.steps.0 c.requires.each in
    let fits = c.loop-source.invariant.1 in
    let less = c.loop-source.invariant.0.room in
    let count : vec_len c.loop-source.read ≡ length c.loop-source.read.items = search rules in
    λ _ _. omega (arith, within, fits, less, count)

pub loop-source-preserved : goal.loop-source-preserved
loop-source-preserved g c =
    let names = c.args.names.now in
    let within = read_within g.P.In.Source.left c.args.names.now c.args.sources.items c.loop-source.yielded (into_iter_items c.loop-source.source-iterator) c.loop-source.at c.loop-source.whole c.loop-source.read.items (g.P.Place.state c.args.place.now) (g.P.Place.state c.loop-source.place)
    c.in-Some.source (into_iter_items c.next.new.self) c.loop-source.invariant.0 c.in-Some.ensures.steps.0 c.requires.each in
    let there = slice_get_read c.args.names.now (length c.args.names.now) c.loop-source.at c.index-names-at.result refl within c.index-names-at.is in
    let e = c.read_next-whole.ensures in
    let room = c.loop-source.invariant.1 in
    let grown = e.capacity in (
      read_next g.P.In.Source.left names c.args.sources.items c.loop-source.yielded (into_iter_items c.loop-source.source-iterator) c.loop-source.at c.loop-source.whole c.read_next-whole.result c.loop-source.read.items c.read_next-whole.new.read.items (g.P.Place.state c.args.place.now) (g.P.Place.state c.loop-source.place) (g.P.Place.state c.read_next-whole.new.place)
          c.in-Some.source (into_iter_items c.next.new.self) c.index-names-at.result c.loop-source.invariant.0 c.in-Some.ensures.steps.0 there e.reads,
      omega (arith, room, grown),
      all_then (λ n. (g.P.Place.state c.loop-source.place).opened_in n ≡ true) (λ n. (g.P.Place.state c.read_next-whole.new.place).opened_in n ≡ true) e.stays_in names c.loop-source.invariant.2,
      λ n o. e.stays_out n (c.loop-source.invariant.3 n o),
    )
