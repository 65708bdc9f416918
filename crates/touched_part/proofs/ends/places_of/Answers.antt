use Rattle.std.proofs.Common.{◌∙◌, map, ap}
use Rattle.std.proofs.lemmas.List.{take_all}
use Rattle.octree_layers.specs.Places.{place_of}
use Rattle.touched_paths.proofs.Climbs.{item_has}
use Rattle.touched_part.proofs.EndPlaces.{places_more}
use Rattle.touched_part.proofs.ends.places_of.Goals as goal

pub loop-place-init : goal.loop-place-init
loop-place-init c = c.new-list.ensures.items

pub place_of-at-requires-clause-known : goal.place_of-at-requires-clause-known
place_of-at-requires-clause-known c =
    c.requires.known c.index-found-place.result (item_has c.args.found.now c.loop-place.place c.index-found-place.result c.loop-place-test.true c.index-found-place.is)

pub loop-place-preserved : goal.loop-place-preserved
loop-place-preserved c =
    places_more c.args.ids.now c.args.found.now c.loop-place.list.items c.push.new.self.items c.loop-place.place c.index-found-place.result c.place_of-at.result
    c.loop-place-test.true c.index-found-place.is c.place_of-at.ensures.is c.loop-place.invariant c.in-Ok.ensures.items

pub returns : goal.returns
returns c = c.loop-place.invariant ∙ ap (map (place_of c.args.ids.now)) (take_all c.loop-place.place c.args.found.now c.loop-place-test.false)
