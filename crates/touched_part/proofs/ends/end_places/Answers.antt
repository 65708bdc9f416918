use Rattle.std.proofs.Common.{◌≡◌, ◌∙◌, true, sym, subst}
use Rattle.graph_model.specs.Lists.{has}
use Rattle.touched_part.proofs.EndPlaces.{ends_at}
use Rattle.touched_part.proofs.ends.end_places.Goals as goal

pub places_of-requires-clause-known : goal.places_of-requires-clause-known
places_of-requires-clause-known c v h = c.requires.known v (sym (c.in_ok-found.ensures.same v) ∙ subst (λ xs. has xs v ≡ true) c.deref.ensures.value h)

pub returns : goal.returns
returns c =
    ends_at c.args.ids.now c.requires.ascending c.args.changed.now c.in_ok-found.found.items c.deref.result.now c.in_ok-places.places.items
    c.in_ok-found.ensures.ascending c.in_ok-found.ensures.same c.requires.known c.deref.ensures.value c.in_ok-places.ensures
