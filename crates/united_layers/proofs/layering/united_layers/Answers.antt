use Rattle.std.proofs.Common.{◌≡◌, ◌∙◌, true, length, sym, ap, subst}
use Rattle.graph_model.specs.Lists.{has}
use Rattle.op_model.specs.Operations.{ends}
use Rattle.op_model.specs.Valid.{IsAscending}
use Rattle.parent_rows.proofs.ChainWalks.{image_kept}
use Rattle.entry_parts.specs.Parts.{AreEndsAt}
use Rattle.united_layers.specs.Layering.{ArePlaced}
use Rattle.united_layers.proofs.Gathering.{placed_small}
use Rattle.united_layers.proofs.Layered.{list_ends, list_few, path_nodes, united_list}
use Rattle.united_layers.proofs.layering.united_layers.Goals as goal

pub joints-requires : goal.joints-requires
joints-requires g c =
    let r = c.requires.united in
    let d = c.args.dataset.now in
    record { nodes = (r.0, r.1, r.3, path_nodes d r.0 r.1 r.2 c.args.places.now r.4, λ u h. r.4.known u (subst (λ cs. has (ends cs) u ≡ true) (sym r.5) h)) }

pub placed-requires-clause-ascending : goal.placed-requires-clause-ascending
placed-requires-clause-ascending g c = subst IsAscending (sym c.as_slice-ids.ensures.value) c.in_ok-list.ensures.ascending

pub placed-requires-clause-size : goal.placed-requires-clause-size
placed-requires-clause-size g c =
    let r = c.requires.united in
    let d = c.args.dataset.now in
    let told = c.as_slice-found.ensures.value ∙ c.in_ok-read.ensures.are r.0 r.1 r.3 (path_nodes d r.0 r.1 r.2 c.args.places.now r.4) in
    let up = subst IsAscending (sym c.as_slice-ids.ensures.value) c.in_ok-list.ensures.ascending in
    list_few d r.0 r.2 _ c.args.places.now c.args.changed.now c.requires.active r.5 c.as_slice-ids.result.now up r.1 r.3 r.4 c.as_slice-found.result.now told
    (λ v. ap (λ xs. has xs v) c.as_slice-ids.ensures.value ∙ c.in_ok-list.ensures.same v)

pub placed-requires-clause-known : goal.placed-requires-clause-known
placed-requires-clause-known g c u h = ap (λ xs. has xs u) c.as_slice-ids.ensures.value ∙ (c.in_ok-list.ensures.same u ∙ h)

pub end_places-requires-clause-ascending : goal.end_places-requires-clause-ascending
end_places-requires-clause-ascending g c = subst IsAscending (sym c.as_slice-ids.ensures.value) c.in_ok-list.ensures.ascending

pub end_places-requires-clause-size : goal.end_places-requires-clause-size
end_places-requires-clause-size g c =
    let r = c.requires.united in
    let d = c.args.dataset.now in
    let told = c.as_slice-found.ensures.value ∙ c.in_ok-read.ensures.are r.0 r.1 r.3 (path_nodes d r.0 r.1 r.2 c.args.places.now r.4) in
    let up = subst IsAscending (sym c.as_slice-ids.ensures.value) c.in_ok-list.ensures.ascending in
    list_few d r.0 r.2 _ c.args.places.now c.args.changed.now c.requires.active r.5 c.as_slice-ids.result.now up r.1 r.3 r.4 c.as_slice-found.result.now told
    (λ v. ap (λ xs. has xs v) c.as_slice-ids.ensures.value ∙ c.in_ok-list.ensures.same v)

pub end_places-requires-clause-known : goal.end_places-requires-clause-known
end_places-requires-clause-known g c =
    let r = c.requires.united in
    let d = c.args.dataset.now in
    let told = c.as_slice-found.ensures.value ∙ c.in_ok-read.ensures.are r.0 r.1 r.3 (path_nodes d r.0 r.1 r.2 c.args.places.now r.4) in
    let up = subst IsAscending (sym c.as_slice-ids.ensures.value) c.in_ok-list.ensures.ascending in
    list_ends d r.0 r.2 _ c.args.places.now c.args.changed.now c.requires.active r.5 c.as_slice-ids.result.now up r.1 r.3 r.4 c.as_slice-found.result.now told
    (λ v. ap (λ xs. has xs v) c.as_slice-ids.ensures.value ∙ c.in_ok-list.ensures.same v)

pub layers_of-requires-clause-size : goal.layers_of-requires-clause-size
layers_of-requires-clause-size g c =
    let r = c.requires.united in
    let d = c.args.dataset.now in
    let told = c.as_slice-found.ensures.value ∙ c.in_ok-read.ensures.are r.0 r.1 r.3 (path_nodes d r.0 r.1 r.2 c.args.places.now r.4) in
    let up = subst IsAscending (sym c.as_slice-ids.ensures.value) c.in_ok-list.ensures.ascending in
    list_few d r.0 r.2 _ c.args.places.now c.args.changed.now c.requires.active r.5 c.as_slice-ids.result.now up r.1 r.3 r.4 c.as_slice-found.result.now told
    (λ v. ap (λ xs. has xs v) c.as_slice-ids.ensures.value ∙ c.in_ok-list.ensures.same v)

pub layers_of-requires-clause-placed : goal.layers_of-requires-clause-placed
layers_of-requires-clause-placed g c =
    subst (ArePlaced (length c.as_slice-ids.result.now)) (sym (c.deref-2.ensures.value ∙ c.in_ok-placed.ensures))
    (placed_small c.as_slice-ids.result.now c.as_slice-found.result.now (λ u h. ap (λ xs. has xs u) c.as_slice-ids.ensures.value ∙ (c.in_ok-list.ensures.same u ∙ h)))

pub layers_of-requires-clause-list : goal.layers_of-requires-clause-list
layers_of-requires-clause-list g c =
    let r = c.requires.united in
    let d = c.args.dataset.now in
    let told = c.as_slice-found.ensures.value ∙ c.in_ok-read.ensures.are r.0 r.1 r.3 (path_nodes d r.0 r.1 r.2 c.args.places.now r.4) in
    let up = subst IsAscending (sym c.as_slice-ids.ensures.value) c.in_ok-list.ensures.ascending in
    let at = subst (AreEndsAt c.as_slice-ids.result.now c.args.changed.now) (sym c.deref.ensures.value) c.in_ok-ends.ensures in (
      r.0,
      r.1,
      r.2,
      united_list d r.0 r.2 _ c.args.places.now c.args.changed.now c.requires.active r.5 c.as_slice-ids.result.now up r.1 (image_kept g.W.Words.words d r.0 r.1 c.in_ok-read.ensures.same r.3) r.4 c.as_slice-found.result.now told
          (λ v. ap (λ xs. has xs v) c.as_slice-ids.ensures.value ∙ c.in_ok-list.ensures.same v) c.deref.result.now at c.deref-2.result.now (c.deref-2.ensures.value ∙ c.in_ok-placed.ensures),
    )

pub returns-clause-layers : goal.returns-clause-layers
returns-clause-layers g c b log e i on q =
    let d = c.args.dataset.now in
    let told = c.as_slice-found.ensures.value ∙ c.in_ok-read.ensures.are b log i (path_nodes d b log e c.args.places.now on) in
    let up = subst IsAscending (sym c.as_slice-ids.ensures.value) c.in_ok-list.ensures.ascending in
    let at = subst (AreEndsAt c.as_slice-ids.result.now c.args.changed.now) (sym c.deref.ensures.value) c.in_ok-ends.ensures in
    c.in_ok-layers.ensures.layers b log e
    (united_list d b e _ c.args.places.now c.args.changed.now c.requires.active q c.as_slice-ids.result.now up log (image_kept g.W.Words.words d b log c.in_ok-read.ensures.same i) on c.as_slice-found.result.now told
    (λ v. ap (λ xs. has xs v) c.as_slice-ids.ensures.value ∙ c.in_ok-list.ensures.same v) c.deref.result.now at c.deref-2.result.now (c.deref-2.ensures.value ∙ c.in_ok-placed.ensures))
