use Rattle.std.proofs.Common.{◌<◌, ◌^◌, ◌∙◌, length, map, sym, ap, subst, arith}
use Rattle.std.specs.List.{All}
use Rattle.op_model.specs.Operations.{ascending}
use Rattle.op_model.specs.Valid.{IsAscending}
use Rattle.record_rows.specs.LogRows.{rows_of}
use Rattle.record_rows.proofs.ImageFacts.{parent_image}
use Rattle.record_rows.proofs.ImageLemmas.{length-map}
use Rattle.row_append.specs.Ends.{VersionsOf}
use Rattle.base_rows.specs.States.{AreTails}
use Rattle.entry_parts.specs.declared.made.MadeNode.{MadeNode}
use Rattle.entry_lists.specs.Links.{AreHeld, IsBetween, base_link, kept_ids}
use Rattle.entry_lists.proofs.Ascents.{ascending_length, ascends}
use Rattle.entry_lists.proofs.KeptFacts.{all_told, are_held, kept_few, place_in}
use Rattle.entry_lists.proofs.LinkFacts.{between, links_placed, made_ids, new_ascends}
use Rattle.entry_lists.proofs.links.list_links.Goals as goal

pub places_of-requires-clause-kept : goal.places_of-requires-clause-kept
places_of-requires-clause-kept g c = c.deref.ensures.value ∙ (c.ascending_ids-kept.ensures ∙ ap ascending c.in_ok-all.ensures)

pub places_of-requires-clause-size : goal.places_of-requires-clause-size
places_of-requires-clause-size g c =
    let few = c.requires.few in
    let a = ascending_length (kept_ids c.args.links.now) in
    let l = kept_few c.args.links.now in
    subst (λ xs. length xs < 2 ^ 32) (sym (c.deref.ensures.value ∙ (c.ascending_ids-kept.ensures ∙ ap ascending c.in_ok-all.ensures))) (omega (arith, few, a, l))

pub link_ends-requires : goal.link_ends-requires
link_ends-requires g c =
    let r = c.requires.entry in
    let k = c.deref.ensures.value ∙ (c.ascending_ids-kept.ensures ∙ ap ascending c.in_ok-all.ensures) in
    record {
      held = (
        r.0,
        r.1,
        r.2,
        c.deref.result.now,
        parent_image r.0 r.1 r.2 _ r.4.image,
        subst (λ ps. AreHeld r.0 r.1 r.2 c.deref.result.now ps) (sym c.deref-2.ensures.value)
            (are_held r.0 r.1 r.2 (made_ids c.args.nodes.now) c.args.links.now r.6.placed c.deref.result.now c.in_ok-kept_places.kept_places.items k
            (c.in_ok-kept_places.ensures.told (place_in (rows_of r.0 r.1 r.2)) (all_told (rows_of r.0 r.1 r.2) (made_ids c.args.nodes.now) c.args.links.now r.6.placed))),
      );
    }

pub links_at-requires-clause-kept_ascending : goal.links_at-requires-clause-kept_ascending
links_at-requires-clause-kept_ascending g c = subst IsAscending (sym (c.deref-3.ensures.value ∙ c.ascending_ids-kept.ensures)) (ascends _)

pub links_at-requires-clause-new_ascending : goal.links_at-requires-clause-new_ascending
links_at-requires-clause-new_ascending g c =
    let r = c.requires.entry in
    subst IsAscending (sym (c.deref-4.ensures.value ∙ c.in_ok-new.ensures)) (new_ascends r.0 r.1 r.2 r.3 _ r.4 c.args.nodes.now c.args.links.now r.5 r.6)

pub links_at-requires-clause-size : goal.links_at-requires-clause-size
links_at-requires-clause-size g c =
    let few = c.requires.few in
    let a = ascending_length (kept_ids c.args.links.now) in
    let l = kept_few c.args.links.now in
    let p = ap length (c.deref-3.ensures.value ∙ (c.ascending_ids-kept.ensures ∙ ap ascending c.in_ok-all.ensures)) in
    let q = ap length (c.deref-4.ensures.value ∙ c.in_ok-new.ensures) ∙ length-map (λ (m : MadeNode). m.id) c.args.nodes.now in
    omega (arith, few, a, l, p, q)

pub links_at-requires-clause-between : goal.links_at-requires-clause-between
links_at-requires-clause-between g c =
    let r = c.requires.entry in
    let p = c.deref-3.ensures.value ∙ (c.ascending_ids-kept.ensures ∙ ap ascending c.in_ok-all.ensures) in
    let q = c.deref-4.ensures.value ∙ c.in_ok-new.ensures in
    subst (λ ks. All (IsBetween ks c.deref-4.result.now) c.args.links.now) (sym p)
    (subst (λ ns. All (IsBetween (ascending (kept_ids c.args.links.now)) ns) c.args.links.now) (sym q) (between r.0 r.1 r.2 r.3 c.args.nodes.now c.args.links.now r.5 r.6))

pub returns-clause-listed : goal.returns-clause-listed
returns-clause-listed g c = λ d b log e i are links.
    let k = c.ascending_ids-kept.ensures ∙ ap ascending c.in_ok-all.ensures in
    let p = c.deref-3.ensures.value ∙ k in
    let q = c.deref-4.ensures.value ∙ c.in_ok-new.ensures in
    let told = c.in_ok-kept_places.ensures.told (place_in (rows_of d b log)) (all_told (rows_of d b log) (made_ids c.args.nodes.now) c.args.links.now links.placed) in
    let held = are_held d b log (made_ids c.args.nodes.now) c.args.links.now links.placed c.deref.result.now c.in_ok-kept_places.kept_places.items (c.deref.ensures.value ∙ k) told in
    links_placed d b log e _ i c.args.nodes.now c.args.links.now are links c.ascending_ids-kept.result.items c.in_ok-kept_places.kept_places.items c.in_ok-kept_ends.kept_ends.items c.in_ok-placed.placed.items k
    (told ∙ ap (map (place_in (rows_of d b log))) c.deref.ensures.value)
    (c.in_ok-placed.ensures ∙ (ap (λ ks. map (base_link ks c.deref-4.result.now) c.args.links.now) p ∙ ap (λ ns. map (base_link (ascending (kept_ids c.args.links.now)) ns) c.args.links.now) q))
    (subst (λ vs. AreTails VersionsOf vs (rows_of d b log) c.in_ok-kept_ends.kept_ends.items) c.deref.ensures.value
    (c.in_ok-kept_ends.ensures.ends d b log c.deref.result.now (parent_image d b log _ i.image) (subst (λ ps. AreHeld d b log c.deref.result.now ps) (sym c.deref-2.ensures.value) held)))
    c.in_ok-kept_ends.ensures.pointers
