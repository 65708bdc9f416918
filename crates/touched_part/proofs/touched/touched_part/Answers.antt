use Rattle.std.proofs.Common.{◌≡◌, ◌<◌, ◌^◌, ◌++◌, ◌∙◌, true, length, sym, ap, subst}
use Rattle.std.specs.List.{filter}
use Rattle.graph_model.specs.Lists.{has}
use Rattle.op_model.specs.Labels.{edges}
use Rattle.op_model.specs.Operations.{ends}
use Rattle.op_model.specs.Valid.{IsAscending}
use Rattle.op_model.proofs.MadeLemmas.{ends_known}
use Rattle.record_rows.specs.Readings.{Image}
use Rattle.record_rows.proofs.ImageFacts.{parent_image}
use Rattle.node_reader.specs.Readable.{AreKnown}
use Rattle.entry_parts.specs.Parts.{AreEndsAt}
use Rattle.part_laws.specs.Touched.{gained_edges, is_among, kept_edges}
use Rattle.touched_part.proofs.Whole.{all_known, ends_in, few_touched, whole_part}
use Rattle.touched_part.proofs.touched.touched_part.Goals as goal

pub leaves_of-requires : goal.leaves_of-requires
leaves_of-requires g c =
    let r = c.requires.known in
    let d = c.args.dataset.now in
    record { tops = (d, r.0, r.1, ends c.args.changed.now, parent_image d r.0 r.1 _ r.2, (λ u h. ends_known r.0 c.args.changed.now u r.3 h), r.4) }

pub part_edges-requires-clause-image : goal.part_edges-requires-clause-image
part_edges-requires-clause-image g c =
    let r = c.requires.known in
    let d = c.args.dataset.now in
    let are = c.in_ok-ids.ensures.are d r.0 r.1 (ends c.args.changed.now) (parent_image d r.0 r.1 _ r.2) (λ u h. ends_known r.0 c.args.changed.now u r.3 h) r.4 in
    (r.0, r.1, subst (λ w. Image d r.0 r.1 (g.W.Words.words w)) (sym c.in_ok-ids.ensures.same) r.2, subst (AreKnown r.0) (sym c.as_slice-list.ensures.value) (all_known d r.0 r.1 (ends c.args.changed.now) c.in_ok-ids.ids.items are))

pub part_edges-requires-clause-ascending : goal.part_edges-requires-clause-ascending
part_edges-requires-clause-ascending g c = subst IsAscending (sym c.as_slice-list.ensures.value) c.in_ok-ids.ensures.ascending

pub end_places-requires-clause-ascending : goal.end_places-requires-clause-ascending
end_places-requires-clause-ascending g c = subst IsAscending (sym c.as_slice-list.ensures.value) c.in_ok-ids.ensures.ascending

pub end_places-requires-clause-size : goal.end_places-requires-clause-size
end_places-requires-clause-size g c =
    let r = c.requires.known in
    let d = c.args.dataset.now in
    let i = parent_image d r.0 r.1 _ r.2 in
    let are = c.in_ok-ids.ensures.are d r.0 r.1 (ends c.args.changed.now) i (λ u h. ends_known r.0 c.args.changed.now u r.3 h) r.4 in
    subst (λ xs. length xs < 2 ^ 32) (sym c.as_slice-list.ensures.value) (few_touched d r.0 r.1 _ i (ends c.args.changed.now) c.in_ok-ids.ids.items c.in_ok-ids.ensures.ascending are)

pub end_places-requires-clause-known : goal.end_places-requires-clause-known
end_places-requires-clause-known g c v h =
    let r = c.requires.known in
    let d = c.args.dataset.now in
    let are = c.in_ok-ids.ensures.are d r.0 r.1 (ends c.args.changed.now) (parent_image d r.0 r.1 _ r.2) (λ u k. ends_known r.0 c.args.changed.now u r.3 k) r.4 in
    subst (λ xs. has xs v ≡ true) (sym c.as_slice-list.ensures.value) (ends_in d r.0 r.1 c.args.changed.now c.in_ok-ids.ids.items r.3 are v h)

pub returns-clause-part : goal.returns-clause-part
returns-clause-part g c b log e i known tops q =
    let d = c.args.dataset.now in
    let p = parent_image d b log _ i in
    let are = c.in_ok-ids.ensures.are d b log (ends c.args.changed.now) p (λ u h. ends_known b c.args.changed.now u known h) tops in
    let s = c.as_slice-list.ensures.value in
    let all = c.in_ok-edges.ensures.are b log (subst (λ w. Image d b log (g.W.Words.words w)) (sym c.in_ok-ids.ensures.same) i) (subst (AreKnown b) (sym s) (all_known d b log (ends c.args.changed.now) c.in_ok-ids.ids.items are)) in
    whole_part d b log _ p e c.args.changed.now c.in_ok-ids.ids.items _ q known c.requires.pairs c.in_ok-ids.ensures.ascending are
    (all ∙ ap (λ xs. kept_edges d.merge_affinity c.args.changed.now (filter (is_among xs) (edges d b log)) ++ gained_edges d.merge_affinity c.args.changed.now) s)

pub returns-clause-ends : goal.returns-clause-ends
returns-clause-ends g c = subst (λ xs. AreEndsAt xs c.args.changed.now c.in_ok-ends.ends.items) c.as_slice-list.ensures.value c.in_ok-ends.ensures

pub returns-clause-size : goal.returns-clause-size
returns-clause-size g c =
    let r = c.requires.known in
    let d = c.args.dataset.now in
    let i = parent_image d r.0 r.1 _ r.2 in
    let are = c.in_ok-ids.ensures.are d r.0 r.1 (ends c.args.changed.now) i (λ u h. ends_known r.0 c.args.changed.now u r.3 h) r.4 in
    few_touched d r.0 r.1 _ i (ends c.args.changed.now) c.in_ok-ids.ids.items c.in_ok-ids.ensures.ascending are
