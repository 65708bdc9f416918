use Rattle.std.proofs.Common.{◌∙◌, ap, sym, subst}
use Rattle.op_model.specs.Operations.{ascending}
use Rattle.op_model.specs.Transcript.{log_at}
use Rattle.record_rows.specs.Readings.{ParentImage}
use Rattle.record_rows.proofs.ImageFacts.{parent_image}
use Rattle.change_laws.specs.Visits.{linked_by}
use Rattle.change_reader.proofs.EntryPlaces.{at_number}
use Rattle.change_reader.proofs.Linked.{all_linked, same_linked}
use Rattle.change_reader.proofs.steps.go_back.Goals as goal

pub add_all-requires-clause-made : goal.add_all-requires-clause-made
add_all-requires-clause-made g c =
    let r = c.requires.entry in
    let x = at_number r.0 r.1 r.2 c.args.n r.3.legal r.4 in
    let image = subst (λ w. ParentImage r.0 r.1 r.2 (g.W.Words.words w)) (sym c.linked_to.ensures.same) (parent_image r.0 r.1 r.2 _ r.3) in
    (r.0, r.1, r.2, c.args.n, all_linked r.0 r.1 r.2 _ c.args.n x.0 image x.1 c.as_slice.result.now c.as_slice-2.result.now (c.as_slice-2.ensures.value ∙ c.in_ok-linked.ensures.is r.0 r.1 r.2 x.0 r.3 x.1.found))

pub returns-clause-roots : goal.returns-clause-roots
returns-clause-roots g c d b log e i h =
    same_linked c.args.roots.now.items (linked_by d b e (log_at d b log c.args.n) c.args.roots.now.items) c.as_slice-2.result.now _
    (c.as_slice-2.ensures.value ∙ (c.in_ok-linked.ensures.is d b log e i h ∙ ap (λ rs. ascending (linked_by d b e (log_at d b log c.args.n) rs)) c.as_slice.ensures.value)) c.in_ok-add_all.ensures.roots

pub returns-clause-waits : goal.returns-clause-waits
returns-clause-waits g c d b log i l w =
    let x = at_number d b log c.args.n i.legal l in
    let image = subst (λ w. ParentImage d b log (g.W.Words.words w)) (sym c.linked_to.ensures.same) (parent_image d b log _ i) in
    c.in_ok-add_all.ensures.waits d b log c.args.n
    (all_linked d b log _ c.args.n x.0 image x.1 c.as_slice.result.now c.as_slice-2.result.now (c.as_slice-2.ensures.value ∙ c.in_ok-linked.ensures.is d b log x.0 i x.1.found)) w
