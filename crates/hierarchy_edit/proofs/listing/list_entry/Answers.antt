use Rattle.std.proofs.Common.{◌∙◌, sym, subst}
use Rattle.op_model.specs.Legal.{LegalPlan}
use Rattle.op_model.specs.Operations.{ends}
use Rattle.record_rows.proofs.ImageFacts.{parent_image}
use Rattle.edge_rows.proofs.ChainFacts.{image_kept}
use Rattle.entry_rows.specs.Retiring.{AreOnPaths}
use Rattle.touched_paths.specs.Climbing.{AreTops}
use Rattle.hierarchy_edit.proofs.EntryFacts.{is_listed, known_pairs, pairs_ascend, some_changed, some_entry, uniting_state}
use Rattle.hierarchy_edit.proofs.listing.list_entry.Goals as goal

pub old_paths-requires : goal.old_paths-requires
old_paths-requires g c =
    let r = c.requires.plan in
    let d = c.args.dataset.now in
    let p = subst (LegalPlan d r.0 r.1 c.args.plan.now.edit) (sym c.changed_of-changed.ensures) r.3 in
    record { known = (d, r.0, r.1, parent_image d r.0 r.1 _ r.2, known_pairs d r.0 r.1 c.args.plan.now.edit c.changed_of-changed.result.now _ r.2 p) }

pub made_layers-requires-clause-known : goal.made_layers-requires-clause-known
made_layers-requires-clause-known g c =
    let r = c.requires.plan in
    let d = c.args.dataset.now in
    let p = subst (LegalPlan d r.0 r.1 c.args.plan.now.edit) (sym c.changed_of-changed.ensures) r.3 in
    let k = known_pairs d r.0 r.1 c.args.plan.now.edit c.changed_of-changed.result.now _ r.2 p in
    let t = c.in_ok-paths.ensures.tops d r.0 r.1 (parent_image d r.0 r.1 _ r.2) k in
    (r.0, r.1, image_kept g.W.Words.words d r.0 r.1 c.in_ok-paths.ensures.same r.2, k, subst (AreTops d r.0 r.1 (ends c.changed_of-changed.result.now)) (sym c.as_slice-tops.ensures.value) t)

pub made_layers-requires-clause-paths : goal.made_layers-requires-clause-paths
made_layers-requires-clause-paths g c =
    let r = c.requires.plan in
    let d = c.args.dataset.now in
    let cs = c.changed_of-changed.result.now in
    let p = subst (LegalPlan d r.0 r.1 c.args.plan.now.edit) (sym c.changed_of-changed.ensures) r.3 in
    let k = known_pairs d r.0 r.1 c.args.plan.now.edit cs _ r.2 p in
    let e = some_entry cs in
    let on = c.in_ok-paths.ensures.places d r.0 r.1 e (parent_image d r.0 r.1 _ r.2) k (some_changed cs) in
    (r.0, r.1, e, image_kept g.W.Words.words d r.0 r.1 c.in_ok-paths.ensures.same r.2, subst (AreOnPaths d r.0 r.1 e) (sym c.as_slice-places.ensures.value) on, some_changed cs)

pub made_layers-requires-clause-active : goal.made_layers-requires-clause-active
made_layers-requires-clause-active g c =
    let r = c.requires.plan in
    let d = c.args.dataset.now in
    let p = subst (LegalPlan d r.0 r.1 c.args.plan.now.edit) (sym c.changed_of-changed.ensures) r.3 in
    uniting_state d r.0 r.1 c.args.plan.now.edit c.changed_of-changed.result.now r.2.legal p

pub made_layers-requires-clause-pairs : goal.made_layers-requires-clause-pairs
made_layers-requires-clause-pairs g c =
    let r = c.requires.plan in
    let d = c.args.dataset.now in
    let p = subst (LegalPlan d r.0 r.1 c.args.plan.now.edit) (sym c.changed_of-changed.ensures) r.3 in
    pairs_ascend d r.0 r.1 c.args.plan.now.edit c.changed_of-changed.result.now _ r.2 p

pub log_state-state-requires : goal.log_state-state-requires
log_state-state-requires g c =
    let r = c.requires.plan in
    let d = c.args.dataset.now in
    record { image = (r.0, r.1, image_kept g.W.Words.words d r.0 r.1 (c.in_ok-layers.ensures.same ∙ c.in_ok-paths.ensures.same) r.2) }

pub returns-clause-listed : goal.returns-clause-listed
returns-clause-listed g c b log i plan =
    let d = c.args.dataset.now in
    let edit = c.args.plan.now.edit in
    let cs = c.changed_of-changed.result.now in
    let p = subst (LegalPlan d b log edit) (sym c.changed_of-changed.ensures) plan in
    let k = known_pairs d b log edit cs _ i p in
    let pi = parent_image d b log _ i in
    let t = subst (AreTops d b log (ends cs)) (sym c.as_slice-tops.ensures.value) (c.in_ok-paths.ensures.tops d b log pi k) in
    let s = image_kept g.W.Words.words d b log (c.in_ok-layers.ensures.same ∙ c.in_ok-paths.ensures.same) i in
    is_listed d b log edit cs _ i p c.in_ok-layers.layers (λ e q. c.in_ok-layers.ensures.layers b log e (image_kept g.W.Words.words d b log c.in_ok-paths.ensures.same i) k t
    (subst (AreOnPaths d b log e) (sym c.as_slice-places.ensures.value) (c.in_ok-paths.ensures.places d b log e pi k q)) q) c.log_state-state.result c.in_ok-need.need
    c.in_ok-paths.paths c.refusal_of-spent.result (c.log_state-state.ensures.is b log s) c.in_ok-need.ensures c.refusal_of-spent.ensures (c.in_ok-paths.ensures.roots d b log pi k) (λ e q. c.in_ok-paths.ensures.places d b log e pi k q)
