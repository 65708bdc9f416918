use Rattle.std.proofs.Common.{◌+◌, ◌∷◌, ◌++◌, ◌∙◌, List, map, refl, sym, ap, subst, arith}
use Rattle.op_model.specs.Operations.{next_entry}
use Rattle.record_rows.specs.Readings.{Image}
use Rattle.record_rows.specs.Rows.{EdgeRow}
use Rattle.record_rows.specs.LogRows.{marks, new_edges, new_links, new_nodes, rows_of}
use Rattle.entry_rows.specs.declared.changes.EntryChange.{EntryChange}
use Rattle.entry_rows.specs.declared.items.EntryItem.{EntryItem}
use Rattle.entry_rows.specs.declared.lists.EntryHead.{EntryHead}
use Rattle.entry_rows.specs.Changes.{AreChanges}
use Rattle.entry_rows.specs.Listed.{IsHead}
use Rattle.entry_rows.specs.Retiring.{AreOnPaths}
use Rattle.entry_rows.specs.States.{AreItems}
use Rattle.entry_lists.specs.Parts.{IsBehind}
use Rattle.entry_lists.proofs.JoinFacts.{behind, changed_few, changed_is, edges_listed, entry_is, links_listed, made_few, nodes_listed}
use Rattle.entry_lists.proofs.drafting.lists_of.Goals as goal

pub entry_head-head-requires : goal.entry_head-head-requires
entry_head-head-requires g c = let r = c.requires.drafting in record { plan = (c.args.dataset.now, r.0, r.1, r.2.image, r.2.plan.0) }

pub list_edges-requires-clause-few : goal.list_edges-requires-clause-few
list_edges-requires-clause-few g c =
    let r = c.requires.drafting in
    changed_few c.args.dataset.now r.0 r.1 c.args.edit.now c.args.changed.now c.args.client c.args.line c.args.at c.args.nodes.now c.args.links.now c.args.retired.items _ r.2

pub list_edges-requires-clause-entry : goal.list_edges-requires-clause-entry
list_edges-requires-clause-entry g c =
    let r = c.requires.drafting in
    let e = next_entry c.args.dataset.now r.0 r.1 c.args.client c.args.line c.args.at c.args.edit.now in (
      c.args.dataset.now,
      r.0,
      r.1,
      e,
      subst (λ w. IsBehind c.args.dataset.now r.0 r.1 e (g.W.Words.words w)) (sym c.entry_head-head.ensures.same)
          (behind c.args.dataset.now r.0 r.1 c.args.edit.now c.args.changed.now c.args.client c.args.line c.args.at c.args.nodes.now c.args.links.now c.args.retired.items _ r.2),
      changed_is c.args.dataset.now r.0 r.1 c.args.edit.now c.args.changed.now c.args.client c.args.line c.args.at c.args.nodes.now c.args.links.now c.args.retired.items _ r.2,
    )

pub list_nodes-requires-clause-few : goal.list_nodes-requires-clause-few
list_nodes-requires-clause-few g c =
    let r = c.requires.drafting in
    let f = made_few c.args.dataset.now r.0 r.1 c.args.edit.now c.args.changed.now c.args.client c.args.line c.args.at c.args.nodes.now c.args.links.now c.args.retired.items _ r.2 in
    omega (arith, f)

pub list_nodes-requires-clause-entry : goal.list_nodes-requires-clause-entry
list_nodes-requires-clause-entry g c =
    let r = c.requires.drafting in
    let e = next_entry c.args.dataset.now r.0 r.1 c.args.client c.args.line c.args.at c.args.edit.now in (
      c.args.dataset.now,
      r.0,
      r.1,
      e,
      subst (λ w. IsBehind c.args.dataset.now r.0 r.1 e (g.W.Words.words w)) (sym (c.in_ok-edge_lists.ensures.same ∙ c.entry_head-head.ensures.same))
          (behind c.args.dataset.now r.0 r.1 c.args.edit.now c.args.changed.now c.args.client c.args.line c.args.at c.args.nodes.now c.args.links.now c.args.retired.items _ r.2),
      r.2.nodes_are,
    )

pub list_links-requires-clause-few : goal.list_links-requires-clause-few
list_links-requires-clause-few g c =
    let r = c.requires.drafting in
    let f = made_few c.args.dataset.now r.0 r.1 c.args.edit.now c.args.changed.now c.args.client c.args.line c.args.at c.args.nodes.now c.args.links.now c.args.retired.items _ r.2 in
    omega (arith, f)

pub list_links-requires-clause-entry : goal.list_links-requires-clause-entry
list_links-requires-clause-entry g c =
    let r = c.requires.drafting in
    let e = next_entry c.args.dataset.now r.0 r.1 c.args.client c.args.line c.args.at c.args.edit.now in (
      c.args.dataset.now,
      r.0,
      r.1,
      e,
      subst (λ w. IsBehind c.args.dataset.now r.0 r.1 e (g.W.Words.words w)) (sym (c.in_ok-node_lists.ensures.same ∙ (c.in_ok-edge_lists.ensures.same ∙ c.entry_head-head.ensures.same)))
          (behind c.args.dataset.now r.0 r.1 c.args.edit.now c.args.changed.now c.args.client c.args.line c.args.at c.args.nodes.now c.args.links.now c.args.retired.items _ r.2),
      r.2.nodes_are,
      r.2.links_are,
    )

pub list_changes-requires-clause-few : goal.list_changes-requires-clause-few
list_changes-requires-clause-few g c =
    let r = c.requires.drafting in
    changed_few c.args.dataset.now r.0 r.1 c.args.edit.now c.args.changed.now c.args.client c.args.line c.args.at c.args.nodes.now c.args.links.now c.args.retired.items _ r.2

pub list_changes-requires-clause-image : goal.list_changes-requires-clause-image
list_changes-requires-clause-image g c =
    let r = c.requires.drafting in (
      c.args.dataset.now,
      r.0,
      r.1,
      subst (λ w. Image c.args.dataset.now r.0 r.1 (g.W.Words.words w)) (sym (c.in_ok-link_lists.ensures.same ∙ (c.in_ok-node_lists.ensures.same ∙ (c.in_ok-edge_lists.ensures.same ∙ c.entry_head-head.ensures.same)))) r.2.image,
    )

pub returns-in_err-edge_lists-clause-same : goal.returns-in_err-edge_lists-clause-same
returns-in_err-edge_lists-clause-same g c = c.in_err-edge_lists.ensures.same ∙ c.entry_head-head.ensures.same

pub returns-in_err-node_lists-clause-same : goal.returns-in_err-node_lists-clause-same
returns-in_err-node_lists-clause-same g c = c.in_err-node_lists.ensures.same ∙ (c.in_ok-edge_lists.ensures.same ∙ c.entry_head-head.ensures.same)

pub returns-in_err-link_lists-clause-same : goal.returns-in_err-link_lists-clause-same
returns-in_err-link_lists-clause-same g c = c.in_err-link_lists.ensures.same ∙ (c.in_ok-node_lists.ensures.same ∙ (c.in_ok-edge_lists.ensures.same ∙ c.entry_head-head.ensures.same))

pub returns-in_err-items-clause-same : goal.returns-in_err-items-clause-same
returns-in_err-items-clause-same g c = c.in_ok-link_lists.ensures.same ∙ (c.in_ok-node_lists.ensures.same ∙ (c.in_ok-edge_lists.ensures.same ∙ c.entry_head-head.ensures.same))

pub returns-in_err-changes-clause-same : goal.returns-in_err-changes-clause-same
returns-in_err-changes-clause-same g c = c.in_err-changes.ensures.same ∙ (c.in_ok-link_lists.ensures.same ∙ (c.in_ok-node_lists.ensures.same ∙ (c.in_ok-edge_lists.ensures.same ∙ c.entry_head-head.ensures.same)))

pub returns-clause-same : goal.returns-clause-same
returns-clause-same g c = c.in_ok-changes.ensures.same ∙ (c.in_ok-link_lists.ensures.same ∙ (c.in_ok-node_lists.ensures.same ∙ (c.in_ok-edge_lists.ensures.same ∙ c.entry_head-head.ensures.same)))

pub returns-clause-listed : goal.returns-clause-listed
returns-clause-listed g c = λ b log i.
    let d = c.args.dataset.now in
    let e = next_entry d b log c.args.client c.args.line c.args.at c.args.edit.now in
    let l = c.joined.result in
    let now = behind d b log c.args.edit.now c.args.changed.now c.args.client c.args.line c.args.at c.args.nodes.now c.args.links.now c.args.retired.items _ i in
    let changed = changed_is d b log c.args.edit.now c.args.changed.now c.args.client c.args.line c.args.at c.args.nodes.now c.args.links.now c.args.retired.items _ i in
    let one = c.entry_head-head.ensures.same in
    let two = c.in_ok-edge_lists.ensures.same ∙ one in
    let three = c.in_ok-node_lists.ensures.same ∙ two in
    let four = c.in_ok-link_lists.ensures.same ∙ three in
    let f = entry_is d b log c.args.edit.now c.args.client c.args.line c.args.at e refl in
    let edges = edges_listed (rows_of d b log) l _ _ (new_edges d b log e) c.joined.ensures.edges.0 c.joined.ensures.edges.1
    (c.in_ok-edge_lists.ensures.listed d b log e (subst (λ w. IsBehind d b log e (g.W.Words.words w)) (sym one) now) changed refl) in
    let nodes = nodes_listed e.number (rows_of d b log) l _ _ (new_nodes d b (e ∷ log) e.number) c.joined.ensures.nodes.0 c.joined.ensures.nodes.1
    (c.in_ok-node_lists.ensures.listed d b log e (subst (λ w. IsBehind d b log e (g.W.Words.words w)) (sym two) now) i.nodes_are) in
    let links = links_listed e.number (rows_of d b log) l _ _ _ _ (new_nodes d b (e ∷ log) e.number) (new_links d b (e ∷ log) e.number) c.joined.ensures.kept.0 c.joined.ensures.kept.1 c.joined.ensures.kept.2 c.joined.ensures.links nodes
    (c.in_ok-link_lists.ensures.listed d b log e (subst (λ w. IsBehind d b log e (g.W.Words.words w)) (sym three) now) i.nodes_are i.links_are) in
    record {
      head = subst (IsHead e) (sym c.joined.ensures.head) (c.entry_head-head.ensures.head d b log e i.image f.0 f.1 f.2 f.3 f.4);
      before = ap (λ (h : EntryHead). h.before + 1) c.joined.ensures.head ∙ c.entry_head-head.ensures.before d b log i.image;
      edges = edges.0;
      edges_are = edges.1;
      nodes = nodes;
      links = links.0;
      links_are = links.1;
      items = subst (λ (xs : List EntryItem). AreItems e.number xs (marks e.number e.asked)) (sym c.joined.ensures.rest.0) (subst (λ a. AreItems e.number c.in_ok-items.items.items (marks e.number a)) (sym f.0) (c.in_ok-items.ensures e.number));
      changes = subst (λ (xs : List EntryChange). AreChanges (rows_of d b log ++ map (EdgeRow e.number) (new_edges d b log e)) xs) (sym c.joined.ensures.rest.1)
          (c.in_ok-changes.ensures.changes d b log e (subst (λ w. IsBehind d b log e (g.W.Words.words w)) (sym four) now) changed);
      changes_are = ap (map (λ (x : EntryChange). x.changed)) c.joined.ensures.rest.1 ∙ (c.in_ok-changes.ensures.pairs ∙ sym changed);
      retired = subst (AreOnPaths d b log e) (sym c.joined.ensures.rest.2) i.retired_are;
    }
