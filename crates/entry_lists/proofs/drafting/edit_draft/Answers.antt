use Rattle.std.proofs.Common.{◌∷◌, sym, subst, arith}
use Rattle.op_model.specs.Operations.{next_entry}
use Rattle.record_rows.specs.Readings.{Image}
use Rattle.record_rows.specs.LogRows.{marks, new_edges, new_links, new_nodes, rows_of}
use Rattle.entry_lists.proofs.JoinFacts.{lists_fit, lists_tell}
use Rattle.entry_lists.proofs.drafting.edit_draft.Goals as goal

pub count-tail-requires : goal.count-tail-requires
count-tail-requires g c = let r = c.requires.drafting in record { image = (c.args.dataset.now, r.0, r.1, subst (λ w. Image c.args.dataset.now r.0 r.1 (g.W.Words.words w)) (sym c.in_ok-lists.ensures.same) r.2.image) }

pub draft_entry-requires-clause-places : goal.draft_entry-requires-clause-places
draft_entry-requires-clause-places g c =
    let r = c.requires.drafting in
    let d = c.args.dataset.now in
    let t = c.count-tail.ensures.is d r.0 r.1 (subst (λ w. Image d r.0 r.1 (g.W.Words.words w)) (sym c.in_ok-lists.ensures.same) r.2.image) in
    let n = lists_fit d r.0 r.1 c.args.edit.now c.args.changed.now c.args.client c.args.line c.args.at c.args.nodes.now c.args.links.now c.args.retired.items _ r.2 c.in_ok-lists.lists (c.in_ok-lists.ensures.listed r.0 r.1 r.2) in
    omega (arith, t, n)

pub draft_entry-requires-clause-listed : goal.draft_entry-requires-clause-listed
draft_entry-requires-clause-listed g c =
    let r = c.requires.drafting in
    let d = c.args.dataset.now in
    let e = next_entry d r.0 r.1 c.args.client c.args.line c.args.at c.args.edit.now in (
      rows_of d r.0 r.1,
      e,
      new_edges d r.0 r.1 e,
      new_nodes d r.0 (e ∷ r.1) e.number,
      new_links d r.0 (e ∷ r.1) e.number,
      marks e.number e.asked,
      c.count-tail.ensures.is d r.0 r.1 (subst (λ w. Image d r.0 r.1 (g.W.Words.words w)) (sym c.in_ok-lists.ensures.same) r.2.image),
      lists_tell d r.0 r.1 c.args.edit.now c.args.changed.now c.args.client c.args.line c.args.at c.args.nodes.now c.args.links.now c.args.retired.items _ r.2 c.log_lists_tell.ensures c.in_ok-lists.lists (c.in_ok-lists.ensures.listed r.0 r.1 r.2),
    )

pub returns-clause-drafted : goal.returns-clause-drafted
returns-clause-drafted g c = λ b log i.
    let d = c.args.dataset.now in
    c.in_ok-draft.ensures.entry d b log (next_entry d b log c.args.client c.args.line c.args.at c.args.edit.now)
    (c.count-tail.ensures.is d b log (subst (λ w. Image d b log (g.W.Words.words w)) (sym c.in_ok-lists.ensures.same) i.image))
    (lists_tell d b log c.args.edit.now c.args.changed.now c.args.client c.args.line c.args.at c.args.nodes.now c.args.links.now c.args.retired.items _ i c.log_lists_tell.ensures c.in_ok-lists.lists (c.in_ok-lists.ensures.listed b log i))
