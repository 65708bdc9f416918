use Rattle.std.proofs.Common.{rules, arith, ◌≡◌, ◌++◌, length, sym, ◌∙◌, ap, subst}
use Rattle.record_rows.specs.Words.{words_of}
use Rattle.base_rows.specs.Lists.{AreNodes, IsOnce}
use Rattle.base_rows.specs.BaseRows.{all_rows, linked_rows, noded_rows}
use Rattle.base_rows.proofs.NodeSteps.{node_ids}
use Rattle.base_rows.proofs.LinkBegin.{before_nodes, linked_are}
use Rattle.base_rows.proofs.OwnerLists.{once_front}
use Rattle.base_rows.proofs.building.base_words.Goals as goal

pub put_to_nodes-requires-clause-ids : goal.put_to_nodes-requires-clause-ids
put_to_nodes-requires-clause-ids c = once_front c.args.ids.now _ c.requires.owners

pub put_links-requires-clause-noded : goal.put_links-requires-clause-noded
put_links-requires-clause-noded c =
    let d = c.args.dataset.now in
    let ids = c.args.ids.now in
    let lists = c.args.lists in
    let (ns, are) = c.requires.nodes in
    let n = before_nodes d ids lists.chunks.items lists.edges.items in
    let a : c.len.result ≡ length lists.chunks.items = search rules in
    let b : c.len-2.result ≡ length lists.edges.items = search rules in
    let same = subst (λ xs. AreNodes c.deref.result.now xs ns) (sym c.deref-2.ensures.value) (subst (λ xs. AreNodes xs lists.nodes.items ns) (sym c.deref.ensures.value) are) in
    let noded = c.in_ok-put_to_nodes.ensures.words ns same ∙ ap (λ xs. words_of (noded_rows d ids xs lists.edges.items ns)) c.deref.ensures.value in
    (d, lists.chunks.items, lists.edges.items, ns, omega (arith, a, b, n), noded, subst (λ xs. AreNodes lists.chunks.items xs ns) (sym c.deref-3.ensures.value) are)

pub returns-clause-words : goal.returns-clause-words
unfolding all_rows
returns-clause-words c ns e are is =
    let d = c.args.dataset.now in
    let ids = c.args.ids.now in
    let lists = c.args.lists in
    let n = before_nodes d ids lists.chunks.items lists.edges.items in
    let a : c.len.result ≡ length lists.chunks.items = search rules in
    let b : c.len-2.result ≡ length lists.edges.items = search rules in
    let same = subst (λ xs. AreNodes c.deref.result.now xs ns) (sym c.deref-2.ensures.value) (subst (λ xs. AreNodes xs lists.nodes.items ns) (sym c.deref.ensures.value) are) in
    let noded = c.in_ok-put_to_nodes.ensures.words ns same ∙ ap (λ xs. words_of (noded_rows d ids xs lists.edges.items ns)) c.deref.ensures.value in
    let whole = linked_are d ids lists.chunks.items lists.edges.items ns (subst (λ xs. IsOnce (ids ++ xs)) (node_ids lists.chunks.items lists.nodes.items ns are) c.requires.owners) lists.links.items in
    c.push_entry.ensures.words (linked_rows d ids lists.chunks.items lists.edges.items ns lists.links.items) e whole.0
    (c.in_ok-put_links.ensures.words d lists.chunks.items lists.edges.items ns (omega (arith, a, b, n)) noded
    (subst (λ xs. AreNodes lists.chunks.items xs ns) (sym c.deref-3.ensures.value) are)
    ∙ ap (λ xs. words_of (linked_rows d ids lists.chunks.items lists.edges.items ns xs)) c.deref-4.ensures.value) is whole.1
