use Rattle.std.proofs.Common.{rules, arith, ◌≡◌, ◌∙◌, subst, ◌++◌, ◌∷◌, [], length, map}
use Rattle.record_rows.specs.Rows.{NodeRow, LinkRow, EdgeRow}
use Rattle.record_rows.specs.LogRows.{marks, new_edges, new_links, new_nodes, rows_of}
use Rattle.grown_rows.specs.Drafted.{IsDrafted}
use Rattle.grown_rows.proofs.FillLemmas.{headed_length, more_length}
use Rattle.entry_rows.proofs.Behind.{rest_begins, rows_made}
use Rattle.entry_rows.proofs.Phases.{edged, nodes_given, links_given, first_node, linked_so, log_made}
use Rattle.entry_rows.proofs.drafting.draft_entry.Goals as goal

pub add_edges-requires-clause-places : goal.add_edges-requires-clause-places
add_edges-requires-clause-places c =
    let (old, e, es, ns, ls, is, t, x) = c.requires.listed in
    let g = c.begin-growth.ensures old x.headed t in
    let a = headed_length old [] c.begin-growth.result g in
    let b = more_length old [] c.begin-growth.result g in
    let r = c.requires.places in
    omega (arith, t, a, b, r)

pub add_nodes-requires-clause-places : goal.add_nodes-requires-clause-places
add_nodes-requires-clause-places c =
    let (old, e, es, ns, ls, is, t, x) = c.requires.listed in
    let g = c.begin-growth.ensures old x.headed t in
    let a = headed_length old [] c.begin-growth.result g in
    let b = more_length old [] c.begin-growth.result g in
    let r = c.requires.places in
    let p = c.in_ok-add_edges.ensures.tail in
    let q = c.in_ok-add_edges.ensures.length in
    omega (arith, t, a, b, r, p, q)

pub add_nodes-requires-clause-listed : goal.add_nodes-requires-clause-listed
add_nodes-requires-clause-listed c =
    let (old, e, es, ns, ls, is, t, x) = c.requires.listed in
    let l = c.args.lists.now in
    let one = edged old e es ns ls is l x c.add_edges.new.growth (c.in_ok-add_edges.ensures.pushed old (c.begin-growth.ensures old x.headed t) x.edges) in
    (old, map (EdgeRow e.number) es, ns, one, nodes_given old e es ns ls is l x)

pub add_links-requires-clause-places : goal.add_links-requires-clause-places
add_links-requires-clause-places c =
    let (old, e, es, ns, ls, is, t, x) = c.requires.listed in
    let g = c.begin-growth.ensures old x.headed t in
    let a = headed_length old [] c.begin-growth.result g in
    let b = more_length old [] c.begin-growth.result g in
    let r = c.requires.places in
    let p = c.in_ok-add_edges.ensures.tail in
    let q = c.in_ok-add_edges.ensures.length in
    let p2 = c.in_ok-add_nodes.ensures.tail in
    let q2 = c.in_ok-add_nodes.ensures.length in
    omega (arith, t, a, b, r, p, q, p2, q2)

pub add_links-requires-clause-listed : goal.add_links-requires-clause-listed
add_links-requires-clause-listed c =
    let (old, e, es, ns, ls, is, t, x) = c.requires.listed in
    let l = c.args.lists.now in
    let n : c.len.result ≡ length l.edges.items = search rules in
    let one = edged old e es ns ls is l x c.add_edges.new.growth (c.in_ok-add_edges.ensures.pushed old (c.begin-growth.ensures old x.headed t) x.edges) in
    let two = c.in_ok-add_nodes.ensures.pushed old (map (EdgeRow e.number) es) ns one (nodes_given old e es ns ls is l x) in
    (old, map (EdgeRow e.number) es, ns, two, links_given old e es ns ls is l x, first_node old e es ns ls is l x c.args.tail c.len.result t n)

pub add_entry-requires-clause-places : goal.add_entry-requires-clause-places
add_entry-requires-clause-places c =
    let (old, e, es, ns, ls, is, t, x) = c.requires.listed in
    let g = c.begin-growth.ensures old x.headed t in
    let a = headed_length old [] c.begin-growth.result g in
    let b = more_length old [] c.begin-growth.result g in
    let r = c.requires.places in
    let p = c.in_ok-add_edges.ensures.tail in
    let q = c.in_ok-add_edges.ensures.length in
    let p2 = c.in_ok-add_nodes.ensures.tail in
    let q2 = c.in_ok-add_nodes.ensures.length in
    let p3 = c.in_ok-add_links.ensures.tail in
    let q3 = c.in_ok-add_links.ensures.length in
    omega (arith, t, a, b, r, p, q, p2, q2, p3, q3)

pub add_entry-requires-clause-listed : goal.add_entry-requires-clause-listed
add_entry-requires-clause-listed c =
    let (old, e, es, ns, ls, is, t, x) = c.requires.listed in
    let l = c.args.lists.now in
    let n : c.len.result ≡ length l.edges.items = search rules in
    let one = edged old e es ns ls is l x c.add_edges.new.growth (c.in_ok-add_edges.ensures.pushed old (c.begin-growth.ensures old x.headed t) x.edges) in
    let two = c.in_ok-add_nodes.ensures.pushed old (map (EdgeRow e.number) es) ns one (nodes_given old e es ns ls is l x) in
    let three = linked_so old e es ns ls is l x (map (EdgeRow e.number) es ++ map NodeRow ns) c.add_links.new.growth
    (c.in_ok-add_links.ensures.pushed old (map (EdgeRow e.number) es) ns two (links_given old e es ns ls is l x) (first_node old e es ns ls is l x c.args.tail c.len.result t n)) in
    (old, (map (EdgeRow e.number) es ++ map NodeRow ns) ++ map LinkRow ls, e, is, three, rest_begins old e es ns ls is l x)

pub draft_of-requires-clause-places : goal.draft_of-requires-clause-places
draft_of-requires-clause-places c =
    let (old, e, es, ns, ls, is, t, x) = c.requires.listed in
    let g = c.begin-growth.ensures old x.headed t in
    let a = headed_length old [] c.begin-growth.result g in
    let b = more_length old [] c.begin-growth.result g in
    let r = c.requires.places in
    let p = c.in_ok-add_edges.ensures.tail in
    let q = c.in_ok-add_edges.ensures.length in
    let p2 = c.in_ok-add_nodes.ensures.tail in
    let q2 = c.in_ok-add_nodes.ensures.length in
    let p3 = c.in_ok-add_links.ensures.tail in
    let q3 = c.in_ok-add_links.ensures.length in
    let p4 = c.in_ok-add_entry.ensures.tail in
    let q4 = c.in_ok-add_entry.ensures.length in
    omega (arith, t, a, b, r, p, q, p2, q2, p3, q3, p4, q4)

pub draft_of-requires-clause-growth : goal.draft_of-requires-clause-growth
draft_of-requires-clause-growth c =
    let (old, e, es, ns, ls, is, t, x) = c.requires.listed in
    let l = c.args.lists.now in
    let n : c.len.result ≡ length l.edges.items = search rules in
    let one = edged old e es ns ls is l x c.add_edges.new.growth (c.in_ok-add_edges.ensures.pushed old (c.begin-growth.ensures old x.headed t) x.edges) in
    let two = c.in_ok-add_nodes.ensures.pushed old (map (EdgeRow e.number) es) ns one (nodes_given old e es ns ls is l x) in
    let three = linked_so old e es ns ls is l x (map (EdgeRow e.number) es ++ map NodeRow ns) c.add_links.new.growth
    (c.in_ok-add_links.ensures.pushed old (map (EdgeRow e.number) es) ns two (links_given old e es ns ls is l x) (first_node old e es ns ls is l x c.args.tail c.len.result t n)) in
    (old, _, c.in_ok-add_entry.ensures.pushed old ((map (EdgeRow e.number) es ++ map NodeRow ns) ++ map LinkRow ls) e is three (rest_begins old e es ns ls is l x))

pub returns-clause-drafted : goal.returns-clause-drafted
returns-clause-drafted c old e es ns ls is t x =
    let l = c.args.lists.now in
    let n : c.len.result ≡ length l.edges.items = search rules in
    let one = edged old e es ns ls is l x c.add_edges.new.growth (c.in_ok-add_edges.ensures.pushed old (c.begin-growth.ensures old x.headed t) x.edges) in
    let two = c.in_ok-add_nodes.ensures.pushed old (map (EdgeRow e.number) es) ns one (nodes_given old e es ns ls is l x) in
    let three = linked_so old e es ns ls is l x (map (EdgeRow e.number) es ++ map NodeRow ns) c.add_links.new.growth
    (c.in_ok-add_links.ensures.pushed old (map (EdgeRow e.number) es) ns two (links_given old e es ns ls is l x) (first_node old e es ns ls is l x c.args.tail c.len.result t n)) in
    subst (λ rs. IsDrafted old rs c.in_ok-draft.draft) (rows_made old e es ns ls is)
    (c.in_ok-draft.ensures old _ (c.in_ok-add_entry.ensures.pushed old ((map (EdgeRow e.number) es ++ map NodeRow ns) ++ map LinkRow ls) e is three (rest_begins old e es ns ls is l x)))

pub returns-clause-entry : goal.returns-clause-entry
returns-clause-entry c d b log e t x =
    let old = rows_of d b log in
    let es = new_edges d b log e in
    let ns = new_nodes d b (e ∷ log) e.number in
    let ls = new_links d b (e ∷ log) e.number in
    let is = marks e.number e.asked in
    let l = c.args.lists.now in
    let n : c.len.result ≡ length l.edges.items = search rules in
    let one = edged old e es ns ls is l x c.add_edges.new.growth (c.in_ok-add_edges.ensures.pushed old (c.begin-growth.ensures old x.headed t) x.edges) in
    let two = c.in_ok-add_nodes.ensures.pushed old (map (EdgeRow e.number) es) ns one (nodes_given old e es ns ls is l x) in
    let three = linked_so old e es ns ls is l x (map (EdgeRow e.number) es ++ map NodeRow ns) c.add_links.new.growth
    (c.in_ok-add_links.ensures.pushed old (map (EdgeRow e.number) es) ns two (links_given old e es ns ls is l x) (first_node old e es ns ls is l x c.args.tail c.len.result t n)) in
    subst (λ rs. IsDrafted old rs c.in_ok-draft.draft) (rows_made old e es ns ls is ∙ log_made d b log e)
    (c.in_ok-draft.ensures old _ (c.in_ok-add_entry.ensures.pushed old ((map (EdgeRow e.number) es ++ map NodeRow ns) ++ map LinkRow ls) e is three (rest_begins old e es ns ls is l x)))
