use Rattle.std.proofs.Common.{arith, ◌≡◌, ◌++◌, ◌∷◌, [], length, map, take, get_or, sym, ◌∙◌, ap, subst, append_assoc, append-nil}
use Rattle.record_rows.specs.Rows.{LinkRow}
use Rattle.record_rows.specs.Words.{words_of}
use Rattle.base_rows.specs.declared.lists.BaseLink.{BaseLink}
use Rattle.base_rows.specs.Lists.{IsOnce, IsWithin, link_of}
use Rattle.base_rows.specs.BaseRows.{linked_rows, noded_rows, ids_of}
use Rattle.base_rows.specs.States.{tails_from, IsNewLink, Linking}
use Rattle.base_rows.proofs.Passing.{get_or_any, map_more, take_whole}
use Rattle.base_rows.proofs.NodeSteps.{node_ids, length_ids}
use Rattle.base_rows.proofs.LinkBegin.{linking_begins}
use Rattle.base_rows.proofs.links.put_links.Goals as goal

pub loop-link-init : goal.loop-link-init
loop-link-init c = (
  λ d chunks edges ns f w are.
      let ids = c.args.ids.now in
      let rows = noded_rows d ids chunks edges ns in
      let nodes = node_ids chunks c.args.nodes.now ns are in
      let n : length c.args.nodes.now ≡ length (ids_of ns) = length_ids chunks c.args.nodes.now ns are in
      subst (λ rs. Linking ids (ids_of ns) c.args.first rs c.args.w.now.words c.put_tails.new.list.items c.put_tails-3.new.list.items) (sym (append-nil rows))
      (subst (λ ts. Linking ids (ids_of ns) c.args.first rows c.args.w.now.words ts c.put_tails-3.new.list.items)
      (sym (c.in_ok-put_tails.ensures ∙ (ap (λ ts. ts ++ tails_from c.args.first 4 (length c.args.nodes.now)) c.new-children.ensures.items ∙ ap (λ k. tails_from c.args.first 4 k) n)))
      (subst (λ ts. Linking ids (ids_of ns) c.args.first rows c.args.w.now.words (tails_from c.args.first 4 (length (ids_of ns))) ts)
      (sym (c.in_ok-put_tails-3.ensures
      ∙ (ap (λ ts. ts ++ tails_from c.args.first 5 (length c.args.nodes.now)) (c.in_ok-put_tails-2.ensures ∙ ap (λ ts. ts ++ tails_from 1 5 (length ids)) c.new-versions.ensures.items)
      ∙ ap (λ k. tails_from 1 5 (length ids) ++ tails_from c.args.first 5 k) n)))
      (subst (λ k. Linking ids (ids_of ns) k rows c.args.w.now.words (tails_from k 4 (length (ids_of ns))) (tails_from 1 5 (length ids) ++ tails_from k 5 (length (ids_of ns)))) (sym f)
      (linking_begins d ids chunks edges ns (subst (λ xs. IsOnce (ids ++ xs)) nodes c.requires.once) c.args.w.now.words w)))),
  omega arith,
  omega arith,
)

pub put_link-requires-clause-state : goal.put_link-requires-clause-state
put_link-requires-clause-state c =
    let (d, chunks, edges, ns, f, w, are) = c.requires.noded in
    let ids = c.args.ids.now in
    let x : BaseLink = get_or c.args.links.now c.loop-link.link-index (record { child = 0; parent = 0 }) in
    let nodes = node_ids chunks c.args.nodes.now ns are in (
      ids,
      ids_of ns,
      c.args.first,
      noded_rows d ids chunks edges ns ++ map (λ x. LinkRow (link_of (ids ++ ids_of ns) (ids_of ns) x)) (take c.loop-link.link-index c.args.links.now),
      c.loop-link.invariant.0 d chunks edges ns f w are,
      subst (λ xs. IsWithin (ids ++ xs) xs x) nodes (c.requires.within c.loop-link.link-index _ c.loop-link-test.true),
      subst (λ xs. IsNewLink ids xs c.args.first x c.new_link-new.result) nodes c.new_link-new.ensures,
    )

pub loop-link-preserved : goal.loop-link-preserved
loop-link-preserved c =
    let i = c.loop-link.invariant in
    let p = c.put_link.ensures in
    let l = i.1 in
    let r = i.2 in
    let m = p.length in
    let s = p.room in (
      λ d chunks edges ns f w are.
          let ids = c.args.ids.now in
          let x : BaseLink = get_or c.args.links.now c.loop-link.link-index (record { child = 0; parent = 0 }) in
          let nodes = node_ids chunks c.args.nodes.now ns are in
          let before = noded_rows d ids chunks edges ns in
          let row = λ (y : BaseLink). LinkRow (link_of (ids ++ ids_of ns) (ids_of ns) y) in
          subst (λ rows. Linking ids (ids_of ns) c.args.first rows c.put_link.new.w.words c.put_link.new.children.items c.put_link.new.versions.items)
          (append_assoc before (map row (take c.loop-link.link-index c.args.links.now)) (row x ∷ [])
          ∙ ap (λ rows. before ++ rows) (sym (map_more row c.args.links.now c.loop-link.link-index x c.loop-link-test.true (get_or_any c.args.links.now c.loop-link.link-index _ x c.loop-link-test.true))))
          (p.state ids (ids_of ns) c.args.first (before ++ map row (take c.loop-link.link-index c.args.links.now)) (i.0 d chunks edges ns f w are)
          (subst (λ xs. IsWithin (ids ++ xs) xs x) nodes (c.requires.within c.loop-link.link-index _ c.loop-link-test.true))
          (subst (λ xs. IsNewLink ids xs c.args.first x c.new_link-new.result) nodes c.new_link-new.ensures)),
      omega (arith, l, m),
      omega (arith, r, s),
    )

pub returns-clause-words : goal.returns-clause-words
unfolding linked_rows
returns-clause-words c d chunks edges ns f w are =
    let st = c.loop-link.invariant.0 d chunks edges ns f w are in
    let ids = c.args.ids.now in
    st.rows_are.stand
    ∙ ap (λ xs. words_of (noded_rows d ids chunks edges ns ++ map (λ (y : BaseLink). LinkRow (link_of (ids ++ ids_of ns) (ids_of ns) y)) xs)) (take_whole c.args.links.now c.loop-link.link-index c.loop-link-test.false)
