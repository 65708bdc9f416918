use Rattle.std.proofs.Common.{rules, ◌≡◌, ◌++◌, get_or, sym, ◌∙◌, refl}
use Rattle.row_append.specs.Ends.{ChildrenOf, VersionsOf}
use Rattle.base_rows.specs.Lists.{link_of}
use Rattle.base_rows.proofs.LinkSteps.{link_more}
use Rattle.base_rows.proofs.TailLists.{end_given, end_within}
use Rattle.base_rows.proofs.links.put_link.Goals as goal

pub push_link-spot-requires-clause-children : goal.push_link-spot-requires-clause-children
push_link-spot-requires-clause-children c =
    let (ids, nodes, first, rows, st, p, new) = c.requires.state in
    end_within ChildrenOf nodes rows c.args.w.now.words c.args.children.now.items c.args.link.parent c.index.result.now st.children_are st.rows_are.stand p.1 (search rules)

pub push_link-spot-requires-clause-versions : goal.push_link-spot-requires-clause-versions
push_link-spot-requires-clause-versions c =
    let (ids, nodes, first, rows, st, p, new) = c.requires.state in
    end_within VersionsOf (ids ++ nodes) rows c.args.w.now.words c.args.versions.now.items c.args.link.child c.index-2.result.now st.versions_are st.rows_are.stand p.0 (search rules)

pub returns-clause-state : goal.returns-clause-state
returns-clause-state c ids nodes first rows st p new =
    let e = c.push_link-spot.ensures in
    let l = link_of (ids ++ nodes) nodes c.args.link in
    let one : c.index.result.now ≡ get_or c.args.children.now.items c.args.link.parent c.index.result.now = search rules in
    let two : c.index-2.result.now ≡ get_or c.args.versions.now.items c.args.link.child c.index-2.result.now = search rules in
    link_more ids nodes first rows c.args.w.now.words c.push_link-spot.new.w.words c.args.children.now.items c.args.versions.now.items c.args.link c.push_link-spot.result st p
    (e.place rows st.rows_are.stand)
    (e.words rows l st.rows_are.headed st.rows_are.stand (sym new.child) (sym new.entry)
    (st.owners_stand c.args.link.child p.0 ∙ sym new.child_at) (st.nodes_stand c.args.link.parent p.1 ∙ sym new.parent_at)
    (end_given ChildrenOf nodes rows c.args.children.now.items c.args.link.parent l.parent c.index.result.now st.children_are p.1 refl one)
    (end_given VersionsOf (ids ++ nodes) rows c.args.versions.now.items c.args.link.child l.child c.index-2.result.now st.versions_are p.0 refl two))
