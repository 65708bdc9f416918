use Rattle.std.proofs.Common.{rules, arith, ◌<◌, ◌∙◌, ap, sym, subst, ◌++◌, ◌∷◌, [], List, map, take, append_assoc, append-nil, get_or}
use Rattle.record_rows.specs.Rows.{LinkRow}
use Rattle.base_rows.specs.declared.lists.BaseLink.{BaseLink}
use Rattle.base_rows.specs.Lists.{IsWithin}
use Rattle.base_rows.proofs.Passing.{get_or_any, map_more, take_whole}
use Rattle.entry_rows.specs.States.{Linking, link_by}
use Rattle.entry_rows.proofs.links.put_links.Goals as goal

pub loop-link-init : goal.loop-link-init
loop-link-init c = (
  λ parents old more st within. subst (λ rows. Linking c.args.children.now parents old rows c.args.growth.now c.args.child_places.now c.args.parent_places.now c.args.ends.now.items c.args.versions.now.items) (sym (append-nil more)) st,
  omega arith,
  search rules,
)

pub new_link-new-requires : goal.new_link-new-requires
new_link-new-requires c =
    let (parents, old, more, st, within) = c.requires.state in
    let x : BaseLink = get_or c.args.links.now c.loop-link.link-index (record { child = 0; parent = 0 }) in
    let is : IsWithin c.args.children.now parents x = within c.loop-link.link-index _ c.loop-link-test.true in
    let a = st.children_at.count in
    let b = st.parents_at.count in
    let y = is.0 in
    let z = is.1 in
    record { within = (is.0, subst (λ n. x.child < n) (sym a) y, subst (λ n. x.parent < n) (sym b) z) }

pub put_link-requires-clause-state : goal.put_link-requires-clause-state
put_link-requires-clause-state c =
    let (parents, old, more, st, within) = c.requires.state in
    (c.args.children.now, parents, old, _, c.args.child_places.now, c.args.parent_places.now, c.loop-link.invariant.0 parents old more st within, within c.loop-link.link-index _ c.loop-link-test.true)

pub put_link-requires-clause-places : goal.put_link-requires-clause-places
put_link-requires-clause-places c =
    let n = c.loop-link.invariant.1 in
    let t = c.loop-link.invariant.2 in
    let l = c.loop-link-test.true in
    let r = c.requires.places in
    omega (arith, n, t, l, r)

pub loop-link-preserved : goal.loop-link-preserved
loop-link-preserved c =
    let i = c.loop-link.invariant in
    let p = c.in_ok-put_link.ensures in
    let e = c.new_link-new.ensures in
    let l = i.1 in
    let m = p.length in (
      λ parents old more st within.
          let x : BaseLink = get_or c.args.links.now c.loop-link.link-index (record { child = 0; parent = 0 }) in
          let is : IsWithin c.args.children.now parents x = within c.loop-link.link-index _ c.loop-link-test.true in
          let links : List BaseLink = take c.loop-link.link-index c.args.links.now in
          subst (λ rows. Linking c.args.children.now parents old rows c.put_link.new.growth c.args.child_places.now c.args.parent_places.now c.put_link.new.ends.items c.put_link.new.versions.items)
          (append_assoc more (map (λ (y : BaseLink). LinkRow (link_by c.args.made c.args.children.now parents y)) links) _
          ∙ ap (λ rows. more ++ rows) (sym (map_more (λ (y : BaseLink). LinkRow (link_by c.args.made c.args.children.now parents y)) c.args.links.now c.loop-link.link-index x c.loop-link-test.true
          (get_or_any c.args.links.now c.loop-link.link-index (record { child = 0; parent = 0 }) x c.loop-link-test.true))))
          (subst (λ k. Linking c.args.children.now parents old ((more ++ map (λ (y : BaseLink). LinkRow (link_by c.args.made c.args.children.now parents y)) links) ++ LinkRow (link_by k c.args.children.now parents x) ∷ [])
          c.put_link.new.growth c.args.child_places.now c.args.parent_places.now c.put_link.new.ends.items c.put_link.new.versions.items) e.entry
          (p.state c.args.children.now parents old _ c.args.child_places.now c.args.parent_places.now (i.0 parents old more st within) is e.child e.child_at e.parent_at)),
      omega (arith, l, m),
      p.tail ∙ i.2,
    )

pub returns-clause-state : goal.returns-clause-state
returns-clause-state c parents old more st within =
    subst (λ xs. Linking c.args.children.now parents old (more ++ map (λ (x : BaseLink). LinkRow (link_by c.args.made c.args.children.now parents x)) xs) c.loop-link.growth c.args.child_places.now c.args.parent_places.now c.loop-link.ends.items c.loop-link.versions.items)
    (take_whole c.args.links.now c.loop-link.link-index c.loop-link-test.false) (c.loop-link.invariant.0 parents old more st within)
