use Rattle.std.proofs.Common.{rules, ◌≡◌, ◌++◌, length, map}
use Rattle.record_rows.specs.Rows.{NodeRow}
use Rattle.base_rows.specs.declared.lists.BaseNode.{BaseNode}
use Rattle.base_rows.specs.BaseRows.{ids_of}
use Rattle.base_rows.specs.States.{tails_from}
use Rattle.entry_rows.specs.Listed.{places_from}
use Rattle.entry_rows.proofs.Begins.{linking, links_within, linked}
use Rattle.entry_rows.proofs.putting.add_links.Goals as goal

pub put_links-requires-clause-state : goal.put_links-requires-clause-state
put_links-requires-clause-state c =
    let (old, more, ns, growth, is, here) = c.requires.listed in
    let l = c.args.lists.now in
    let n : c.len-count.result ≡ length l.nodes.items = search rules in
    let cs : c.deref-5.result.now ≡ l.kept.items ++ map (λ (x : BaseNode). x.id) l.nodes.items = search rules in
    let cp : c.deref-6.result.now ≡ l.kept_places.items ++ places_from c.args.first (length l.nodes.items) = search rules in
    let pp : c.deref-7.result.now ≡ places_from c.args.first (length l.nodes.items) = search rules in
    let es : c.in_ok-ends.ends.items ≡ tails_from c.args.first 4 (length l.nodes.items) = search rules in
    let vs : c.in_ok-versions.versions.items ≡ l.kept_ends.items ++ tails_from c.args.first 5 (length l.nodes.items) = search rules in (
      ids_of ns,
      old,
      more ++ map NodeRow ns,
      linking old more ns c.args.growth.now l growth is c.args.first here c.deref-5.result.now c.deref-6.result.now c.deref-7.result.now c.in_ok-ends.ends.items c.in_ok-versions.versions.items c.deref-8.result.now cs c.deref-8.ensures.value cp pp es vs,
      links_within old more ns c.args.growth.now l growth is c.args.first here c.deref-5.result.now c.deref-6.result.now c.deref-7.result.now c.in_ok-ends.ends.items c.in_ok-versions.versions.items c.deref-8.result.now cs c.deref-8.ensures.value,
    )

pub returns-clause-pushed : goal.returns-clause-pushed
returns-clause-pushed c old more ns growth is here =
    let l = c.args.lists.now in
    let n : c.len-count.result ≡ length l.nodes.items = search rules in
    let cs : c.deref-5.result.now ≡ l.kept.items ++ map (λ (x : BaseNode). x.id) l.nodes.items = search rules in
    let cp : c.deref-6.result.now ≡ l.kept_places.items ++ places_from c.args.first (length l.nodes.items) = search rules in
    let pp : c.deref-7.result.now ≡ places_from c.args.first (length l.nodes.items) = search rules in
    let es : c.in_ok-ends.ends.items ≡ tails_from c.args.first 4 (length l.nodes.items) = search rules in
    let vs : c.in_ok-versions.versions.items ≡ l.kept_ends.items ++ tails_from c.args.first 5 (length l.nodes.items) = search rules in
    linked old more ns c.args.growth.now l growth is c.args.first here c.deref-5.result.now c.deref-6.result.now c.deref-7.result.now c.in_ok-ends.ends.items c.in_ok-versions.versions.items c.deref-8.result.now cs c.deref-8.ensures.value
    l.head.number c.put_links.new.growth
    (c.in_ok-put_links.ensures.state (ids_of ns) old (more ++ map NodeRow ns)
    (linking old more ns c.args.growth.now l growth is c.args.first here c.deref-5.result.now c.deref-6.result.now c.deref-7.result.now c.in_ok-ends.ends.items c.in_ok-versions.versions.items c.deref-8.result.now cs c.deref-8.ensures.value cp pp es vs)
    (links_within old more ns c.args.growth.now l growth is c.args.first here c.deref-5.result.now c.deref-6.result.now c.deref-7.result.now c.in_ok-ends.ends.items c.in_ok-versions.versions.items c.deref-8.result.now cs c.deref-8.ensures.value)).growth
