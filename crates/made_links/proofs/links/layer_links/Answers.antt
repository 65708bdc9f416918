use Rattle.std.proofs.Common.{◌≡◌, ◌<◌, ◌≤◌, ℕ, List, length, map, get_or, sym, ◌∙◌, ap, subst}
use Rattle.std.specs.List.{All, filter, range_with_len}
use Rattle.entry_parts.specs.declared.made.MadeNode.{MadeNode}
use Rattle.entry_parts.specs.Made.{AreLinksIn}
use Rattle.made_links.specs.declared.finding.Child.{Child}
use Rattle.made_links.specs.Children.{has_parent}
use Rattle.made_links.specs.Orders.{link_of}
use Rattle.made_links.specs.Ranks.{AreRanks}
use Rattle.made_links.proofs.Bound.{keys_low, linked_all}
use Rattle.made_links.proofs.Tally.{tallied}
use Rattle.made_links.proofs.links.layer_links.Goals as goal

pub linked-requires : goal.linked-requires
linked-requires g c =
    let t = c.requires.linked in
    let ids : List ℕ = c.args.ids.now in
    let ranks : List ℕ = c.in_ok-own_ranks.own_ranks.items in
    let ranked = subst (λ ls. AreRanks (length c.args.ids.now) ls c.in_ok-own_ranks.own_ranks.items) c.deref-2.ensures.value c.in_ok-own_ranks.ensures in
    let leasts = subst (λ rs. map (λ (c : Child). c.least) c.in_ok-list.list.items ≡ filter (has_parent c.args.below_firsts.now c.args.firsts.now rs) (range_with_len 0 (length c.args.ids.now))) c.deref-4.ensures.value c.in_ok-list.ensures.leasts in
    let parents = subst (λ rs. All (λ (x : Child). x.parent ≡ get_or rs (get_or c.args.firsts.now x.least 0) 0) c.in_ok-list.list.items) c.deref-4.ensures.value c.in_ok-list.ensures.parents in
    let are = c.in_ok-list.ensures.are t.0 t.1 t.2 t.3 t.4.below_is t.6 in
    let low = keys_low t.0 t.1 t.2 t.3 _ c.args.prefix c.args.ids.now c.args.layer c.args.below_firsts.now c.args.below.now c.args.firsts.now c.args.made.now t.4 t.5 t.6
    c.in_ok-own_ranks.own_ranks.items ranked c.in_ok-list.list.items leasts parents are c.in_ok-list-2.list.items c.in_ok-list-3.list.items c.in_ok-list-2.ensures c.in_ok-list-3.ensures in
    record {
      parents =
          subst (λ (ns : List MadeNode). All (λ (x : Child). (0 < x.parent) × (x.parent ≤ length ns)) c.deref-6.result.now) (sym c.deref-5.ensures.value)
          (subst (All (λ (x : Child). (0 < x.parent) × (x.parent ≤ length c.args.made.now.nodes.items))) (sym c.deref-6.ensures.value) low);
    }

pub returns-clause-links : goal.returns-clause-links
returns-clause-links g c d b log e is high fits =
    let two = c.requires.linked.5 in
    let ranked = subst (λ ls. AreRanks (length c.args.ids.now) ls c.in_ok-own_ranks.own_ranks.items) c.deref-2.ensures.value c.in_ok-own_ranks.ensures in
    let leasts = subst (λ rs. map (λ (c : Child). c.least) c.in_ok-list.list.items ≡ filter (has_parent c.args.below_firsts.now c.args.firsts.now rs) (range_with_len 0 (length c.args.ids.now))) c.deref-4.ensures.value c.in_ok-list.ensures.leasts in
    let parents = subst (λ rs. All (λ (x : Child). x.parent ≡ get_or rs (get_or c.args.firsts.now x.least 0) 0) c.in_ok-list.list.items) c.deref-4.ensures.value c.in_ok-list.ensures.parents in
    let are = c.in_ok-list.ensures.are d b log e is.below_is high in
    let all = linked_all d b log e _ c.args.prefix c.args.ids.now c.args.layer c.args.below_firsts.now c.args.below.now c.args.firsts.now c.args.made.now is two high
    c.in_ok-own_ranks.own_ranks.items ranked c.in_ok-list.list.items leasts parents are c.in_ok-list-2.list.items c.in_ok-list-3.list.items c.in_ok-list-2.ensures c.in_ok-list-3.ensures fits in
    subst (AreLinksIn d b log e c.args.layer c.args.below.now.nodes.items)
    (sym (c.in_ok-links.ensures
    ∙ (ap (λ (ns : List MadeNode). map (link_of ns) c.deref-6.result.now) c.deref-5.ensures.value
    ∙ ap (map (link_of c.args.made.now.nodes.items)) c.deref-6.ensures.value))) all

pub returns-clause-count : goal.returns-clause-count
returns-clause-count g c d b log e is high =
    let two = c.requires.linked.5 in
    let ranked = subst (λ ls. AreRanks (length c.args.ids.now) ls c.in_ok-own_ranks.own_ranks.items) c.deref-2.ensures.value c.in_ok-own_ranks.ensures in
    let leasts = subst (λ rs. map (λ (c : Child). c.least) c.in_ok-list.list.items ≡ filter (has_parent c.args.below_firsts.now c.args.firsts.now rs) (range_with_len 0 (length c.args.ids.now))) c.deref-4.ensures.value c.in_ok-list.ensures.leasts in
    ap length (c.in_ok-links.ensures
    ∙ (ap (λ (ns : List MadeNode). map (link_of ns) c.deref-6.result.now) c.deref-5.ensures.value
    ∙ ap (map (link_of c.args.made.now.nodes.items)) c.deref-6.ensures.value))
    ∙ tallied d b log e _ c.args.prefix c.args.ids.now c.args.layer c.args.below_firsts.now c.args.below.now c.args.firsts.now c.args.made.now is two
    c.in_ok-own_ranks.own_ranks.items ranked c.in_ok-list.list.items c.in_ok-list-2.list.items c.in_ok-list-3.list.items leasts c.in_ok-list-2.ensures c.in_ok-list-3.ensures
