use Rattle.std.proofs.Common.{◌≡◌, map, length, sym, ◌∙◌, arith}
use Rattle.std.proofs.lemmas.List.{length-map}
use Rattle.flow_net.specs.Net.{wire_of}
use Rattle.min_cut.proofs.Pushing.{pushed_none, next, at_end, in_range, link_of}
use Rattle.min_cut.specs.Tree.{visit_at}
use Rattle.min_cut.proofs.walk.augment.Goals as goal

pub loop-k-init : goal.loop-k-init
loop-k-init c = record { seen = c.requires.sink; pushed = pushed_none _ _ _ _ _ _ c.requires.fits; len = c.requires.amounts }

pub parent_link-requires : goal.parent_link-requires
parent_link-requires c = let (visit, e, w) = c.loop-k.invariant.seen in in_range c.args.visits.now c.loop-k.at visit e

pub push_over-at-requires-clause-at : goal.push_over-at-requires-clause-at
push_over-at-requires-clause-at c =
    let (sources, tree) = c.requires.tree in
    let l = link_of (map wire_of c.args.links.now) sources c.args.visits.now c.args.amounts.now c.loop-k.at c.in-Some.k tree (sym c.parent_link.ensures ∙ c.in-Some.is) in
    rw length-map at l

pub push_over-at-requires-clause-small : goal.push_over-at-requires-clause-small
push_over-at-requires-clause-small c =
    let (sources, tree) = c.requires.tree in
    let l = link_of (map wire_of c.args.links.now) sources c.args.visits.now c.args.amounts.now c.loop-k.at c.in-Some.k tree (sym c.parent_link.ensures ∙ c.in-Some.is) in
    let s = c.loop-k.invariant.pushed.fits.small c.in-Some.k l in
    (omega arith, omega arith)

pub loop-k-preserved : goal.loop-k-preserved
loop-k-preserved c =
    let (sources, tree) = c.requires.tree in
    let e : length c.loop-k.amounts ≡ length (map wire_of c.args.links.now) = rw length-map c.loop-k.invariant.len in
    let n = next (map wire_of c.args.links.now) sources c.args.visits.now c.args.amounts.now c.loop-k.amounts c.args.width c.args.sent c.loop-k.at c.args.sink
    tree c.requires.fits c.loop-k.invariant.pushed e c.in-Some.k c.push_over-at.result c.push_over-at.new.amounts c.loop-k.invariant.seen (sym c.parent_link.ensures ∙ c.in-Some.is) c.push_over-at.ensures in
    record { seen = n.1; pushed = n.0; len = c.push_over-at.auto.amounts ∙ c.loop-k.invariant.len }

pub loop-k-smaller : goal.loop-k-smaller
loop-k-smaller c =
    let (sources, tree) = c.requires.tree in
    let e : length c.loop-k.amounts ≡ length (map wire_of c.args.links.now) = rw length-map c.loop-k.invariant.len in
    (next (map wire_of c.args.links.now) sources c.args.visits.now c.args.amounts.now c.loop-k.amounts c.args.width c.args.sent c.loop-k.at c.args.sink
    tree c.requires.fits c.loop-k.invariant.pushed e c.in-Some.k c.push_over-at.result c.push_over-at.new.amounts c.loop-k.invariant.seen (sym c.parent_link.ensures ∙ c.in-Some.is) c.push_over-at.ensures).2

pub returns : goal.returns
returns c = record {
  pushed = c.loop-k.invariant.pushed;
  seen = c.loop-k.invariant.seen;
  first = at_end (visit_at c.args.visits.now c.loop-k.at) (sym c.parent_link.ensures ∙ c.in_default.is);
}
