use Rattle.std.proofs.Common.{[], ◌∷◌, take, get_or, ◌+◌, subst}
use Rattle.op_model.specs.Edges.{linked}
use Rattle.plain_hierarchy.specs.Growth.{Grows}
use Rattle.plain_hierarchy.proofs.Growing.{grows_none, grows_more, linked_none, linked_next}
use Rattle.plain_hierarchy.proofs.growth.add_linked.Goals as goal

pub loop-edge-init : goal.loop-edge-init
loop-edge-init c = grows_none (linked []) c.args.members.now c.args.from c.args.found.now.items (λ w l h. linked_none c.args.from w l)

pub loop-edge-preserved : goal.loop-edge-preserved
loop-edge-preserved c =
    let i = c.loop-edge.edge-index in
    let es = c.args.edges.now in
    let e = c.edge-item.result in
    grows_more (linked (take i es)) (linked (get_or es i e ∷ [])) (linked (take (i + 1) es)) c.args.members.now c.args.from c.args.found.now.items c.loop-edge.found.items c.add_end.new.found.items
    (λ w. linked_next es i e c.args.from w c.loop-edge-test.true) c.loop-edge.invariant
    (subst (λ x. Grows (linked (x ∷ [])) c.args.members.now c.args.from c.loop-edge.found.items c.add_end.new.found.items) c.edge-item.is c.in_ok-add_end.ensures)
