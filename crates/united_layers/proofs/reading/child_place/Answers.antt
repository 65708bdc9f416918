use Rattle.std.proofs.Common.{◌∙◌, sym, subst, arith}
use Rattle.record_rows.specs.Readings.{HoldsId}
use Rattle.node_reader.proofs.ChildRows.{child_holds}
use Rattle.node_reader.proofs.LeafWalks.{child_told}
use Rattle.united_layers.proofs.reading.child_place.Goals as goal

pub fixed-requires-clause-within : goal.fixed-requires-clause-within
fixed-requires-clause-within g c = let r = c.requires.link in (child_told r.0 r.1 r.2 _ r.4 c.args.link r.3 r.5).0.0

pub overflow_cast-result : goal.overflow_cast-result
overflow_cast-result g c =
    let r = c.requires.link in
    let t = child_told r.0 r.1 r.2 _ r.4 c.args.link r.3 r.5 in
    let is = c.fixed.ensures.is ∙ t.0.1 in
    let small = t.1 in
    omega arith

pub returns-clause-is : goal.returns-clause-is
returns-clause-is g c d b log l i h = c.fixed.ensures.is ∙ (child_told d b log _ i c.args.link l h).0.1

pub returns-clause-at : goal.returns-clause-at
returns-clause-at g c d b log l i h =
    subst (λ p. HoldsId d b log p l.child) (sym (c.fixed.ensures.is ∙ (child_told d b log _ i c.args.link l h).0.1)) (child_holds d b i.dataset i.base log i.legal c.args.link l h)
