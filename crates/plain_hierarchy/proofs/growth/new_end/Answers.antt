use Rattle.std.proofs.Common.{Some, ap, inl, inr, sym, ◌∙◌}
use Rattle.plain_hierarchy.proofs.Growing.{fresh_end, old_end, linked_cons}
use Rattle.plain_hierarchy.proofs.growth.new_end.Goals as goal

pub returns-then-is_new-clause-fresh : goal.returns-then-is_new-clause-fresh
returns-then-is_new-clause-fresh c = fresh_end c.args.edge c.args.members.now c.args.from c.args.found.now c.other_end-end.result (sym c.is_new.ensures ∙ c.if-is_new.true)

pub returns-then-is_new-clause-others : goal.returns-then-is_new-clause-others
returns-then-is_new-clause-others c w l h = inr (ap Some (sym (c.other_end-end.ensures w (linked_cons c.args.edge c.args.from w l))))

pub returns-else-is_new-clause-others : goal.returns-else-is_new-clause-others
returns-else-is_new-clause-others c w l h = inl (old_end c.args.edge c.args.members.now c.args.from c.args.found.now c.other_end-end.result (sym c.is_new.ensures ∙ c.if-is_new.false) c.other_end-end.ensures w l h)
