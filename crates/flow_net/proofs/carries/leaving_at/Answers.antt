use Rattle.std.proofs.Common.{sym, ◌∙◌, refl}
use Rattle.graph_model.specs.Lists.{has}
use Rattle.flow_net.proofs.carries.leaving_at.Goals as goal

pub returns-then-not-is_mark-clause-value : goal.returns-then-not-is_mark-clause-value
returns-then-not-is_mark-clause-value c = sym (c.carry_at-carry.ensures.carry.carried_out_is (has c.args.sources.now)
    ∙ rw (sym c.is_mark.ensures ∙ c.if-is_mark.true, sym c.is_mark-then-is_mark.ensures ∙ c.if-not-is_mark.true) refl)
