use Rattle.std.proofs.Common.{◌∙◌, ◌+◌, ℕ, Bool, sym, refl, ap, drop}
use Rattle.op_model.specs.declared.reply.Refusal.TheVariants.{BothSides}
use Rattle.graph_model.specs.Lists.{has}
use Rattle.op_model.specs.Refusals.{refuse_first}
use Rattle.edit_split.proofs.Refused.{first_here, first_later, first_nothing, marks_left, none_left}
use Rattle.edit_split.proofs.refusing.on_both_sides.Goals as goal

pub loop-at-init : goal.loop-at-init
loop-at-init c = refl

pub returns-then-has_id : goal.returns-then-has_id
returns-then-has_id c =
    let test : ℕ → Bool = λ v. has c.args.sinks.now v in
    first_here BothSides test c.index-sources-at.result (drop (c.loop-at.at + 1) c.args.sources.now) (sym c.has_id.ensures ∙ c.if-has_id.true)
    ∙ sym (c.loop-at.invariant ∙ ap (refuse_first BothSides test) (marks_left c.args.sources.now c.loop-at.at c.index-sources-at.result c.loop-at-test.true c.index-sources-at.is))

pub loop-at-preserved : goal.loop-at-preserved
loop-at-preserved c =
    let test : ℕ → Bool = λ v. has c.args.sinks.now v in
    c.loop-at.invariant
    ∙ (ap (refuse_first BothSides test) (marks_left c.args.sources.now c.loop-at.at c.index-sources-at.result c.loop-at-test.true c.index-sources-at.is)
    ∙ first_later BothSides test c.index-sources-at.result (drop (c.loop-at.at + 1) c.args.sources.now) (sym c.has_id.ensures ∙ c.if-has_id.false))

pub returns : goal.returns
returns c =
    let test : ℕ → Bool = λ v. has c.args.sinks.now v in
    first_nothing BothSides test ∙ sym (c.loop-at.invariant ∙ ap (refuse_first BothSides test) (none_left c.args.sources.now c.loop-at.at c.loop-at-test.false))
