use Rattle.std.proofs.Common.{◌∙◌, sym, subst, refl}
use Rattle.std.specs.Option.{IsSome}
use Rattle.std.proofs.lemmas.Option.{same_Some}
use Rattle.record_rows.specs.Readings.{HoldsId}
use Rattle.op_model.specs.Labels.{node}
use Rattle.op_model.specs.Transcript.{log_at}
use Rattle.record_rows.proofs.PrefixNodes.{parent_step}
use Rattle.node_reader.proofs.nodes.node_above.Goals as goal

pub parent_at-requires : goal.parent_at-requires
parent_at-requires g c = let r = c.requires.below in record { owner = (r.0, r.1, r.2, _, r.5.image, r.5.at) }

pub unwrap-requires : goal.unwrap-requires
unwrap-requires g c =
    let r = c.requires.below in
    let t = r.5 in
    let s = parent_step r.0 r.1 r.2 _ t.image c.args.prefix r.3 r.4 t.low t.high t.layered t.known in
    subst IsSome (sym (c.parent_at.ensures.is r.0 r.1 r.2 _ t.image t.at ∙ s.1)) refl

pub returns-clause-is : goal.returns-clause-is
returns-clause-is g c d b log layer v t =
    let s = parent_step d b log _ t.image c.args.prefix layer v t.low t.high t.layered t.known in
    let e = same_Some _ _ (sym c.unwrap.ensures ∙ (c.parent_at.ensures.is d b log _ t.image t.at ∙ s.1)) in
    subst (λ p. HoldsId d b log p (node d b (log_at d b log c.args.prefix) layer v)) (sym e) s.2
