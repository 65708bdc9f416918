use Rattle.std.proofs.Common.{◌≤◌, length, ap, ◌∙◌, rules, ◌==◌}
use Rattle.std.proofs.lemmas.List.{take_all}
use Rattle.std.specs.List.{filter}
use Rattle.op_model.specs.Chunks.{chunk, members}
use Rattle.plain_hierarchy.proofs.chunks.members.Goals as goal

pub returns : goal.returns
unfolding members
returns c =
    let vs = c.args.base.now.supervoxels in
    let whole : length vs ≤ c.loop-sv.sv-index = search rules in
    c.loop-sv.invariant ∙ ap (filter (λ v. chunk c.args.dataset.now c.args.layer v == c.args.place)) (take_all c.loop-sv.sv-index vs whole)
