use Rattle.std.proofs.Common.{◌∙◌, sym}
use Rattle.hierarchy_edit.proofs.standing.made_layers.Goals as goal

pub united_made-requires-clause-active : goal.united_made-requires-clause-active
united_made-requires-clause-active g c = c.requires.active (sym c.is_uniting.ensures ∙ c.if-is_uniting.true)

pub returns-clause-layers : goal.returns-clause-layers
returns-clause-layers g c b log e i known tops on q = c.part_made.ensures.layers b log e i known tops q
