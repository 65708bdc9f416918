use Rattle.std.proofs.Common.{◌∙◌}
use Rattle.component_reader.proofs.Searches.{found}
use Rattle.component_reader.proofs.taking.has_id.Goals as goal

pub returns : goal.returns
returns c = c.is_ok.ensures.value ∙ found c.args.ids.now c.args.id c.requires c.binary_search.result c.binary_search.ensures.position
