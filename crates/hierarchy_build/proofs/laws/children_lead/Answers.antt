use Rattle.hierarchy_build.proofs.Below.{children}
use Rattle.hierarchy_build.proofs.laws.children_lead.Goals as goal

pub returns : goal.returns
returns c = children
