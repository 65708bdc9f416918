use Rattle.std.proofs.Common.{◌∙◌, ap, sym}
use Rattle.std.specs.Option.{option_copied}
use Rattle.octree_layers.proofs.AllLayers.{last_some, last_none}
use Rattle.octree_layers.proofs.layers.last_firsts.Goals as goal

pub returns-in-Some : goal.returns-in-Some
returns-in-Some c =
    c.as_slice.ensures.value ∙ sym (last_some c.args.firsts.now c.args.layers.now c.in-Some.layer.now (sym (ap option_copied c.in-Some.is) ∙ c.last.ensures.value))

pub returns-in-None : goal.returns-in-None
returns-in-None c = last_none c.args.firsts.now c.args.layers.now (sym (ap option_copied c.in-None.is) ∙ c.last.ensures.value)
