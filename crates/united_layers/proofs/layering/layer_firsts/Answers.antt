use Rattle.std.proofs.Common.{◌<◌, ◌∙◌, length, sym, subst}
use Rattle.std.specs.List.{All}
use Rattle.united_layers.proofs.Gathering.{pairs_small}
use Rattle.united_layers.proofs.Layered.{firsts_here}
use Rattle.united_layers.proofs.layering.layer_firsts.Goals as goal

pub components-requires : goal.components-requires
components-requires c = record {
  below =
      let n = length c.args.ids.now in
      subst (λ ps. All (λ p. (p.0 < n) × (p.1 < n)) ps) (sym (c.deref.ensures.value ∙ c.in_ok-pairs.ensures)) (pairs_small n c.args.layer c.args.joints.now c.requires.placed);
}

pub returns : goal.returns
returns c d b log e words ends is two high =
    firsts_here d b log e words c.args.ids.now ends c.args.joints.now is c.args.layer two high c.deref.result.now c.in_ok-least.least.items (c.deref.ensures.value ∙ c.in_ok-pairs.ensures) c.in_ok-least.ensures.least
