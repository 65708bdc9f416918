use Rattle.std.proofs.Common.{◌≡◌, ◌<◌, ℕ, ◌-◌, length, map, get_or, sym, ◌∙◌, ap, subst, arith}
use Rattle.std.specs.List.{All}
use Rattle.op_model.specs.declared.base.Dataset.{Dataset}
use Rattle.op_model.specs.declared.base.Base.{Base}
use Rattle.op_model.specs.Valid.{IsBase, IsDataset}
use Rattle.op_model.specs.Ingest.{ingested}
use Rattle.layer_laws.specs.Building.{AreLeastLeaves}
use Rattle.octree_layers.specs.Pairs.{AreEdges}
use Rattle.octree_layers.proofs.Joining.{pairs_below, risen, for_ok}
use Rattle.octree_layers.proofs.rising.rise.Goals as goal

pub components-requires : goal.components-requires
components-requires c = record {
  below =
      let n = length c.args.firsts.now in
      subst (λ ps. All (λ p. (p.0 < n) × (p.1 < n)) ps) (sym (c.deref.ensures.value ∙ c.in_ok-pairs.ensures))
      (pairs_below n c.args.layer c.args.firsts.now c.args.edges.now c.requires.within c.requires.firsts);
}

pub returns : goal.returns
returns c =
    for_ok (λ v. v.items ≡ map (λ f. get_or c.deref-2.result.now f 0) c.args.firsts.now)
    (λ v. (d : Dataset) (b : Base) (now : ℕ) → IsDataset d → IsBase d b → AreEdges d b c.args.edges.now → AreLeastLeaves d b (ingested d b now) (c.args.layer - 1) c.args.firsts.now → AreLeastLeaves d b (ingested d b now) c.args.layer v.items)
    c.lead.result
    (λ v e d b now valid base same are. risen d b valid base now c.args.layer c.args.firsts.now c.args.edges.now c.deref.result.now c.in_ok-least.least.items v.items
    c.requires.layer (let f = c.ranges.layer.fits in omega arith) same are (c.deref.ensures.value ∙ c.in_ok-pairs.ensures) c.in_ok-least.ensures.least
    (e ∙ ap (λ ns. map (λ f. get_or ns f 0) c.args.firsts.now) c.deref-2.ensures.value))
    c.lead.ensures
