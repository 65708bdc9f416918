use Rattle.std.proofs.Common.{◌≡◌, ◌<◌, length, map, sym, subst, nat_eq}
use Rattle.std.specs.List.{All, filter}
use Rattle.octree_layers.specs.declared.levels.PlacedEdge.{PlacedEdge}
use Rattle.octree_layers.specs.Pairs.{pair_at, pairs_at}
use Rattle.octree_layers.proofs.Joining.{kept_all, pairs_are, for_ok}
use Rattle.octree_layers.proofs.rising.pairs_at.Goals as goal

pub active_pairs-requires : goal.active_pairs-requires
active_pairs-requires c = record {
  within =
      let Low : PlacedEdge → Type 0 = λ e. (e.lesser < length c.args.firsts.now) × (e.greater < length c.args.firsts.now) in
      subst (λ es. All Low es) (sym c.of_level.ensures) (kept_all Low (λ e. nat_eq e.level c.args.layer) c.args.edges.now c.requires.within);
}

pub returns : goal.returns
returns c =
    for_ok (λ v. v.items ≡ map (pair_at c.args.firsts.now) (filter (λ e. e.active) c.of_level.result.now)) (λ v. v.items ≡ pairs_at c.args.firsts.now c.args.layer c.args.edges.now)
    c.active_pairs.result (λ v p. pairs_are c.args.firsts.now c.args.layer c.args.edges.now c.of_level.result.now v.items c.of_level.ensures p) c.active_pairs.ensures
