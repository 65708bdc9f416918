use Rattle.std.proofs.Common.{◌∙◌, ◌++◌, map, ap}
use Rattle.std.specs.List.{flat_map}
use Rattle.record_rows.specs.LogRows.{rows_of}
use Rattle.united_layers.specs.Jointed.{pair_joint, place_joints}
use Rattle.united_layers.proofs.Gathering.{ends_valid}
use Rattle.united_layers.proofs.reading.joints.Goals as goal

pub put_pairs-requires : goal.put_pairs-requires
put_pairs-requires g c = let r = c.requires.nodes in record { ends = ends_valid c.args.dataset.now r.0 c.args.changed.now r.2.base.supervoxels r.4 }

pub returns-clause-are : goal.returns-clause-are
returns-clause-are g c b log i are =
    let d = c.args.dataset.now in
    let first = ap (λ xs. xs ++ flat_map (place_joints d (rows_of d b log)) c.args.places.now) c.new-list.ensures.items in
    c.in_ok-put_pairs.ensures ∙ ap (λ xs. xs ++ map (pair_joint d) c.args.changed.now) (c.in_ok-put_nodes.ensures.put b log i are ∙ first)
