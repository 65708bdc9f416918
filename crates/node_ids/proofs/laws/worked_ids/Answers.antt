use Rattle.std.proofs.Common.{refl}
use Rattle.node_ids.specs.Ids.{width, id_over, id_of, parts_over, parts_of}
use Rattle.node_ids.specs.Packing.{packed}
use Rattle.node_ids.proofs.laws.worked_ids.Goals as goal

pub returns : goal.returns
unfolding width id_over id_of parts_over parts_of packed
returns c = record {
  supervoxel = refl;
  next_chunk = refl;
  second_layer = refl;
  fifth = refl;
  third_layer = refl;
  eighth = refl;
  apart = refl;
  far = refl;
  many = refl;
  narrower = refl;
  roomier = refl;
}
