use Rattle.node_ids.proofs.PackLemmas.{packs_unpacked, unpacks_packed}
use Rattle.node_ids.proofs.laws.packing_is_undone.Goals as goal

pub returns : goal.returns
returns c = record { unpacked = unpacks_packed; packed = packs_unpacked }
