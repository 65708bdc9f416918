use Rattle.record_rows.proofs.ImageFacts.{parent_image}
use Rattle.bench_servers.proofs.objects.leaves_at.Goals as goal

pub leaves-requires : goal.leaves-requires
leaves-requires c =
    let k = c.requires.node in
    record { node = (c.args.dataset.now, k.b, k.log, k.node, parent_image _ _ _ _ k.image, k.holds) }
