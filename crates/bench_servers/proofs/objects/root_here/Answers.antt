use Rattle.record_rows.proofs.ImageFacts.{parent_image}
use Rattle.bench_servers.proofs.objects.root_here.Goals as goal

pub root_now-requires : goal.root_now-requires
root_now-requires c =
    let k = c.requires.known in
    record { known = (c.args.dataset.now, k.b, k.log, parent_image _ _ _ _ k.image, k.known) }
