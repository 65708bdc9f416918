use Rattle.bench_servers.proofs.ServerFacts.{image_for}
use Rattle.bench_servers.proofs.objects.reply_of.Goals as goal

pub answer-requires : goal.answer-requires
answer-requires c =
    let s = c.requires.server in
    record { image = (c.args.dataset.now, s.b, s.log, image_for c.args.read.now c.args.dataset.now s.b s.log c.args.w.now.words s.image) }
