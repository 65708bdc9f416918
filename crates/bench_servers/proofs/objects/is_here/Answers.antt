use Rattle.std.proofs.Common.{◌∙◌, sym}
use Rattle.record_rows.proofs.ImageFacts.{parent_image}
use Rattle.bench_servers.proofs.ServerFacts.{server_parents}
use Rattle.bench_servers.proofs.objects.is_here.Goals as goal

pub is_known-requires : goal.is_known-requires
is_known-requires c = record { image = server_parents _ _ _ c.requires.server }

pub returns-clause-is : goal.returns-clause-is
returns-clause-is c h =
    let s = c.requires.server in
    record { b = s.b; log = s.log; image = s.image; known = sym (c.is_known.ensures.is c.args.dataset.now s.b s.log (parent_image _ _ _ _ s.image)) ∙ h }
