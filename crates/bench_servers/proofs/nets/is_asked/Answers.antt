use Rattle.std.proofs.Common.{rules}
use Rattle.bench_servers.proofs.Apart.{apart}
use Rattle.bench_servers.proofs.nets.is_asked.Goals as goal

pub returns : goal.returns
returns c _ = record {
  few = search rules;
  sources = search rules;
  sinks = search rules;
  some = search rules;
  others = search rules;
  sides = apart c.args.sinks.now c.args.sources.now (search rules);
}
