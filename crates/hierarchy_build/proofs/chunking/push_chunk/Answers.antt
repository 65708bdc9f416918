use Rattle.hierarchy_build.proofs.Fresh.{put_other, put_same}
use Rattle.hierarchy_build.proofs.chunking.push_chunk.Goals as goal

pub returns-then-eq : goal.returns-then-eq
returns-then-eq c = put_same c.args.last c.args.chunk c.args.list.now.items c.eq.result c.eq.ensures c.if-eq.true

pub returns-in-Ok : goal.returns-in-Ok
returns-in-Ok c = put_other c.args.last c.args.chunk c.args.list.now.items c.push.new.self.items c.eq.result c.eq.ensures c.if-eq.false c.in-Ok.ensures.items
