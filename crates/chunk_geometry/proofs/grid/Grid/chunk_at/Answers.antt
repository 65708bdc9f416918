use Rattle.std.proofs.Common.{arith}
use Rattle.chunk_geometry.proofs.LayerLemmas.{top_high}
use Rattle.chunk_geometry.proofs.grid.Grid.chunk_at.Goals as goal

pub overflow_shr-result : goal.overflow_shr-result
overflow_shr-result c = omega (arith, top_high c.args.self.now)

pub overflow_shr-result-2 : goal.overflow_shr-result-2
overflow_shr-result-2 c = omega (arith, top_high c.args.self.now)

pub overflow_shr-result-3 : goal.overflow_shr-result-3
overflow_shr-result-3 c = omega (arith, top_high c.args.self.now)
