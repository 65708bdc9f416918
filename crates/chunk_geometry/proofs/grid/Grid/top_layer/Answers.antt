use Rattle.std.proofs.Common.{arith, ℕ, ◌≤◌, ◌+◌, ◌-◌, ◌^◌, subst, sym}
use Rattle.chunk_geometry.specs.Chunks.{widest}
use Rattle.chunk_geometry.proofs.LayerLemmas.{top_is, log_fits, log_least}
use Rattle.chunk_geometry.proofs.grid.Grid.top_layer.Goals as goal

pub returns-then-widest-eq1-clause-is : goal.returns-then-widest-eq1-clause-is
returns-then-widest-eq1-clause-is c = top_is c.args.self.now 2 (omega arith) (omega arith) (omega arith) (λ other l e. l)

fits : (c : goal.After-ilog2) → widest c.args.self.now ≤ 2 ^ (3 + c.ilog2.result - 2)
fits c = subst (λ w. w ≤ 2 ^ (3 + c.ilog2.result - 2)) c.widest-widest.ensures.is (log_fits c.widest-widest.result c.ilog2.result c.ilog2.ensures.next_power_gt)

least : (c : goal.After-ilog2) (layer : ℕ) → 2 ≤ layer → widest c.args.self.now ≤ 2 ^ (layer - 2) → 3 + c.ilog2.result ≤ layer
least c layer low e = log_least c.widest-widest.result c.ilog2.result layer (omega arith) c.ilog2.ensures.power_le (subst (λ w. w ≤ 2 ^ (layer - 2)) (sym c.widest-widest.ensures.is) e)

high : (c : goal.After-ilog2) → 3 + c.ilog2.result ≤ 18
high c = log_least c.widest-widest.result c.ilog2.result 18 (omega arith) c.ilog2.ensures.power_le (omega arith)

pub returns-else-widest-eq1-clause-is : goal.returns-else-widest-eq1-clause-is
returns-else-widest-eq1-clause-is c = top_is c.args.self.now (3 + c.ilog2.result) (omega arith) (high c) (fits c) (least c)

pub returns-else-widest-eq1-clause-range : goal.returns-else-widest-eq1-clause-range
returns-else-widest-eq1-clause-range c = (omega arith, high c)

pub returns-else-widest-eq1-clause-one : goal.returns-else-widest-eq1-clause-one
returns-else-widest-eq1-clause-one c = fits c

pub returns-else-widest-eq1-clause-least : goal.returns-else-widest-eq1-clause-least
returns-else-widest-eq1-clause-least c = least c
