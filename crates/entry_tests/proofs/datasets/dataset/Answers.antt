use Rattle.std.proofs.Common.{◌≤◌, sym, subst, arith, rules}
use Rattle.node_ids.specs.Ids.{IsLayout}
use Rattle.op_model.specs.Valid.{IsAxis}
use Rattle.entry_tests.proofs.Axes.{axis}
use Rattle.entry_tests.proofs.datasets.dataset.Goals as goal

pub returns : goal.returns
returns c =
    let form : (1 ≤ c.args.version) × (c.args.version ≤ 2) × (1 ≤ c.args.bits) × (c.args.bits ≤ 16) = search rules in
    let layout : IsLayout c.in-Ok.layout = subst IsLayout (sym c.in-Ok.ensures.made) form in
    let low : 8 ≤ c.in-Ok.layout.bits = search rules in
    let x : IsAxis c.in-Ok.layout.bits c.in-Ok-new.grid.x = axis _ _ low (search rules) (search rules) in
    let y : IsAxis c.in-Ok.layout.bits c.in-Ok-new.grid.y = axis _ _ low (search rules) (search rules) in
    let z : IsAxis c.in-Ok.layout.bits c.in-Ok-new.grid.z = axis _ _ low (search rules) (search rules) in
    record { layout = layout; x = x; y = y; z = z; merge_affinity = (omega arith, omega arith); capacity = (search rules, search rules) }
