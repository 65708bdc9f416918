use Rattle.std.proofs.Common.{ℕ, Bool, not, sym, ◌∙◌, ap, map}
use Rattle.graph_model.specs.Wires.{wire}
use Rattle.flow_net.specs.Net.{wire_of}
use Rattle.flow_net.specs.Tests.{same_pair}
use Rattle.flow_net.proofs.Nets.{each_not, each_more}
use Rattle.flow_net.proofs.net.is_new_at.Goals as goal

pub returns-then-is_same_pair : goal.returns-then-is_same_pair
returns-then-is_same_pair c =
    let p : ℕ → Bool = λ j. not (same_pair (wire (map wire_of c.args.links.now) j) (wire (map wire_of c.args.links.now) c.args.k)) in
    sym (each_not p c.loop-j.j c.args.k (ap not (sym c.is_same_pair.ensures ∙ c.if-is_same_pair.true)) c.loop-j-test.true)

pub loop-j-preserved : goal.loop-j-preserved
loop-j-preserved c =
    let p : ℕ → Bool = λ j. not (same_pair (wire (map wire_of c.args.links.now) j) (wire (map wire_of c.args.links.now) c.args.k)) in
    each_more p c.loop-j.j c.loop-j.invariant (ap not (sym c.is_same_pair.ensures ∙ c.if-is_same_pair.false))
