use Rattle.std.proofs.Common.{sym, ◌∙◌, arith, map, length}
use Rattle.flow_net.specs.Net.{wire_of}
use Rattle.flow_net.proofs.Weights.{glue_hit, glue_none}
use Rattle.flow_net.proofs.cuts.first_glue.Goals as goal

pub returns-then-is_glue : goal.returns-then-is_glue
returns-then-is_glue c = sym (glue_hit (map wire_of c.args.links.now) c.args.cut.now (length c.args.links.now) c.requires.ascending c.loop-k.k-index c.loop-k-test.true
    c.loop-k.invariant (sym c.is_glue.ensures ∙ c.if-is_glue.true) (c.requires.below c.loop-k.k-index 0 c.loop-k-test.true))

pub returns : goal.returns
returns c = sym (glue_none (map wire_of c.args.links.now) c.args.cut.now (length c.args.links.now) c.requires.ascending (λ j l. c.loop-k.invariant j (omega arith)))
