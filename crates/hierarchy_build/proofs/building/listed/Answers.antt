use Rattle.std.proofs.Common.{arith, sym, subst, refl}
use Rattle.hierarchy_build.specs.Links.{AreBuilt}
use Rattle.hierarchy_build.proofs.LayerChunks.{chunks_few}
use Rattle.hierarchy_build.proofs.WholeRows.{refused_so}
use Rattle.hierarchy_build.proofs.building.listed.Goals as goal

pub returns-in-Err-clause-refused : goal.returns-in-Err-clause-refused
returns-in-Err-clause-refused c = refused_so c.args.dataset.now c.args.base.now c.in-Err.error c.error_of.result c.error_of.ensures c.in-Err.ensures.spent

pub records_of-need-requires-clause-chunks : goal.records_of-need-requires-clause-chunks
records_of-need-requires-clause-chunks c =
    let few = chunks_few c.args.dataset.now c.args.base.now c.requires.dataset c.requires.base in
    let e = c.chunk_count.ensures in
    omega (arith, few, e)

pub returns-then-need-dataset-clause-refused : goal.returns-then-need-dataset-clause-refused
returns-then-need-dataset-clause-refused c =
    let built : AreBuilt c.args.dataset.now c.args.base.now c.in-Ok-build_layers.layers.items = record { dataset = c.requires.dataset; base = c.requires.base; layers = c.in-Ok-build_layers.ensures.layers; count = c.in-Ok-build_layers.ensures.count } in
    (λ now. (c.in-Ok-build_layers.ensures.fit now, c.records_of-need.ensures.is c.args.dataset.now now (subst (AreBuilt c.args.dataset.now c.args.base.now) (sym c.deref-2.ensures.value) built) c.chunk_count.ensures), refl, c.if-need-dataset.true)
