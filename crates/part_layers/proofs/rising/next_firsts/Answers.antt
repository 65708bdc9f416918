use Rattle.std.proofs.Common.{◌-◌, List, length}
use Rattle.op_model.specs.declared.base.Base.{Base}
use Rattle.op_model.specs.declared.entry.Entry.{Entry}
use Rattle.op_model.specs.Ingest.{ingested}
use Rattle.op_model.specs.Valid.{IsBase}
use Rattle.entry_parts.specs.Parts.{AreFirstsOf, IsPart}
use Rattle.octree_layers.proofs.AllLayers.{edges_within, firsts_within}
use Rattle.part_layers.proofs.PartRises.{firsts_told, for_ok}
use Rattle.part_layers.proofs.rising.next_firsts.Goals as goal

pub rise-requires-clause-within : goal.rise-requires-clause-within
rise-requires-clause-within c = edges_within c.args.dataset.now c.args.part.now c.requires.part c.args.edges.now (length c.args.below.now) c.requires.edges.same c.requires.below.count

pub rise-requires-clause-firsts : goal.rise-requires-clause-firsts
rise-requires-clause-firsts c = firsts_within c.args.dataset.now c.args.part.now (ingested c.args.dataset.now c.args.part.now 0) (c.args.layer - 1) c.args.below.now c.requires.below

pub returns-clause-are : goal.returns-clause-are
returns-clause-are c =
    let d = c.args.dataset.now in
    let p = c.args.part.now in
    for_ok _ (λ v. (b : Base) (log : List Entry) → IsBase d b → IsPart d b log p → AreFirstsOf d b log p.supervoxels c.args.layer v.items) c.rise.result
    (λ v f. firsts_told d p c.args.layer v.items (f d p 0 c.requires.dataset c.requires.part c.requires.edges.same c.requires.below)) c.rise.ensures
