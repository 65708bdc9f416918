use Rattle.std.proofs.Common.{ℕ, rules, Vec, Global, BuildHasherDefault, FoldHasher}
use Rattle.indexmap.specs.declared.set.IndexSet.{IndexSet}
use Rattle.op_model.specs.declared.base.Edge.{Edge}
use Rattle.table_ingest.proofs.BaseLemmas.{spelled_valid}
use Rattle.table_ingest.proofs.Counts.{spelled_few}
use Rattle.table_ingest.proofs.ReadLemmas.{ids_stop, edges_stop, pairs_once, spelled}
use Rattle.table_ingest.proofs.base.read_base.Goals as goal

abbrev Names : Type 0
Names = IndexSet ℕ (BuildHasherDefault FoldHasher) Global FoldHasher

pub returns-in_err-ids-clause-answers : goal.returns-in_err-ids-clause-answers
returns-in_err-ids-clause-answers c = ids_stop c.args.dataset.now c.args.supervoxels.now c.args.edges.now Names (λ ids. ids.keys) c.in_err-ids.field-0.0 c.from_residual.result (search rules) c.in_err-ids.ensures

pub returns-in_err-rows-clause-answers : goal.returns-in_err-rows-clause-answers
returns-in_err-rows-clause-answers c =
    edges_stop c.args.dataset.now c.args.supervoxels.now c.args.edges.now c.in_ok-ids.ids.keys c.in_ok-ids.ensures (Vec Edge Global) (λ v. v.items) c.in_err-rows.field-0.0 c.from_residual-in_err-rows.result (search rules) c.in_err-rows.ensures

pub ascending_edges-requires : goal.ascending_edges-requires
ascending_edges-requires c = pairs_once c.args.dataset.now c.args.supervoxels.now c.args.edges.now c.in_ok-ids.ids.keys c.in_ok-ids.ensures c.in_ok-rows.rows.items c.in_ok-rows.ensures

pub returns-clause-answers : goal.returns-clause-answers
returns-clause-answers c =
    spelled c.args.dataset.now c.args.supervoxels.now c.args.edges.now c.in_ok-ids.ids.keys c.in_ok-ids.ensures c.in_ok-rows.rows.items c.in_ok-rows.ensures c.in-Ok.sorted c.ascending_edges.result
    (search rules) c.ascending_edges.ensures

pub returns-clause-base : goal.returns-clause-base
returns-clause-base c = (spelled_valid c.args.dataset.now c.args.supervoxels.now c.args.edges.now (record { supervoxels = c.in-Ok.sorted; edges = c.ascending_edges.result }) (returns-clause-answers c)).0

pub returns-clause-ascending : goal.returns-clause-ascending
returns-clause-ascending c = (spelled_valid c.args.dataset.now c.args.supervoxels.now c.args.edges.now (record { supervoxels = c.in-Ok.sorted; edges = c.ascending_edges.result }) (returns-clause-answers c)).1

pub returns-clause-few : goal.returns-clause-few
returns-clause-few c = (spelled_few c.args.dataset.now c.args.supervoxels.now c.args.edges.now (record { supervoxels = c.in-Ok.sorted; edges = c.ascending_edges.result }) (returns-clause-answers c)).0

pub returns-clause-few_edges : goal.returns-clause-few_edges
returns-clause-few_edges c = (spelled_few c.args.dataset.now c.args.supervoxels.now c.args.edges.now (record { supervoxels = c.in-Ok.sorted; edges = c.ascending_edges.result }) (returns-clause-answers c)).1
