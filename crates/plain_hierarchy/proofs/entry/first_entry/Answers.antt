use Rattle.std.proofs.Common.{◌∙◌, ap}
use Rattle.op_model.specs.Operations.{ascending}
use Rattle.plain_hierarchy.proofs.Ingests.{entry_ingested}
use Rattle.plain_hierarchy.proofs.entry.first_entry.Goals as goal

pub returns : goal.returns
returns c =
    c.ingest.ensures ∙ entry_ingested c.args.dataset.now c.args.base.now c.args.at c.ascending_ids-made.result.items
    (c.ascending_ids-made.ensures ∙ ap ascending c.in_ok-all.ensures)
