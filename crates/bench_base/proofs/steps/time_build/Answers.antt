use Rattle.op_model.specs.Ingest.{ingested}
use Rattle.record_rows.proofs.ImageFacts.{parent_image}
use Rattle.bench_base.proofs.steps.time_build.Goals as goal

pub returns : goal.returns
returns g c =
    let d = c.args.dataset.now in
    let b = c.args.base.now in
    (d, b, ingested d b 1, parent_image d b _ _ c.in-Ok.ensures.image)
