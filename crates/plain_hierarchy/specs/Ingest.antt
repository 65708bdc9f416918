-- Inner: no clause of `run` is made of it.
-- The nodes of the first entry.
use Rattle.std.specs.Prelude.{ℕ, ◌==◌, nat_le, List, length}
use Rattle.std.specs.List.{filter}
use Rattle.op_model.specs.declared.base.Dataset.{Dataset}
use Rattle.op_model.specs.declared.base.Base.{Base}
use Rattle.op_model.specs.Ingest.{ingested}
use Rattle.op_model.specs.Labels.{least}

-- those of a list of supervoxels that are the least of their nodes
abbrev pub firsts : Dataset → Base → ℕ → List ℕ → List ℕ
firsts d b layer among = filter (λ v. least d b (ingested d b 0) layer v == v) among

-- how many of a list are no greater
abbrev pub up_to : ℕ → List ℕ → ℕ
up_to last ids = length (filter (λ w. nat_le w last) ids)
