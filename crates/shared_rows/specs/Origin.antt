-- Inner: no clause of `run` is made of it.
-- What the table is told when it is made.
use Rattle.std.specs.Prelude.{ℕ, List}
use Rattle.op_model.specs.declared.base.Dataset.{Dataset}
use Rattle.op_model.specs.declared.base.Base.{Base}
use Rattle.op_model.specs.declared.entry.Entry.{Entry}

-- the dataset and the base, the log at the start, the words of its records, and how many these records are
pub record Origin : Type 0 where
  pub dataset : Dataset
  pub base : Base
  pub log : List Entry
  pub words : List ℕ
  pub tail : ℕ

abbrev pub origin : Dataset → Base → List Entry → List ℕ → ℕ → Origin
origin dataset base log words tail = record { dataset = dataset; base = base; log = log; words = words; tail = tail }
