-- What readers of words need: of a built base's, and of the sample's.
use Rattle.std.proofs.Common.{◌≡◌, ℕ, ◌<◌, List, [], ◌∷◌, length, sym, subst, arith}
use Rattle.op_model.specs.declared.base.Dataset.{Dataset}
use Rattle.op_model.specs.declared.base.Base.{Base}
use Rattle.op_model.specs.declared.entry.Entry.{Entry}
use Rattle.op_model.specs.Samples.{base, data_a, regained}
use Rattle.record_rows.specs.Readings.{Image, ParentImage}
use Rattle.record_rows.proofs.ImageFacts.{parent_image}
use Rattle.row_tests.specs.Samples.{words_regained}
use Rattle.row_tests.proofs.SampleImages.{regained_image}
use Rattle.row_tests.specs.Logs.{HoldsLog, IsBuilt, TellsLog}

pub told_parents : (words : List ℕ) → TellsLog words → (d : Dataset) × (b : Base) × (log : List Entry) × ParentImage d b log words
told_parents words i = (i.d, i.b, i.log, i.image)

pub built_tells : (words : List ℕ) → IsBuilt words → TellsLog words
built_tells words i = record { d = i.d; b = i.b; log = i.entry ∷ []; image = parent_image i.d i.b (i.entry ∷ []) words i.image }

pub built_entry : (words : List ℕ) → IsBuilt words → (d : Dataset) × (b : Base) × (log : List Entry) × Image d b log words × (0 < length log)
built_entry words i = (i.d, i.b, i.entry ∷ [], i.image, omega arith)

pub regained_tells : (words : List ℕ) → words ≡ words_regained → TellsLog words
regained_tells words e = record { d = data_a; b = base; log = regained; image = subst (ParentImage data_a base regained) (sym e) (parent_image data_a base regained words_regained regained_image) }

pub held_log : (words : List ℕ) → HoldsLog words → (d : Dataset) × (b : Base) × (log : List Entry) × Image d b log words
held_log words i = (i.d, i.b, i.log, i.image)

pub regained_holds : (words : List ℕ) → words ≡ words_regained → HoldsLog words
regained_holds words e = record { d = data_a; b = base; log = regained; image = subst (Image data_a base regained) (sym e) regained_image }
