-- A layer's least leaves of a part are those of the whole base.
use Rattle.std.proofs.Common.{◌≡◌, ℕ, List, length, subst, sym, Result, Ok, Err, IfOk}
use Rattle.std.specs.List.{range_with_len}
use Rattle.op_model.specs.declared.base.Dataset.{Dataset}
use Rattle.op_model.specs.declared.base.Base.{Base}
use Rattle.op_model.specs.declared.entry.Entry.{Entry}
use Rattle.op_model.specs.Ingest.{ingested}
use Rattle.op_model.specs.Valid.{IsBase, IsDataset}
use Rattle.layer_laws.proofs.BuildLemmas.{first_leaves}
use Rattle.entry_parts.specs.Parts.{AreFirstsOf, IsPart}
use Rattle.part_laws.proofs.PartLemmas.{told_firsts}
use Rattle.part_layers.specs.Rising.{AreOwnFirsts}

pub firsts_told : (d : Dataset) (part : Base) (layer : ℕ) (firsts : List ℕ) → AreOwnFirsts d part layer firsts
    → (b : Base) (log : List Entry) → IsBase d b → IsPart d b log part → AreFirstsOf d b log part.supervoxels layer firsts
firsts_told d part layer firsts own b log base is = told_firsts d b base log part is 0 layer firsts own

pub for_ok : {A E : Type 0} (P Q : A → Type 0) (r : Result A E) → ((x : A) → P x → Q x) → IfOk r P → IfOk r Q
for_ok P Q (Ok x) f p = f x p
for_ok P Q (Err e) f p = p

pub own_firsts : (d : Dataset) (part : Base) → IsDataset d → IsBase d part → (xs : List ℕ) → xs ≡ range_with_len 0 (length part.supervoxels) → AreOwnFirsts d part 1 xs
own_firsts d part valid base xs e =
    subst (λ ns. AreOwnFirsts d part 1 ns) (sym e) (first_leaves d part valid.layout base.ascending (ingested d part 0))
