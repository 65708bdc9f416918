use Rattle.std.proofs.Common.{List, length, ◌∙◌, ap}
use Rattle.std.specs.List.{range_with_len}
use Rattle.op_model.specs.declared.base.Base.{Base}
use Rattle.op_model.specs.declared.entry.Entry.{Entry}
use Rattle.op_model.specs.Valid.{IsBase}
use Rattle.entry_parts.specs.Parts.{AreFirstsOf, IsPart}
use Rattle.part_layers.specs.Rising.{AreOwnFirsts}
use Rattle.part_layers.proofs.PartRises.{firsts_told, for_ok, own_firsts}
use Rattle.part_layers.proofs.rising.first_firsts.Goals as goal

pub returns-clause-own : goal.returns-clause-own
returns-clause-own c =
    let d = c.args.dataset.now in
    let p = c.args.part.now in
    for_ok _ (λ v. AreOwnFirsts d p 1 v.items) c.places.result
    (λ v e. own_firsts d p c.requires.dataset c.requires.part v.items (e ∙ ap (λ xs. range_with_len 0 (length xs)) c.ids_of.ensures)) c.places.ensures

pub returns-clause-are : goal.returns-clause-are
returns-clause-are c =
    let d = c.args.dataset.now in
    let p = c.args.part.now in
    for_ok _ (λ v. (b : Base) (log : List Entry) → IsBase d b → IsPart d b log p → AreFirstsOf d b log p.supervoxels 1 v.items) c.places.result
    (λ v e. firsts_told d p 1 v.items (own_firsts d p c.requires.dataset c.requires.part v.items (e ∙ ap (λ xs. range_with_len 0 (length xs)) c.ids_of.ensures))) c.places.ensures
