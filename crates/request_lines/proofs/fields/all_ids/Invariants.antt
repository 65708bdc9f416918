use Rattle.std.proofs.Common.{◌≡◌, drop}
use Rattle.serde_json.specs.View.{items_view}
use Rattle.request_lines.specs.Fields.{all_in, id_in}
use Rattle.request_lines.proofs.Listed.{behind}
use Rattle.request_lines.proofs.fields.all_ids.Given as goal

abbrev pub invariant-loop-item : goal.invariant-loop-item
invariant-loop-item l = behind l.list.items (all_in id_in (items_view (drop l.item-index l.items))) ≡ all_in id_in (items_view l.items)
