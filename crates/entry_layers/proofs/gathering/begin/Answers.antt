use Rattle.std.proofs.Common.{ap, [], length, map, refl}
use Rattle.std.proofs.lemmas.List.Elements.{All-from_recursion}
use Rattle.op_model.specs.Chunks.{layers_from}
use Rattle.op_model.specs.Records.{total}
use Rattle.record_rows.specs.LogRows.{rows_of}
use Rattle.entry_parts.specs.Made.{IsPlacedChild, as_link, told_made}
use Rattle.entry_layers.proofs.gathering.begin.Goals as goal

pub returns : goal.returns
unfolding layers_from total
returns c d b log e = record {
  nodes = ap (map told_made) c.new.ensures.items;
  count = ap length c.new-2.ensures.items;
  spent = refl;
  links = λ o. record {
    links_are = ap (map (as_link e.number)) c.new-2.ensures.items;
    placed = rw (c.new-2.ensures.items) (All-from_recursion (IsPlacedChild (rows_of d b log) _) [] tt);
  };
}
