use Rattle.std.proofs.Common.{false}
use Rattle.op_model.specs.declared.entry.Changed.{Changed}
use Rattle.touched_part.proofs.ChangedPlaces.{found_changed}
use Rattle.touched_part.proofs.edging.is_changed.Goals as goal

none : Changed
none = record { pair = record { a = 0; b = 0 }; active = false }

pub returns : goal.returns
returns c = found_changed c.args.changed.now c.args.pair.now c.place_for-at.result c.stands_at.result none c.requires c.place_for-at.ensures.low c.place_for-at.ensures.high (c.stands_at.ensures none)
