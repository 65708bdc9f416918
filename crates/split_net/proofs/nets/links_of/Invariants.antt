use Rattle.std.proofs.Common.{◌≡◌, length, map, take}
use Rattle.op_model.specs.Cuts.{link_of}
use Rattle.split_net.specs.Parts.{AreBelow, named}
use Rattle.split_net.proofs.nets.links_of.Given as goal

abbrev pub invariant-loop-at : goal.invariant-loop-at
invariant-loop-at l = record {
  named : map (named l.leaves) l.links.items ≡ map link_of (take l.at l.part);
  below : AreBelow (length l.leaves) l.links.items;
}
