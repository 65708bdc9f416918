use Rattle.std.proofs.Common.{◌≡◌, map, take}
use Rattle.united_layers.specs.Jointed.{placed}
use Rattle.united_layers.proofs.listing.placed.Given as goal

abbrev pub invariant-loop-joint : goal.invariant-loop-joint
invariant-loop-joint l = l.list.items ≡ map (placed l.ids) (take l.joint-index l.joints)
