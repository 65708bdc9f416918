use Rattle.std.proofs.Common.{◌≡◌, take}
use Rattle.united_layers.specs.Jointed.{joint_ids}
use Rattle.united_layers.proofs.listing.ids_of.Given as goal

abbrev pub invariant-loop-joint : goal.invariant-loop-joint
invariant-loop-joint l = l.list.items ≡ joint_ids (take l.joint-index l.joints)
