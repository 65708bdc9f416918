use Rattle.std.proofs.Common.{◌≡◌, ℕ, ◌<◌, false, length, get_or, take}
use Rattle.graph_model.specs.Lists.{has}
use Rattle.flow_net.proofs.joined.mark_sources.Given as goal

abbrev pub invariant-loop-s : goal.invariant-loop-s
invariant-loop-s l = record {
  len : length l.seen ≡ length l.initial.seen;
  marks : (v : ℕ) → v < length l.seen → get_or l.seen v false ≡ has (take l.s-index l.sources) v;
}
