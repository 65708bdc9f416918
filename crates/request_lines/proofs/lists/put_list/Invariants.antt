use Rattle.std.proofs.Common.{◌≡◌, ℕ, List, ◌++◌, map, codes, drop}
use Rattle.request_lines.specs.Sent.{Puts}
use Rattle.request_lines.specs.Json.{array}
use Rattle.request_lines.proofs.Listing.{continuing}
use Rattle.request_lines.proofs.lists.put_list.Given as goal

abbrev pub invariant-loop-i : goal.invariant-loop-i
invariant-loop-i g l =
    (done : List ℕ) × Puts (g.K.Sink.state l.fn.out) (g.K.Sink.state l.out) l.fn.page l.page done
    × (array (map g.T.Written.text l.list) ≡ done ++ continuing l.i (map g.T.Written.text (drop l.i l.list)) (codes "]"))
