use Rattle.std.proofs.Common.{sym, subst, refl}
use Rattle.std.specs.Result.{IsOk}
use Rattle.split_net.proofs.Placing.{found}
use Rattle.split_net.proofs.places.place_of.Goals as goal

pub unwrap-requires : goal.unwrap-requires
unwrap-requires c =
    let f = found c.args.leaves.now c.args.id c.requires.rising c.requires.among c.binary_search.result c.binary_search.ensures.position in
    subst IsOk (sym f.1) refl
