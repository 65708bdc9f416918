use Rattle.unite_laws.proofs.UniteLemmas.{links, unite_iff, nodes_iff, new_leaves, new_groups, new_least, new_least_of, new_least_is, new_chunk, new_made, new_children, new_firsts}
use Rattle.unite_laws.proofs.UniteIdLemmas.{child_ids}
use Rattle.unite_laws.proofs.laws.active_pairs_unite.Goals as goal

pub returns : goal.returns
returns c = record {
  links = λ d b e log u v is on. links d b is e log on u v;
  each = λ d b e log layer u v is on two low. unite_iff d b is e log on layer u v two low;
  joined = λ d b e log layer nodes pairs i j u v is ascends on two low are hi hj hu hv. nodes_iff d b is e log on ascends layer two low nodes pairs are i j u v hi hj hu hv;
  whole = λ d b e log layer nodes pairs i w is ascends on two low are h. new_leaves d b is e log on ascends layer two low nodes pairs are i w h;
  grouped = λ d b e log layer nodes pairs lows i j is ascends on two low are labels hi hj. new_groups d b is e log on ascends layer two low nodes pairs are lows labels i j hi hj;
  lowest = λ d b e log layer nodes pairs i j is ascends on two low are hi hj w. new_least d b is e log on ascends layer two low nodes pairs are i j hi hj w;
  lowest_of = λ d b e log layer nodes pairs i is ascends on two low are h. new_least_of d b is e log on ascends layer two low nodes pairs are i h;
  lowest_is = λ d b e log layer nodes pairs i j m is ascends on two low are hi hj w q f. new_least_is d b is e log on ascends layer two low nodes pairs are i j m hi hj w q f;
  one_chunk = λ d b e log layer nodes pairs i j is ascends on two low are hi hj w. new_chunk d b is e log on ascends layer two low nodes pairs are i j hi hj w;
  made = λ d b e log layer nodes pairs v is ascends on two low are hv. new_made d b is e log on ascends layer two low nodes pairs are v hv;
  below = λ d b e log layer nodes pairs i w is ascends on two low are h. new_children d b is e log on ascends layer two low nodes pairs are i w h;
  child_ids = λ d b e f log layer nodes pairs i id is ascends on legal hl three low known are h. child_ids d b is ascends e f log on legal layer hl three low known nodes pairs are i id h;
  firsts = λ d b e f log layer c nodes pairs lows is ascends on two low are a given. new_firsts d b is ascends e f log on layer two low nodes pairs are c lows a given;
}
