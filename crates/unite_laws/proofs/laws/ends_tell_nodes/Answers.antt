use Rattle.unite_laws.proofs.UniteLemmas.{carried, same_by_firsts, lows_tell}
use Rattle.unite_laws.proofs.UniteIdLemmas.{touched_id, id_touched, told_by_ids, ids_rise, carried_ids, from_ends}
use Rattle.unite_laws.proofs.laws.ends_tell_nodes.Goals as goal

pub returns : goal.returns
returns c = record {
  told_by_ids = λ d b e log layer nodes pairs is legal hl two known are. told_by_ids d b is log legal layer hl two e.changed known nodes pairs are;
  touched_ids = λ d b e log layer w is legal hl two known hw. (
    (λ t. touched_id d b is log legal layer hl two e.changed known w hw t),
    (λ p. id_touched d b is log legal layer hl two e.changed known w p.0 hw p.1 p.2),
  );
  ids_rise = λ d b log layer u v is legal hl hm two low hu hv q. ids_rise d b is log legal layer hl hm two low u v hu hv q;
  from_ends = λ d b e log layer pairs same given f. from_ends d b log layer e.changed pairs same given f;
  carried = λ d b e log layer nodes pairs is two low g. carried d b is e.changed log layer two low nodes pairs g;
  carried_ids = λ d b e log layer nodes pairs is legal hl hm two low known ended g. carried_ids d b is log legal layer hl hm two low e.changed known nodes ended pairs g;
  same_by_firsts = λ n pairs places first i j hi hj q. same_by_firsts n pairs places first i j hi hj q;
  lows_tell = λ n pairs lows i j labels hi hj. lows_tell n pairs lows labels i j hi hj;
}
