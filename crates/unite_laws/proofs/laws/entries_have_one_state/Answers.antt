use Rattle.unite_laws.proofs.StateLemmas.{edit_state, legal_state, first_state}
use Rattle.unite_laws.proofs.laws.entries_have_one_state.Goals as goal

pub returns : goal.returns
returns c = record {
  one = λ d b log legal. legal_state d b log legal;
  told_by_first = λ d b e log c more legal q. first_state d b e log c more legal q;
  edits_too = λ d b log edit c more legal q. edit_state d b log edit c more legal q;
}
