-- What holds of each legal log at its published times.
use Rattle.std.proofs.Common.{◌≡◌, arith, ◌∷◌, ◌++◌, sym, ◌∙◌, ap, subst}
use Rattle.op_model.specs.Labels.{Joined, node}
use Rattle.op_model.specs.Refusals.{prefix_at}
use Rattle.op_model.specs.Legal.{Legal}
use Rattle.op_model.proofs.HistoryLemmas.{node_stays}
use Rattle.op_model.proofs.RootLemmas.{roots_joined}
use Rattle.histories.specs.Histories.{IdsStay, LeavesAreJoined, LiveRootsAreCounted, OfEachLog, RootsAreJoined}
use Rattle.histories.proofs.Leaves.{leaves_joined}
use Rattle.histories.proofs.Live.{counted}
use Rattle.histories.proofs.Prefixes.{legal_to, newer_to, some_to}

pub roots_are_joined : OfEachLog RootsAreJoined
roots_are_joined d b log valid base legal t u v early late hu hv = roots_joined d b valid base (prefix_at log t) u v (legal_to d b t log legal early) hu hv

pub leaves_are_joined : OfEachLog LeavesAreJoined
leaves_are_joined d b log valid base legal t v w early late hv = leaves_joined d b valid base (prefix_at log t) v w (legal_to d b t log legal early) hv

-- a node that has an id at one time and at a later one kept it in between
pub ids_stay : OfEachLog IdsStay
ids_stay d b log valid base legal s t u layer v w early mid late end hl hv hw same =
    let p = some_to d b s log legal early in
    let n = newer_to d b s t log legal mid in
    let m = newer_to d b t u log legal late in
    let at_t : prefix_at log t ≡ n.0 ++ p.0 ∷ p.1 = n.1 ∙ ap (λ xs. n.0 ++ xs) p.2 in
    let at_u : prefix_at log u ≡ m.0 ++ (n.0 ++ p.0 ∷ p.1) = m.1 ∙ ap (λ xs. m.0 ++ xs) at_t in
    let now = sym (ap (λ x. node d b x layer v) p.2) ∙ (same ∙ ap (λ x. node d b x layer w) at_u) in
    let stays = node_stays d b m.0 n.0 p.0 p.1 layer v w valid.layout (subst (Legal d b) at_u (legal_to d b u log legal (omega (arith, early, mid, late)))) hl hv hw now in
    (ap (λ x. node d b x layer v) at_t ∙ (stays.0 ∙ sym (ap (λ x. node d b x layer v) p.2)), subst (λ x. Joined d b x layer v w) (sym at_u) stays.1)

pub live_roots_are_counted : LiveRootsAreCounted
live_roots_are_counted d b e log valid base legal = counted d b valid base e log legal
