-- An edge as a link between places.
use Rattle.std.proofs.Common.{◌≡◌, ℕ, List, Option, ◌∙◌, ap}
use Rattle.op_model.specs.declared.base.Edge.{Edge}
use Rattle.graph_model.specs.Wires.{Wire}
use Rattle.op_model.specs.Cuts.{link_of, room_of}
use Rattle.split_net.specs.Parts.{id_at}

pub link_named : (leaves : List ℕ) (a b : ℕ) (r : Option ℕ) (e : Edge) → id_at leaves a ≡ e.pair.a → id_at leaves b ≡ e.pair.b → r ≡ room_of e.weight
    → (let w : Wire = record { a = id_at leaves a; b = id_at leaves b; room = r } in w) ≡ link_of e
unfolding link_of
link_named leaves a b r e p q s =
    ap (λ x. let w : Wire = record { a = x; b = id_at leaves b; room = r } in w) p
    ∙ (ap (λ x. let w : Wire = record { a = e.pair.a; b = x; room = r } in w) q
    ∙ ap (λ x. let w : Wire = record { a = e.pair.a; b = e.pair.b; room = x } in w) s)
