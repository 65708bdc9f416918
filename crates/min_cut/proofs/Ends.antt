-- What a link leads to from one of its ends.
use Rattle.std.proofs.Common.{◌≡◌, ℕ, ◌<◌, ◌≤◌, List, length, ℤ, sym, ap, ◌∙◌, inl, inr, ◌⊎◌, ◌↔◌}
use Rattle.flow_net.specs.declared.Link.{Link}
use Rattle.flow_net.specs.Net.{wire_of}
use Rattle.graph_model.specs.Wires.{Wire, wire}
use Rattle.graph_model.specs.Flows.{amount}
use Rattle.graph_model.specs.Residual.{RoomForth, RoomBack}
use Rattle.min_cut.specs.Tree.{CanForth, CanBack, ArcOver, Leads}

module _ (ws : List Wire) (fs : List ℤ) (k from room : ℕ) (l : Link) (is : wire ws k ≡ wire_of l) where
  pub leads_forth : k < length ws → l.a ≡ from → CanForth (wire ws k).room (amount fs k) room → (0 < room) ↔ RoomForth (wire ws k).room (amount fs k)
      → room ≤ 8589934592 → Leads ws fs k from l.b room
  leads_forth below e can some narrow = record {
    way = inl (ap (λ (w : Wire). w.a) is ∙ e, ap (λ (w : Wire). w.b) is, can, some.0);
    below = below;
    narrow = narrow;
  }

  pub leads_back : k < length ws → l.b ≡ from → CanBack (wire ws k).room (amount fs k) room → (0 < room) ↔ RoomBack (wire ws k).room (amount fs k)
      → room ≤ 8589934592 → Leads ws fs k from l.a room
  leads_back below e can some narrow = record {
    way = inr (ap (λ (w : Wire). w.b) is ∙ e, ap (λ (w : Wire). w.a) is, can, some.0);
    below = below;
    narrow = narrow;
  }

  pub only_forth : l.a ≡ from → (0 < room) ↔ RoomForth (wire ws k).room (amount fs k) → (w : ℕ) → ArcOver ws fs k from w → (w ≡ from) ⊎ ((w ≡ l.b) × (0 < room))
  only_forth e some w (inl (a, b, r)) = inr (sym b ∙ ap (λ (w : Wire). w.b) is, some.1 r)
  only_forth e some w (inr (b, a, r)) = inl (sym a ∙ (ap (λ (w : Wire). w.a) is ∙ e))

  pub only_back : l.b ≡ from → (0 < room) ↔ RoomBack (wire ws k).room (amount fs k) → (w : ℕ) → ArcOver ws fs k from w → (w ≡ from) ⊎ ((w ≡ l.a) × (0 < room))
  only_back e some w (inl (a, b, r)) = inl (sym b ∙ (ap (λ (w : Wire). w.b) is ∙ e))
  only_back e some w (inr (b, a, r)) = inr (sym a ∙ ap (λ (w : Wire). w.a) is, some.1 r)
