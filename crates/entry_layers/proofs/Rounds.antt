-- What is known of the layers at first, and with one layer more.
use Rattle.std.proofs.Common.{◌≡◌, ◌∙◌, ℕ, ◌+◌, ◌-◌, ◌<◌, ◌≤◌, true, List, [], ◌∷◌, ◌++◌, length, map, None, sym, ap, subst, arith}
use Rattle.std.proofs.lemmas.List.{map-append}
use Rattle.std.specs.List.{All}
use Rattle.std.proofs.lemmas.List.Elements.{All-from_recursion}
use Rattle.graph_model.specs.Lists.{has}
use Rattle.graph_model.proofs.ListLemmas.{has_none}
use Rattle.op_model.specs.declared.base.Base.{Base}
use Rattle.op_model.specs.declared.base.Dataset.{Dataset}
use Rattle.op_model.specs.declared.entry.Entry.{Entry}
use Rattle.op_model.specs.Chunks.{top}
use Rattle.op_model.specs.Ingest.{spent_in}
use Rattle.op_model.proofs.LinkLemmas.{append_right}
use Rattle.layer_laws.specs.Building.{at}
use Rattle.entry_parts.specs.declared.made.MadeNode.{MadeNode}
use Rattle.entry_parts.specs.Made.{AreMadeIn}
use Rattle.entry_parts.specs.Parts.{AreFirstsOf}
use Rattle.part_laws.proofs.PartLemmas.{whole}
use Rattle.made_nodes.specs.declared.layers.MadeLayer.{MadeLayer}
use Rattle.made_nodes.specs.Layers.{IsTouched}
use Rattle.made_links.specs.Children.{IsLinked}
use Rattle.entry_layers.specs.declared.gathering.EntryLayers.{EntryLayers}
use Rattle.entry_layers.specs.declared.layering.LayerBelow.{LayerBelow}
use Rattle.entry_layers.specs.Gathered.{AreGathered}
use Rattle.entry_layers.specs.Layering.{AreLayersTo, IsEntryList, IsEntryPart}
use Rattle.entry_layers.proofs.Holding.{whole_holds}

-- a part is such a list
pub part_list : (d : Dataset) (b : Base) (log : List Entry) (e : Entry) (words : List ℕ) (part : Base) (ends : List ℕ) → IsEntryPart d b log e words part ends → IsEntryList d b log e words part.supervoxels ends
part_list d b log e words part ends is = record {
  image = is.image;
  holds = λ layer two high.
      whole_holds d b is.image.dataset is.image.base e log is.image.legal layer two part.supervoxels ends (whole d b is.image.base (e ∷ log) part is.part_is) is.ends_at;
  ends_at = is.ends_at;
}

pub no_layers : (d : Dataset) (b : Base) (log : List Entry) (e : Entry) (ids : List ℕ) (all : EntryLayers) (x : LayerBelow) → AreGathered d b log e 0 all
    → AreFirstsOf d b (e ∷ log) ids 1 x.firsts.items → x.made.nodes.items ≡ [] → x.made.leasts.items ≡ [] → AreLayersTo d b log e ids 0 all x
no_layers d b log e ids all x gathered firsts nodes leasts = record {
  gathered = gathered;
  firsts_of = firsts;
  made = λ l. absurd (omega (arith, l));
  none = λ z. nodes;
  leasts = ap (map (at ids)) leasts ∙ sym (ap (map (λ (m : MadeNode). m.least)) nodes);
  places = subst (All (λ p. p < length ids)) (sym leasts) (All-from_recursion (λ p. p < length ids) [] tt);
  known = λ i h. has_none i (subst (λ (ms : List MadeNode). has (map (λ m. m.id) ms) i ≡ true) nodes h);
  room = λ o l. absurd (omega (arith, l));
}

module _ (d : Dataset) (b : Base) (log : List Entry) (e : Entry) (words ids ends : List ℕ) (is : IsEntryList d b log e words ids ends) (layer : ℕ) (two : 2 ≤ layer) (high : layer ≤ top d) where
  pub touched_is : (firsts : List ℕ) → AreFirstsOf d b (e ∷ log) ids layer firsts → IsTouched d b log e words ids ends layer firsts
  touched_is firsts here = let h = is.holds layer two high in record { image = is.image; ascending = h.ascending; known = h.known; ends_at = is.ends_at; firsts_of = here }

  pub touched_at : (fs firsts : List ℕ) → fs ≡ firsts → AreFirstsOf d b (e ∷ log) ids layer firsts → IsTouched d b log e words ids ends layer fs
  touched_at fs firsts told here = subst (IsTouched d b log e words ids ends layer) (sym told) (touched_is firsts here)

  module _ (all : EntryLayers) (below : LayerBelow) (to : AreLayersTo d b log e ids (layer - 2) all below) where
    under : layer - 2 + 1 ≡ layer - 1
    under = omega (arith, two)

    pub linked_is : (prefix : ℕ) (firsts : List ℕ) (made : MadeLayer) → prefix ≡ length log → AreFirstsOf d b (e ∷ log) ids layer firsts → AreMadeIn d b log e layer made.nodes.items
        → map (at ids) made.leasts.items ≡ map (λ m. m.least) made.nodes.items → All (λ p. p < length ids) made.leasts.items
        → IsLinked d b log e words prefix ids layer below.firsts.items below.made firsts made
    linked_is prefix firsts made n here are leasts places = record {
      below_is = record {
        image = is.image;
        prefix_is = n;
        holds = is.holds layer two high;
        firsts_of = subst (λ k. AreFirstsOf d b (e ∷ log) ids k below.firsts.items) under to.firsts_of;
        made = λ l. subst (λ k. AreMadeIn d b log e k below.made.nodes.items) under (to.made (omega (arith, l)));
        none = λ z. to.none (omega (arith, z));
        leasts = to.leasts;
        places = to.places;
      };
      firsts_of = here;
      made_are = are;
      made_leasts = leasts;
      made_places = places;
    }

    pub linked_at : (prefix : ℕ) (bs fs firsts : List ℕ) (made : MadeLayer) → prefix ≡ length log → bs ≡ below.firsts.items → fs ≡ firsts
        → AreFirstsOf d b (e ∷ log) ids layer firsts → AreMadeIn d b log e layer made.nodes.items
        → map (at ids) made.leasts.items ≡ map (λ m. m.least) made.nodes.items → All (λ p. p < length ids) made.leasts.items
        → IsLinked d b log e words prefix ids layer bs below.made fs made
    linked_at prefix bs fs firsts made n lower told here are leasts places =
        subst (λ xs. IsLinked d b log e words prefix ids layer xs below.made fs made) (sym lower)
        (subst (λ xs. IsLinked d b log e words prefix ids layer below.firsts.items below.made xs made) (sym told) (linked_is prefix firsts made n here are leasts places))

    -- where no chunk is spent so far, none of the layer below is
    pub room_below : all.spent ≡ None → 2 < layer → spent_in d b (e ∷ log) (layer - 1) ≡ None
    room_below o l = subst (λ k. spent_in d b (e ∷ log) k ≡ None) under (to.room o (omega (arith, l)))

    pub next_is : (new : EntryLayers) (x : LayerBelow) → AreFirstsOf d b (e ∷ log) ids layer x.firsts.items → AreMadeIn d b log e layer x.made.nodes.items
        → map (at ids) x.made.leasts.items ≡ map (λ m. m.least) x.made.nodes.items → All (λ p. p < length ids) x.made.leasts.items
        → x.made.spent ≡ spent_in d b (e ∷ log) layer → AreGathered d b log e (layer - 2 + 1) new → new.nodes.items ≡ all.nodes.items ++ x.made.nodes.items
        → (new.spent ≡ None → x.made.spent ≡ None) → AreLayersTo d b log e ids (layer - 1) new x
    next_is new x here are leasts places spent gathered nodes none = record {
      gathered = subst (λ k. AreGathered d b log e k new) under gathered;
      firsts_of = subst (λ k. AreFirstsOf d b (e ∷ log) ids k x.firsts.items) (sym over) here;
      made = λ l. subst (λ k. AreMadeIn d b log e k x.made.nodes.items) (sym over) are;
      none = λ z. absurd (omega (arith, z, two));
      leasts = leasts;
      places = places;
      known = λ i h.
          subst (λ xs. has xs i ≡ true) (sym (ap (map (λ (m : MadeNode). m.id)) nodes ∙ map-append (λ (m : MadeNode). m.id) all.nodes.items x.made.nodes.items))
          (append_right (map (λ (m : MadeNode). m.id) all.nodes.items) (map (λ (m : MadeNode). m.id) x.made.nodes.items) i h);
      room = λ o l. subst (λ k. spent_in d b (e ∷ log) k ≡ None) (sym over) (sym spent ∙ none o);
    }
      where
        over : layer - 1 + 1 ≡ layer
        over = omega (arith, two)
