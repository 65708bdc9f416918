-- What an entry is made of, from what the log, the paths and the layers tell.
use Rattle.std.proofs.lemmas.Bool.{eqb-true, false≢true}
use Rattle.std.proofs.Common.{◌≡◌, ℕ, ◌+◌, leb, true, false, eqb, eq-eqb, get_or, List, [], ◌∷◌, length, map, Option, Some, None, option_map, refl, sym, ◌∙◌, ap, subst, arith}
use Rattle.std.specs.List.{AllByRecursion, find, flat_map}
use Rattle.std.specs.Option.{option_map_or}
use Rattle.node_ids.specs.Ids.{segments}
use Rattle.op_model.specs.declared.base.Dataset.{Dataset}
use Rattle.op_model.specs.declared.base.Base.{Base}
use Rattle.op_model.specs.declared.entry.Asked.TheVariants as asked
use Rattle.op_model.specs.declared.entry.Changed.{Changed}
use Rattle.op_model.specs.declared.entry.Entry.{Entry}
use Rattle.op_model.specs.declared.request.Edit.{Edit}
use Rattle.op_model.specs.declared.reply.Refusal.{Refusal}
use Rattle.op_model.specs.Chunks.{chunk, layers}
use Rattle.op_model.specs.Cuts.{PairsAscend}
use Rattle.op_model.specs.Edges.{edges_after}
use Rattle.op_model.specs.Labels.{component, edges, is_new, label, least, new_among, node, rank, root, used}
use Rattle.op_model.specs.Laws.{IsKnown}
use Rattle.op_model.specs.Legal.{Legal, LegalPlan}
use Rattle.op_model.specs.Operations.{ascending, change, ends, entry_of, next_entry}
use Rattle.op_model.specs.Records.{child_count, entry_records, items, made_count, need, unknown_count}
use Rattle.op_model.specs.Refusals.{refuse_first}
use Rattle.record_rows.specs.LogRows.{new_nodes}
use Rattle.record_rows.specs.Readings.{Image}
use Rattle.record_rows.proofs.CountLemmas.{nodes_count}
use Rattle.record_rows.proofs.ImageFacts.{parent_image}
use Rattle.record_rows.proofs.ImageLemmas.{length-map}
use Rattle.entry_parts.specs.Made.{told_made, told_node}
use Rattle.entry_parts.specs.Parts.{AreEndsAt, IsPart}
use Rattle.entry_rows.specs.Retiring.{AreOnPaths}
use Rattle.touched_paths.specs.declared.paths.OldPaths.{OldPaths}
use Rattle.entry_layers.specs.declared.gathering.EntryLayers.{EntryLayers}
use Rattle.entry_layers.specs.declared.gathering.SpentChunk.{SpentChunk}
use Rattle.entry_layers.specs.Gathered.{AreEntryLayers, is_spent, layer_places, told_spent}
use Rattle.entry_layers.specs.Layering.{IsEntryPart}
use Rattle.hierarchy_edit.specs.declared.standing.LogState.{LogState}
use Rattle.edge_rows.proofs.PairOrder.{changed_ascend}
use Rattle.unite_laws.specs.Uniting.{HaveState}
use Rattle.unite_laws.proofs.StateLemmas.{edit_state}
use Rattle.hierarchy_edit.specs.Listed.{IsListed, IsLogState, is_uniting, refuse_chunk, refuse_ids}
use Rattle.hierarchy_edit.proofs.PlanKnown.{plan_known}

-- an entry that changes these pairs
pub some_entry : List Changed → Entry
some_entry changed = record { number = 0; client = 0; line = 0; at = 0; asked = asked.Ingest; changed = changed; retired = []; made = [] }

pub some_changed : (changed : List Changed) → (some_entry changed).changed ≡ changed
unfolding some_entry
some_changed changed = refl

pub entry_part : (d : Dataset) (b : Base) (log : List Entry) (e : Entry) (words : List ℕ) (part : Base) (places : List ℕ) (changed : List Changed) → Image d b log words → IsPart d b (e ∷ log) part → AreEndsAt part.supervoxels changed places
    → e.changed ≡ changed → IsEntryPart d b log e words part places
entry_part d b log e words part places changed image part_is at q = record {
  image = parent_image d b log words image;
  part_is = part_is;
  ends_at = subst (λ cs. AreEndsAt part.supervoxels cs places) (sym q) at;
}

-- the first of some changed pairs tells
pub first_tells : (cs : List Changed) (x : Changed) → eqb (length cs) 0 ≡ false → (get_or cs 0 x).active ≡ is_uniting cs
unfolding is_uniting
first_tells [] x e = absurd (false≢true (sym e ∙ eq-eqb 0 0 refl))
first_tells (c ∷ more) x e = refl

pub none_unite : (cs : List Changed) → eqb (length cs) 0 ≡ true → false ≡ is_uniting cs
unfolding is_uniting
none_unite [] e = refl
none_unite (c ∷ more) e = absurd (let z : length (c ∷ more) ≡ 0 = eqb-true (length (c ∷ more)) 0 e in omega (arith, z))

-- a plan whose first pair becomes active makes all of its pairs active
pub uniting_state : (d : Dataset) (b : Base) (log : List Entry) (edit : Edit) (changed : List Changed) → Legal d b log → LegalPlan d b log edit changed → is_uniting changed ≡ true → HaveState true changed
unfolding is_uniting
uniting_state d b log edit [] legal plan t = absurd (false≢true t)
uniting_state d b log edit (c ∷ more) legal plan t =
    subst (λ on. HaveState on (c ∷ more)) t (subst (HaveState c.active) (sym plan.2) (edit_state d b log edit c more legal (sym plan.2)))

as_option : {A B : Type 0} (f : A → B) (o : Option A) → option_map_or (λ x. Some (f x)) o None ≡ option_map f o
as_option f None = refl
as_option f (Some x) = refl

no_spent : (d : Dataset) (s : Option SpentChunk) → option_map (refuse_chunk d) (told_spent s) ≡ None → s ≡ None
no_spent d None e = refl
no_spent d (Some s) e = cc

module _ (d : Dataset) (b : Base) (log : List Entry) (edit : Edit) where
  abbrev first : Entry
  first = next_entry d b log 0 0 0 edit

  changed_is : (client line at : ℕ) → (next_entry d b log client line at edit).changed ≡ change d b log edit
  unfolding next_entry entry_of
  changed_is client line at = refl

  asked_is : first.asked ≡ asked.Edit edit
  unfolding next_entry entry_of
  asked_is = refl

  retired_is : first.retired ≡ ascending (map (root d b log) (ends (change d b log edit)))
  unfolding next_entry entry_of
  retired_is = refl

  made_is : ascending (map (root d b (first ∷ log)) (ends first.changed)) ≡ first.made
  unfolding next_entry entry_of root node label rank used new_among least is_new component edges edges_after
  made_is = refl

  need_parts : need d b log edit ≡ 1 + items first.asked + length first.changed + unknown_count d b log first.changed + made_count d b (first ∷ log) + child_count d b (first ∷ log)
  unfolding need entry_records
  need_parts = refl

  spent_is : refuse_ids d b log edit ≡ option_map (refuse_chunk d) (find (is_spent d b (first ∷ log)) (flat_map (layer_places d b) (layers d)))
  unfolding refuse_first layer_places
  spent_is = as_option (refuse_chunk d) (find (λ c. leb (segments d.layout c.0) (used d b (first ∷ log) c.0 c.1)) (flat_map (λ layer. map (λ c. (layer, c)) (ascending (map (chunk d layer) b.supervoxels))) (layers d)))

  module _ (changed : List Changed) (words : List ℕ) (image : Image d b log words) (plan : LegalPlan d b log edit changed) where
    pub own_changed : (client line at : ℕ) → (next_entry d b log client line at edit).changed ≡ changed
    own_changed client line at = changed_is client line at ∙ sym plan.2

    pub known_pairs : AllByRecursion (λ (c : Changed). IsKnown b c.pair) changed
    known_pairs = plan_known d b log edit changed image.base image.legal plan

    pub pairs_ascend : PairsAscend (map (λ (c : Changed). c.pair) changed)
    pairs_ascend = subst (λ cs. PairsAscend (map (λ (c : Changed). c.pair) cs)) (sym plan.2) (changed_ascend d b log edit image.legal)

    module _ (x : EntryLayers) (all : (e : Entry) → e.changed ≡ changed → AreEntryLayers d b log e x) where
      abbrev own : AreEntryLayers d b log first x
      own = all first (own_changed 0 0 0)

      nodes_are : length x.nodes.items ≡ made_count d b (first ∷ log)
      nodes_are =
          sym (length-map told_made x.nodes.items) ∙ (ap length own.nodes ∙ (length-map told_node (new_nodes d b (first ∷ log) first.number) ∙ nodes_count d b image.dataset image.base (first ∷ log) first.number))

      needed : need d b log edit ≡ 1 + items (asked.Edit edit) + length changed + unknown_count d b log changed + length x.nodes.items + length x.links.items
      needed =
          let a : items first.asked ≡ items (asked.Edit edit) = ap items asked_is in
          let l : length first.changed ≡ length changed = ap length (own_changed 0 0 0) in
          let u : unknown_count d b log first.changed ≡ unknown_count d b log changed = ap (unknown_count d b log) (own_changed 0 0 0) in
          let m : length x.nodes.items ≡ made_count d b (first ∷ log) = nodes_are in
          let k : length x.links.items ≡ child_count d b (first ∷ log) = own.count in
          let p = need_parts in
          omega (arith, p, a, l, u, m, k)

      told_refusal : option_map (refuse_chunk d) (told_spent x.spent) ≡ refuse_ids d b log edit
      told_refusal = ap (option_map (refuse_chunk d)) own.spent ∙ sym spent_is

      pub is_listed : (state : LogState) (count : ℕ) (paths : OldPaths) (spent : Option Refusal) → IsLogState d b log changed state
          → count ≡ 1 + items (asked.Edit edit) + length changed + state.unknown + length x.nodes.items + length x.links.items → spent ≡ option_map (refuse_chunk d) (told_spent x.spent)
          → paths.roots ≡ ascending (map (root d b log) (ends changed)) → ((e : Entry) → e.changed ≡ changed → AreOnPaths d b log e paths.places.items)
          → IsListed d b log edit (record {
            number = state.number;
            last = state.last;
            need = count;
            spare = state.spare;
            spent = spent;
            retired = paths.roots;
            made = x.roots;
            nodes = x.nodes;
            links = x.links;
            places = paths.places;
          })
      is_listed state count paths spent is c s r on = record {
        number = is.number;
        last = is.last;
        needed = (let n = needed in let u = is.unknown in omega (arith, n, u, c));
        left = is.left;
        spent = s ∙ told_refusal;
        retired = r ∙ (ap (λ cs. ascending (map (root d b log) (ends cs))) plan.2 ∙ sym retired_is);
        made = own.roots ∙ made_is;
        nodes = λ client line at. (all (next_entry d b log client line at edit) (own_changed client line at)).nodes;
        links = λ client line at none. (all (next_entry d b log client line at edit) (own_changed client line at)).links (no_spent d x.spent (told_refusal ∙ none));
        places = λ client line at. on (next_entry d b log client line at edit) (own_changed client line at);
      }
