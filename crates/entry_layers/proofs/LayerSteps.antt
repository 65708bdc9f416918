-- One layer more.
use Rattle.std.proofs.Common.{◌≡◌, ◌∙◌, ℕ, zero, suc, ◌+◌, Bool, true, false, cond, List, [], ◌∷◌, ◌++◌, length, map, length-append, Option, Some, None, refl, sym, ap, subst, arith}
use Rattle.std.specs.Prelude.{option_map}
use Rattle.std.specs.Option.{option_or}
use Rattle.std.specs.List.{All, find, flat_map}
use Rattle.std.proofs.lemmas.List.{append-nil, map-append}
use Rattle.std.proofs.lemmas.List.Elements.{All-append, All-from_recursion, recursion_from_All}
use Rattle.std.proofs.lemmas.List.Folds.{find-append}
use Rattle.std.proofs.lemmas.Grind.{flat_map-append}
use Rattle.std.proofs.lemmas.Bool.{or_left}
use Rattle.graph_model.specs.Lists.{has}
use Rattle.graph_model.proofs.Computed.{has_append}
use Rattle.op_model.specs.declared.base.Base.{Base}
use Rattle.op_model.specs.declared.base.Dataset.{Dataset}
use Rattle.op_model.specs.declared.entry.Entry.{Entry}
use Rattle.op_model.specs.Chunks.{layers_from}
use Rattle.op_model.specs.Ingest.{spent_in}
use Rattle.op_model.specs.Records.{total}
use Rattle.op_model.proofs.RefusalLemmas.{all_map}
use Rattle.record_rows.specs.Rows.{Row}
use Rattle.record_rows.specs.LogRows.{layer_nodes, links_of, rows_of}
use Rattle.entry_parts.specs.declared.made.MadeLink.{MadeLink}
use Rattle.entry_parts.specs.declared.made.MadeNode.{MadeNode}
use Rattle.entry_parts.specs.Made.{AreLinksIn, AreMadeIn, IsPlacedChild, as_link, told_made, told_node}
use Rattle.entry_layers.specs.declared.gathering.EntryLayers.{EntryLayers}
use Rattle.entry_layers.specs.Gathered.{AreGathered, children_in, is_spent, layer_places, told_spent}

pub layers_more : (layer n : ℕ) → layers_from layer (suc n) ≡ layers_from layer n ++ (layer + n) ∷ []
unfolding layers_from
layers_more layer zero = let e : layer ≡ layer + 0 = omega arith in ap (λ k. k ∷ []) e
layers_more layer (suc n) =
    let e : layer + 1 + n ≡ layer + suc n = omega arith in
    ap (λ ks. layer ∷ ks) (layers_more (layer + 1) n ∙ ap (λ k. layers_from (layer + 1) n ++ k ∷ []) e)

pub to_layer : (n layer : ℕ) → n + 2 ≡ layer → layers_from 2 (n + 1) ≡ layers_from 2 n ++ layer ∷ []
to_layer n layer e =
    let s : n + 1 ≡ suc n = omega arith in
    let t : 2 + n ≡ layer = omega (arith, e) in
    ap (layers_from 2) s ∙ (layers_more 2 n ∙ ap (λ k. layers_from 2 n ++ k ∷ []) t)

pub lists_more : {A : Type 0} (f : ℕ → List A) (n layer : ℕ) → n + 2 ≡ layer → flat_map f (layers_from 2 (n + 1)) ≡ flat_map f (layers_from 2 n) ++ f layer
lists_more f n layer e = ap (flat_map f) (to_layer n layer e) ∙ (flat_map-append f (layers_from 2 n) (layer ∷ []) ∙ ap (λ xs. flat_map f (layers_from 2 n) ++ xs) (append-nil (f layer)))

total_more : (f : ℕ → ℕ) (xs : List ℕ) (x : ℕ) → total (map f (xs ++ x ∷ [])) ≡ total (map f xs) + f x
unfolding total
total_more f [] x = omega arith
total_more f (y ∷ xs) x = omega (arith, total_more f xs x)

totals_more : (f : ℕ → ℕ) (n layer : ℕ) → n + 2 ≡ layer → total (map f (layers_from 2 (n + 1))) ≡ total (map f (layers_from 2 n)) + f layer
totals_more f n layer e = ap (λ ls. total (map f ls)) (to_layer n layer e) ∙ total_more f (layers_from 2 n) layer

-- the first of some pairs with one number in front is that of the others with it in front
find_paired : (test : ℕ × ℕ → Bool) (layer : ℕ) (cs : List ℕ) → find test (map (λ c. (layer, c)) cs) ≡ option_map (λ c. (layer, c)) (find (λ c. test (layer, c)) cs)
find_paired test layer [] = refl
find_paired test layer (c ∷ cs) = go (test (layer, c)) (find_paired test layer cs)
  where
    go : (t : Bool) → find test (map (λ c. (layer, c)) cs) ≡ option_map (λ c. (layer, c)) (find (λ c. test (layer, c)) cs)
        → cond t (Some (layer, c)) (find test (map (λ c. (layer, c)) cs)) ≡ option_map (λ c. (layer, c)) (cond t (Some c) (find (λ c. test (layer, c)) cs))
    go true ih = refl
    go false ih = ih

weaken : {X : Type 0} (P Q : X → Type 0) (xs : List X) → ((x : X) → P x → Q x) → All P xs → All Q xs
weaken P Q xs f a = All-from_recursion Q xs (all_map P Q xs f (recursion_from_All P xs a))

has_front : (xs ys : List ℕ) (i : ℕ) → has xs i ≡ true → has (xs ++ ys) i ≡ true
has_front xs ys i h = has_append xs ys i ∙ or_left (has xs i) (has ys i) h

placed_more : (rows : List Row) (made more : List ℕ) (x : MadeLink) → ((i : ℕ) → has made i ≡ true → has more i ≡ true) → IsPlacedChild rows made x → IsPlacedChild rows more x
placed_more rows made more x f is = record { new = λ e. f x.child (is.new e); kept = is.kept }

module _ (d : Dataset) (b : Base) (log : List Entry) (e : Entry) where
  spent_more : (n layer : ℕ) (o : Option (ℕ × ℕ)) (c : Option ℕ) → n + 2 ≡ layer → o ≡ find (is_spent d b (e ∷ log)) (flat_map (layer_places d b) (layers_from 2 n)) → c ≡ spent_in d b (e ∷ log) layer
      → option_or o (option_map (λ k. (layer, k)) c) ≡ find (is_spent d b (e ∷ log)) (flat_map (layer_places d b) (layers_from 2 (n + 1)))
  unfolding layer_places spent_in
  spent_more n layer o c s p q =
      rw (p, q) (sym (
      ap (find (is_spent d b (e ∷ log))) (lists_more (layer_places d b) n layer s)
      ∙ (find-append (is_spent d b (e ∷ log)) (flat_map (layer_places d b) (layers_from 2 n)) (layer_places d b layer)
      ∙ ap (option_or (find (is_spent d b (e ∷ log)) (flat_map (layer_places d b) (layers_from 2 n)))) (find_paired (is_spent d b (e ∷ log)) layer _))
      ))

  pub gathered : (n layer : ℕ) (old new : EntryLayers) (ms below : List MadeNode) (ls : List MadeLink) (c : Option ℕ) → n + 2 ≡ layer → AreGathered d b log e n old
      → AreMadeIn d b log e layer ms → c ≡ spent_in d b (e ∷ log) layer → length ls ≡ children_in d b log e layer → (old.spent ≡ None → AreLinksIn d b log e layer below ls)
      → ((i : ℕ) → has (map (λ m. m.id) below) i ≡ true → has (map (λ m. m.id) old.nodes.items) i ≡ true)
      → new.nodes.items ≡ old.nodes.items ++ ms → new.links.items ≡ old.links.items ++ ls → told_spent new.spent ≡ option_or (told_spent old.spent) (option_map (λ k. (layer, k)) c)
      → (new.spent ≡ None → old.spent ≡ None)
      → AreGathered d b log e (n + 1) new
  gathered n layer old new ms below ls c s is made spent count linked known nodes links told none = record {
    nodes =
        ap (map told_made) nodes
        ∙ (map-append told_made old.nodes.items ms
        ∙ (rw (is.nodes, made) (sym (map-append told_node (flat_map (layer_nodes d b (e ∷ log) e.number) (layers_from 2 n)) (layer_nodes d b (e ∷ log) e.number layer)))
        ∙ ap (map told_node) (sym (lists_more (layer_nodes d b (e ∷ log) e.number) n layer s))));
    count =
        ap length links
        ∙ (length-append old.links.items ls
        ∙ (rw (is.count, count) (sym (totals_more (children_in d b log e) n layer s))));
    spent = told ∙ spent_more n layer (told_spent old.spent) c s is.spent spent;
    links = λ o.
        let before = is.links (none o) in
        let here = linked (none o) in
        record {
          links_are =
              ap (map (as_link e.number)) links
              ∙ (map-append (as_link e.number) old.links.items ls
              ∙ (rw (before.links_are, here.links_are) (sym (lists_more (λ k. flat_map (links_of d b (e ∷ log) k) (layer_nodes d b (e ∷ log) e.number k)) n layer s))));
          placed =
              subst (All (IsPlacedChild (rows_of d b log) (map (λ m. m.id) new.nodes.items))) (sym links)
              (All-append (IsPlacedChild (rows_of d b log) (map (λ m. m.id) new.nodes.items)) old.links.items ls
              (weaken _ _ old.links.items (λ x. placed_more (rows_of d b log) (map (λ m. m.id) old.nodes.items) (map (λ m. m.id) new.nodes.items) x up) before.placed)
              (weaken _ _ ls (λ x. placed_more (rows_of d b log) (map (λ m. m.id) below) (map (λ m. m.id) new.nodes.items) x (λ i h. up i (known i h))) here.placed));
        };
  }
    where
      up : (i : ℕ) → has (map (λ m. m.id) old.nodes.items) i ≡ true → has (map (λ m. m.id) new.nodes.items) i ≡ true
      up i h =
          let p : map (λ m. m.id) new.nodes.items ≡ map (λ m. m.id) old.nodes.items ++ map (λ m. m.id) ms = ap (map (λ m. m.id)) nodes ∙ map-append (λ m. m.id) old.nodes.items ms in
          subst (λ xs. has xs i ≡ true) (sym p) (has_front (map (λ m. m.id) old.nodes.items) (map (λ m. m.id) ms) i h)
