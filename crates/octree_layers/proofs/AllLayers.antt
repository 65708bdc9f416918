-- Layer upon layer.
use Rattle.std.proofs.Common.{◌≡◌, ℕ, zero, suc, ◌+◌, ◌-◌, ◌<◌, ◌≤◌, Bool, true, false, List, [], ◌∷◌, ◌++◌, length, map, Option, Some, None, refl, sym, ◌∙◌, ap, subst, arith}
use Rattle.std.specs.List.{All, flat_map, range_with_len, slice_get}
use Rattle.std.proofs.lemmas.Bool.{false≢true}
use Rattle.std.proofs.lemmas.Option.{same_Some}
use Rattle.std.proofs.lemmas.List.Elements.{All-from_recursion}
use Rattle.std.proofs.lemmas.List.Sorted.{All-permutation}
use Rattle.op_model.specs.declared.base.Dataset.{Dataset}
use Rattle.op_model.specs.declared.base.Base.{Base}
use Rattle.op_model.specs.declared.entry.Entry.{Entry}
use Rattle.op_model.specs.Chunks.{top, layers, layers_from}
use Rattle.op_model.specs.Legal.{LabelsFit}
use Rattle.op_model.specs.Valid.{IsDataset, IsBase, IsEdge}
use Rattle.graph_model.proofs.ListLemmas.{any_default}
use Rattle.record_rows.proofs.DifferLemmas.{all_map, all_more}
use Rattle.record_rows.proofs.OnceLemmas.{layers_from_differ}
use Rattle.record_rows.specs.LogRows.{layer_nodes, new_nodes}
use Rattle.layer_laws.specs.Building.{AreLeastLeaves}
use Rattle.layer_laws.proofs.BuildLemmas.{first_leaves}
use Rattle.octree_layers.specs.declared.levels.PlacedEdge.{PlacedEdge}
use Rattle.octree_layers.specs.declared.layers.Layer.{Layer}
use Rattle.octree_layers.specs.declared.errors.LayersError.{LayersError}
use Rattle.octree_layers.specs.declared.errors.LayersError.TheVariants.{IdsSpent, NoMemory}
use Rattle.octree_layers.specs.Places.{placed}
use Rattle.octree_layers.specs.Pairs.{AreEdges}
use Rattle.octree_layers.specs.Numbers.{OfSpent, LabelsFitIn}
use Rattle.octree_layers.specs.Layers.{IsLayer, AreLayers, all_nodes, last_firsts}
use Rattle.octree_layers.proofs.Placing.{place_at}

pub of_spent : (P Q : ℕ → ℕ → Type 0) (e : LayersError) → ((l c : ℕ) → P l c → Q l c) → OfSpent P e → OfSpent Q e
unfolding OfSpent
of_spent P Q (IdsSpent l c) f p = f l c p
of_spent P Q NoMemory f p = tt

there : Option Layer → Bool
there (Some l) = true
there None = false

last_at : (firsts : List ℕ) (ls : List Layer) (l : Layer) (n : ℕ) → n + 1 ≡ length ls → Some l ≡ slice_get ls n → last_firsts firsts ls ≡ l.firsts.items
unfolding last_firsts
last_at firsts [] l n c e = absurd (omega arith)
last_at firsts (x ∷ []) l zero c e = ap (λ (y : Layer). y.firsts.items) (sym (same_Some l x e))
last_at firsts (x ∷ []) l (suc n) c e = absurd (omega arith)
last_at firsts (x ∷ y ∷ ls) l zero c e = absurd (omega arith)
last_at firsts (x ∷ y ∷ ls) l (suc n) c e = last_at x.firsts.items (y ∷ ls) l n (omega arith) e

some_at : (ls : List Layer) (n : ℕ) → n < length ls → None ≡ slice_get ls n → ⊥
unfolding there
some_at [] n l e = omega arith
some_at (x ∷ ls) zero l e = false≢true (ap there e)
some_at (x ∷ ls) (suc n) l e = some_at ls n (omega arith) e

pub last_some : (firsts : List ℕ) (ls : List Layer) (l : Layer) → Some l ≡ slice_get ls (length ls - 1) → last_firsts firsts ls ≡ l.firsts.items
unfolding there
last_some firsts [] l e = absurd (false≢true (sym (ap there e)))
last_some firsts (x ∷ ls) l e = last_at firsts (x ∷ ls) l (length (x ∷ ls) - 1) (omega arith) e

pub last_none : (firsts : List ℕ) (ls : List Layer) → None ≡ slice_get ls (length ls - 1) → firsts ≡ last_firsts firsts ls
unfolding last_firsts
last_none firsts [] e = refl
last_none firsts (x ∷ ls) e = absurd (some_at (x ∷ ls) (length (x ∷ ls) - 1) (omega arith) e)

pub firsts_within : (d : Dataset) (b : Base) (log : List Entry) (layer : ℕ) (firsts : List ℕ) → AreLeastLeaves d b log layer firsts → All (λ f. f < length firsts) firsts
firsts_within d b log layer firsts are i e l =
    let c = are.count in
    let s = are.small i (omega arith) in
    subst (λ x. x < length firsts) (any_default firsts i 0 e l) (omega arith)

pub edges_within : (d : Dataset) (b : Base) → IsBase d b → (es : List PlacedEdge) (n : ℕ) → AreEdges d b es → n ≡ length b.supervoxels → All (λ e. (e.lesser < n) × (e.greater < n)) es
edges_within d b base es n same c =
    All-permutation Low (map (placed d b) b.edges) es same (All-from_recursion Low (map (placed d b) b.edges) (all_map (placed d b) Low b.edges
    (all_more (IsEdge b.supervoxels) (λ e. Low (placed d b e)) b.edges
    (λ e is. let p = (place_at b.supervoxels e.pair.a is.1).0 in let q = (place_at b.supervoxels e.pair.b is.2).0 in (omega (arith, p, c), omega (arith, q, c)))
    base.edges)))
  where
    Low : PlacedEdge → Type 0
    Low e = (e.lesser < n) × (e.greater < n)

module _ (d : Dataset) (b : Base) (log : List Entry) where
  last_are : (ls : List Layer) (k : ℕ) (firsts : List ℕ) → AreLeastLeaves d b log k firsts → AreLayers d b log (k + 1) ls → AreLeastLeaves d b log (k + length ls) (last_firsts firsts ls)
  unfolding last_firsts
  last_are [] k firsts f a = subst (λ n. AreLeastLeaves d b log n firsts) (let e : k ≡ k + 0 = omega arith in e) f
  last_are (l ∷ ls) k firsts f a =
      subst (λ n. AreLeastLeaves d b log n (last_firsts l.firsts.items ls)) (let e : k + 1 + length ls ≡ k + suc (length ls) = omega arith in e)
      (last_are ls (k + 1) l.firsts.items a.0.firsts a.1)

  more_layers : (ls : List Layer) (k : ℕ) (l : Layer) → AreLayers d b log k ls → IsLayer d b log (k + length ls) l → AreLayers d b log k (ls ++ l ∷ [])
  more_layers [] k l a is = (subst (λ n. IsLayer d b log n l) (let e : k + 0 ≡ k = omega arith in e) is, tt)
  more_layers (x ∷ ls) k l a is =
      (a.0, more_layers ls (k + 1) l a.1 (subst (λ n. IsLayer d b log n l) (let e : k + suc (length ls) ≡ k + 1 + length ls = omega arith in e) is))

  pub layer_added : (ls new : List Layer) (layer : ℕ) (l : Layer) → length ls + 2 ≡ layer → AreLayers d b log 2 ls → IsLayer d b log layer l → new ≡ ls ++ l ∷ [] → AreLayers d b log 2 new
  layer_added ls new layer l c a is e =
      subst (λ ns. AreLayers d b log 2 ns) (sym e)
      (more_layers ls 2 l a (subst (λ n. IsLayer d b log n l) (let s : layer ≡ 2 + length ls = omega (arith, c) in s) is))

  nodes_from : (ls : List Layer) (k : ℕ) → AreLayers d b log k ls → all_nodes b ls ≡ flat_map (layer_nodes d b log 0) (layers_from k (length ls))
  unfolding layers_from
  nodes_from [] k a = refl
  nodes_from (l ∷ ls) k a = ap (λ ns. ns ++ all_nodes b ls) a.0.nodes ∙ ap (λ ns. layer_nodes d b log 0 k ++ ns) (nodes_from ls (k + 1) a.1)

  pub nodes_all : (ls : List Layer) → length ls ≡ top d - 1 → AreLayers d b log 2 ls → all_nodes b ls ≡ new_nodes d b log 0
  unfolding new_nodes layers
  nodes_all ls c a = nodes_from ls 2 a ∙ ap (λ n. flat_map (layer_nodes d b log 0) (layers_from 2 n)) c

  pub last_below : IsDataset d → IsBase d b → (ls : List Layer) (layer : ℕ) (start : List ℕ) → length ls + 2 ≡ layer → AreLayers d b log 2 ls → start ≡ range_with_len 0 (length b.supervoxels)
      → AreLeastLeaves d b log (layer - 1) (last_firsts start ls)
  last_below valid base ls layer start c a e =
      subst (λ n. AreLeastLeaves d b log n (last_firsts start ls)) (let s : 1 + length ls ≡ layer - 1 = omega (arith, c) in s)
      (last_are ls 1 start (subst (λ ns. AreLeastLeaves d b log 1 ns) (sym e) (first_leaves d b valid.layout base.ascending log)) a)

  pub all_fit : (layer : ℕ) → layer ≡ top d + 1 → ((at : ℕ) → 2 ≤ at → at < layer → LabelsFitIn d b log at) → LabelsFit d b log
  unfolding layers
  all_fit layer e f =
      all_more (λ l. (2 ≤ l) × (l < 2 + (top d - 1))) (λ l. LabelsFitIn d b log l) (layers d) (λ l p. f l p.0 (let q = p.1 in let z = p.0 in omega (arith, e, q, z))) (layers_from_differ 2 (top d - 1)).0
