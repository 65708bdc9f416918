-- The part of a log that a split of a root's leaves looks at: the active edges among them.
use Rattle.std.proofs.Common.{◌≡◌, ℕ, ◌<◌, Bool, true, false, cond, ◌&&◌, ◌||◌, List, [], ◌∷◌, length, map, refl, sym, ◌∙◌, ap, ap₂, arith, eq-eqb}
use Rattle.std.specs.List.{AllByRecursion, filter, list_any}
use Rattle.std.proofs.lemmas.Bool.{or_left, or_right, and_from}
use Rattle.op_model.specs.declared.base.Dataset.{Dataset}
use Rattle.op_model.specs.declared.base.Base.{Base}
use Rattle.op_model.specs.declared.base.Edge.{Edge}
use Rattle.op_model.specs.declared.entry.Entry.{Entry}
use Rattle.graph_model.specs.Lists.{has}
use Rattle.graph_model.proofs.Components.{Joined_snoc}
use Rattle.op_model.specs.Chunks.{top, chunk, members}
use Rattle.op_model.specs.Cuts.{part}
use Rattle.op_model.specs.Edges.{joins, linked}
use Rattle.op_model.specs.Labels.{component, edges, root}
use Rattle.op_model.specs.Laws.{IsKnown}
use Rattle.op_model.specs.Legal.{Legal}
use Rattle.op_model.specs.Valid.{IsDataset, IsBase}
use Rattle.op_model.proofs.EdgeLemmas.{linked_sym}
use Rattle.op_model.proofs.KnownLemmas.{legal_known}
use Rattle.op_model.proofs.LabelLemmas.{same_component, in_members}
use Rattle.op_model.proofs.LocalLemmas.{root_joined, top_in_layers}
use Rattle.op_model.proofs.RootLemmas.{same_top}
use Rattle.record_rows.specs.Rows.{Node}
use Rattle.record_rows.specs.Readings.{HoldsNode}
use Rattle.record_rows.proofs.DifferLemmas.{all_more}
use Rattle.record_rows.proofs.LinkLemmas.{of_component, to_component}
use Rattle.node_reader.proofs.NodeLeaves.{record_tells}
use Rattle.component_reader.specs.Among.{active_among, leads}
use Rattle.component_reader.specs.Laws.{IsOfRoot}

-- edges that each have what two tests need to agree are kept alike
filter_alike : (s t : Edge → Bool) (P : Edge → Type 0) (es : List Edge) → ((e : Edge) → P e → s e ≡ t e) → AllByRecursion P es → filter s es ≡ filter t es
filter_alike s t P [] f a = refl
filter_alike s t P (e ∷ es) f a = ap₂ (λ (x : Bool) (xs : List Edge). cond x (e ∷ xs) xs) (f e a.0) (filter_alike s t P es f a.1)

-- each edge that is active is a link
links_all : (es : List Edge) → AllByRecursion (λ e. e.active ≡ true → linked es e.pair.a e.pair.b ≡ true) es
unfolding linked joins
links_all [] = tt
links_all (e ∷ es) = (
  λ t. or_left _ _ (and_from _ _ t (or_left _ _ (and_from _ _ (eq-eqb e.pair.a e.pair.a refl) (eq-eqb e.pair.b e.pair.b refl)))),
  all_more (λ f. f.active ≡ true → linked es f.pair.a f.pair.b ≡ true) (λ f. f.active ≡ true → linked (e ∷ es) f.pair.a f.pair.b ≡ true) es (λ f k t. or_right _ _ (k t)) (links_all es),
)

module _ (d : Dataset) (b : Base) (valid : IsDataset d) (base : IsBase d b) where
  -- the components of marks of one root are one
  one_part : (e : Entry) (log : List Entry) → Legal d b (e ∷ log) → (r v : ℕ) (marks : List ℕ) → IsOfRoot d b (e ∷ log) r v → AllByRecursion (IsOfRoot d b (e ∷ log) r) marks
      → AllByRecursion (λ vs. vs ≡ component d b (e ∷ log) (top d) v) (map (λ a. component d b (e ∷ log) (top d) a) marks)
  one_part e log legal r v [] h a = tt
  one_part e log legal r v (u ∷ marks) h a =
      let j = root_joined d b e log v u valid.layout legal h.0 a.0.0 (h.1 ∙ sym a.0.1) in
      (sym (same_component d b (e ∷ log) (top d) v u (same_top d b valid base v u h.0 a.0.0) j), one_part e log legal r v marks h a.1)

  any_one : (vs : List ℕ) (x y : ℕ) (parts : List (List ℕ)) → 0 < length parts → AllByRecursion (λ us. us ≡ vs) parts → list_any (λ us. has us x || has us y) parts ≡ (has vs x || has vs y)
  any_one vs x y [] l a = absurd (omega arith)
  any_one vs x y (us ∷ []) l a = ap (λ zs. (has zs x || has zs y) || false) a.0 ∙ go (has vs x || has vs y)
    where
      go : (t : Bool) → (t || false) ≡ t
      go true = refl
      go false = refl
  any_one vs x y (us ∷ ws ∷ parts) l a =
      ap₂ (λ (zs : List ℕ) (t : Bool). (has zs x || has zs y) || t) a.0 (any_one vs x y (ws ∷ parts) (omega arith) a.1) ∙ go (has vs x || has vs y)
    where
      go : (t : Bool) → (t || t) ≡ t
      go true = refl
      go false = refl

  map_some : (f : ℕ → List ℕ) (xs : List ℕ) → 0 < length xs → 0 < length (map f xs)
  map_some f [] l = absurd (omega arith)
  map_some f (x ∷ xs) l = omega arith

  -- what links a supervoxel of a component is of the component
  linked_in : (log : List Entry) → (v x y : ℕ) → has b.supervoxels v ≡ true → has b.supervoxels y ≡ true → linked (edges d b log) x y ≡ true → has (component d b log (top d) v) x ≡ true → has (component d b log (top d) v) y ≡ true
  linked_in log v x y hv hy l h =
      let p = of_component d b valid base log (top d) v x h in
      to_component d b valid base log (top d) v y
      (Joined_snoc (linked (edges d b log)) (members d b (top d) (chunk d (top d) v)) v x y p.2 l (in_members d b (top d) (chunk d (top d) v) y hy (same_top d b valid base y v hy hv)))

  pub part_among : (log : List Entry) (place : ℕ) (n : Node) (marks : List ℕ) → Legal d b log → HoldsNode d b log place n → 0 < length marks → AllByRecursion (IsOfRoot d b log n.id) marks
      → part d b log marks ≡ active_among (edges d b log) n.leaves
  unfolding part active_among leads root
  part_among [] place n marks legal h l a = absurd legal
  part_among (e ∷ log) place n [] legal h l a = absurd (omega arith)
  part_among (e ∷ log) place n (v ∷ marks) legal h l a =
      let tells : n.leaves ≡ component d b whole (top d) v = record_tells d b valid base [] e log legal place n h (top d) v (top_in_layers d) a.0.0 (sym a.0.1) in
      filter_alike (λ f. f.active && list_any (λ vs. has vs f.pair.a || has vs f.pair.b) parts) (λ f. (f.active && has own f.pair.a) && has own f.pair.b) (λ f. IsKnown b f.pair × (f.active ≡ true → linked (edges d b whole) f.pair.a f.pair.b ≡ true)) (edges d b whole)
      (λ f k. alike f k.0 k.1) (both (edges d b whole) (legal_known d b base whole legal).1 (links_all (edges d b whole)))
      ∙ ap (λ vs. filter (λ f. (f.active && has vs f.pair.a) && has vs f.pair.b) (edges d b whole)) (sym tells)
    where
      whole : List Entry
      whole = e ∷ log

      own : List ℕ
      own = component d b (e ∷ log) (top d) v

      parts : List (List ℕ)
      parts = map (λ u. component d b (e ∷ log) (top d) u) (v ∷ marks)

      both : (es : List Edge) → AllByRecursion (λ f. IsKnown b f.pair) es → AllByRecursion (λ f. f.active ≡ true → linked (edges d b whole) f.pair.a f.pair.b ≡ true) es
          → AllByRecursion (λ f. IsKnown b f.pair × (f.active ≡ true → linked (edges d b whole) f.pair.a f.pair.b ≡ true)) es
      both [] p q = tt
      both (f ∷ es) p q = ((p.0, q.0), both es p.1 q.1)

      alike : (f : Edge) → IsKnown b f.pair → (f.active ≡ true → linked (edges d b whole) f.pair.a f.pair.b ≡ true)
          → (f.active && list_any (λ vs. has vs f.pair.a || has vs f.pair.b) parts) ≡ ((f.active && has own f.pair.a) && has own f.pair.b)
      alike f known link =
          ap (λ t. f.active && t) (any_one own f.pair.a f.pair.b parts (map_some (λ u. component d b whole (top d) u) (v ∷ marks) (omega arith)) (one_part e log legal n.id v (v ∷ marks) a.0 a))
          ∙ go f.active refl (has own f.pair.a) refl (has own f.pair.b) refl
        where
          go : (t : Bool) → f.active ≡ t → (p : Bool) → has own f.pair.a ≡ p → (q : Bool) → has own f.pair.b ≡ q → (t && (p || q)) ≡ ((t && p) && q)
          go true s true g true k = refl
          go true s false g false k = refl
          go true s true g false k = sym (linked_in whole v f.pair.a f.pair.b a.0.0 known.1 (link s) g) ∙ k
          go true s false g true k = sym (linked_in whole v f.pair.b f.pair.a a.0.0 known.0 (linked_sym (edges d b whole) f.pair.b f.pair.a ∙ link s) k) ∙ g
          go false s p g q k = refl
