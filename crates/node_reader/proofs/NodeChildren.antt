-- The entry that made the node of a record, and the children that the links of the whole log give it.
use Rattle.std.proofs.Common.{◌≡◌, ℕ, true, List, [], ◌∷◌, ◌++◌, refl, sym, ◌∙◌, ap, ap₂, subst, inl, inr, append-nil}
use Rattle.std.specs.List.{AllByRecursion, flat_map}
use Rattle.op_model.specs.declared.base.Dataset.{Dataset}
use Rattle.op_model.specs.declared.base.Base.{Base}
use Rattle.op_model.specs.declared.entry.Entry.{Entry}
use Rattle.graph_model.specs.Lists.{has}
use Rattle.graph_model.proofs.ListLemmas.{has_cases, has_none}
use Rattle.op_model.specs.Chunks.{layers}
use Rattle.op_model.specs.Valid.{IsDataset, IsBase}
use Rattle.op_model.specs.Legal.{Legal}
use Rattle.record_rows.specs.Rows.{Node}
use Rattle.record_rows.specs.LogRows.{children_of, layer_nodes, new_nodes, rows_of}
use Rattle.record_rows.specs.Readings.{HoldsNode}
use Rattle.record_rows.specs.Walks.{children_in}
use Rattle.record_rows.proofs.Listings.{nodes_of}
use Rattle.record_rows.proofs.DifferLemmas.{Differ, all_append, all_more, all_both}
use Rattle.record_rows.proofs.LinkLemmas.{Among, among_flat}
use Rattle.record_rows.proofs.ChildOrder.{OtherId, KidsOf, kids, kids_of, kids_same, kids_none, layers_none, differ_split, entry_kids, entry_none, kids_more, no_kids}
use Rattle.record_rows.proofs.NodeOrder.{nodes_rows, node_all}
use Rattle.record_rows.proofs.OnceLemmas.{nodes_once}
use Rattle.node_reader.proofs.NodeLeaves.{among_all, all_among, Born, Placed, news_placed}

-- of nodes that differ one alone has its id
kids_one : (id : ℕ) (f : Node → List ℕ) → KidsOf id f → (n : Node) → n.id ≡ id → (ns : List Node) → Differ OtherId ns → Among n ns → flat_map f ns ≡ f n
kids_one id f k n e [] o a = absurd a
kids_one id f k n e (m ∷ ns) o (inl q) =
    let same : m.id ≡ id = ap (λ x. x.id) q ∙ e in
    ap (λ xs. f m ++ xs) (kids_none id f k ns (all_more (OtherId m) (λ x. x.id ≡ id → ⊥) ns (λ x other s. other (same ∙ sym s)) o.0)) ∙ (append-nil (f m) ∙ ap f q)
kids_one id f k n e (m ∷ ns) o (inr a) =
    ap (λ xs. xs ++ flat_map f ns) (k m (λ s. among_all (OtherId m) n ns a o.0 (s ∙ sym e))) ∙ kids_one id f k n e ns o.1 a

module _ (id : ℕ) (f : ℕ → Node → List ℕ) (k : (l : ℕ) → KidsOf id (f l)) (g : ℕ → List Node) (n : Node) (e : n.id ≡ id) where
  layers_one : (ls : List ℕ) (l : ℕ) → has ls l ≡ true → Differ OtherId (flat_map g ls) → Among n (g l) → flat_map (λ j. flat_map (f j) (g j)) ls ≡ f l n
  layers_one [] l h o a = absurd (has_none l h)
  layers_one (j ∷ ls) l h o a =
      let s = differ_split OtherId (g j) (flat_map g ls) o in
      elim (has_cases j ls l h) [
        | inl q ↦ (let here : Among n (g j) = subst (λ i. Among n (g i)) (sym q) a in
            let rest = layers_none id f k g ls (all_more (OtherId n) (λ x. x.id ≡ id → ⊥) (flat_map g ls) (λ x other same. other (e ∙ sym same)) (among_all (λ x. AllByRecursion (OtherId x) (flat_map g ls)) n (g j) here s.2)) in
            ap₂ (λ xs ys. xs ++ ys) (kids_one id (f j) (k j) n e (g j) s.0 here) rest ∙ (append-nil (f j n) ∙ ap (λ i. f i n) q))
        | inr r ↦ (let there : Among n (flat_map g ls) = among_flat g l n ls (has_among l ls r) a in
            let none = kids_none id (f j) (k j) (g j) (all_more (λ x. AllByRecursion (OtherId x) (flat_map g ls)) (λ x. x.id ≡ id → ⊥) (g j) (λ x others same. among_all (OtherId x) n (flat_map g ls) there others (same ∙ sym e)) s.2) in
            ap (λ xs. xs ++ flat_map (λ i. flat_map (f i) (g i)) ls) none ∙ layers_one ls l r s.1 a)
      ]
    where
      has_among : (x : ℕ) (xs : List ℕ) → has xs x ≡ true → Among x xs
      has_among x [] h = has_none x h
      has_among x (y ∷ ys) h = elim (has_cases y ys x h) [ inl q ↦ inl q | inr r ↦ inr (has_among x ys r) ]

module _ (d : Dataset) (b : Base) where
  -- a node with the entry that made it, and its children
  pub record Raised (log : List Entry) (n : Node) : Type 0 where
    pub newer : List Entry
    pub entry : Entry
    pub older : List Entry
    pub whole : log ≡ newer ++ entry ∷ older
    pub born : Born d b (entry ∷ older) n
    pub children : children_in (rows_of d b log) n.id ≡ children_of d b (entry ∷ older) born.layer n.leaves

module _ (d : Dataset) (b : Base) (valid : IsDataset d) (base : IsBase d b) where
  entry_children : (e : Entry) (log : List Entry) (m : ℕ) (n : Node) → Differ OtherId (new_nodes d b (e ∷ log) m) → (p : Placed d b valid base (e ∷ log) m n)
      → entry_kids d b valid base n.id (e ∷ log) m ≡ children_of d b (e ∷ log) p.0.layer n.leaves
  unfolding entry_kids new_nodes
  entry_children e log m n o p =
      layers_one n.id (kids d b valid base n.id (e ∷ log)) (kids_of d b valid base n.id (e ∷ log)) (layer_nodes d b (e ∷ log) m) n refl (layers d) p.0.layer p.0.layered o p.1
      ∙ kids_same d b valid base n.id (e ∷ log) p.0.layer n refl

  raised_more : (e : Entry) (log : List Entry) (n : Node) → AllByRecursion (OtherId n) (new_nodes d b (e ∷ log) e.number) → Raised d b log n → Raised d b (e ∷ log) n
  unfolding children_in
  raised_more e log n o r =
      let none = entry_none d b valid base n.id (e ∷ log) e.number (all_more (OtherId n) (λ m. m.id ≡ n.id → ⊥) (new_nodes d b (e ∷ log) e.number) (λ m other same. other (sym same)) o) in
      record {
        newer = e ∷ r.newer;
        entry = r.entry;
        older = r.older;
        whole = ap (λ xs. e ∷ xs) r.whole;
        born = r.born;
        children = kids_more d b valid base n.id e log ∙ (ap (λ xs. children_in (rows_of d b log) n.id ++ xs) none ∙ (append-nil (children_in (rows_of d b log) n.id) ∙ r.children));
      }

  all_raised : (log : List Entry) → Differ OtherId (nodes_of d b log) → AllByRecursion (Raised d b log) (nodes_of d b log)
  unfolding nodes_of children_in
  all_raised [] o = tt
  all_raised (e ∷ log) o =
      let olds = nodes_of d b log in
      let news = new_nodes d b (e ∷ log) e.number in
      let s = differ_split OtherId olds news o in
      all_append (Raised d b (e ∷ log)) olds news
      (all_more (λ n. AllByRecursion (OtherId n) news × Raised d b log n) (Raised d b (e ∷ log)) olds (λ n p. raised_more e log n p.0 p.1)
      (all_both (λ n. AllByRecursion (OtherId n) news) (Raised d b log) olds s.2 (all_raised log s.0)))
      (all_more (λ n. Placed d b valid base (e ∷ log) e.number n × Among n news) (Raised d b (e ∷ log)) news
      (λ n p.
      let none = no_kids d b valid base n.id log (all_more (λ x. AllByRecursion (OtherId x) news) (λ x. x.id ≡ n.id → ⊥) olds (λ x others. among_all (OtherId x) n news p.1 others) s.2) in
      record {
        newer = [];
        entry = e;
        older = log;
        whole = refl;
        born = p.0.0;
        children = kids_more d b valid base n.id e log ∙ (ap (λ xs. xs ++ entry_kids d b valid base n.id (e ∷ log) e.number) none ∙ entry_children e log e.number n s.1 p.0);
      })
      (all_both (Placed d b valid base (e ∷ log) e.number) (λ n. Among n news) news (news_placed d b valid base (e ∷ log) e.number) (all_among news)))

  pub node_raised : (log : List Entry) → Legal d b log → (p : ℕ) (n : Node) → HoldsNode d b log p n → Raised d b log n
  node_raised log legal p n h =
      node_all (Raised d b log) (rows_of d b log) p n (subst (AllByRecursion (Raised d b log)) (sym (nodes_rows d b log)) (all_raised log (nodes_once d b valid base log legal))) h
