-- Edges, nodes and links behind the others: the pointers that lead to them.
use Rattle.std.proofs.Common.{◌≡◌, ◌≢◌, ℕ, ◌+◌, ◌*◌, ◌^◌, ◌<◌, false, eqb, List, [], ◌∷◌, ◌++◌, length, get_or, None, refl, sym, ◌∙◌, ap, arith}
use Rattle.std.specs.List.{slice_get, list_any}
use Rattle.std.specs.Bool.{IsFalse}
use Rattle.std.proofs.lemmas.Bool.{ne_eqb}
use Rattle.std.proofs.lemmas.Option.{same_Some}
use Rattle.op_model.specs.declared.base.Edge.{Edge}
use Rattle.graph_model.specs.Lists.{head_or}
use Rattle.record_rows.specs.Rows.{Row, NodeRow, LinkRow, EdgeRow, Node, Link}
use Rattle.record_rows.specs.Chains.{has_id, is_node, change_of, retires}
use Rattle.record_rows.specs.Growth.{stored, names_word}
use Rattle.record_rows.specs.Words.{bit, place_from, strength, words_of}
use Rattle.row_append.specs.Ends.{Chain, EdgesOf, VersionsOf, ChildrenOf, NodesIn, HasNone, belongs, along, IsAlong, EndsAt, IsHeaded}
use Rattle.row_append.specs.Tails.{word_number}
use Rattle.row_append.specs.declared.tail.Tail.{Tail}
use Rattle.row_append.proofs.Pushes.{edge_pushed, node_pushed, link_pushed}
use Rattle.row_append.proofs.EndLaws.{headers_stay}
use Rattle.row_append.proofs.LastLemmas.{ends_lie}
use Rattle.grown_rows.specs.Growths.{Grown, with_words, IsGrowth, filled_by, stores_to, Once, IsOpen}
use Rattle.grown_rows.proofs.FillLemmas.{grown_by}

-- two chains don't end at one word
words_differ : (rows : List Row) (c e : Chain) (i j : ℕ) → (c ≡ e → ⊥) → IsAlong c rows i → IsAlong e rows j → eqb j i ≡ false
words_differ rows c e i j n a b = ne_eqb j i (λ q. n (same q))
  where
    places : j ≡ i → b.place ≡ a.place
    places q = let x : i ≡ 8 * a.place + (4 + a.k) = a.number in let y : j ≡ 8 * b.place + (4 + b.k) = b.number in let l : a.k < 4 = a.pointer in let m : b.k < 4 = b.pointer in omega arith

    numbers : j ≡ i → b.k ≡ a.k
    numbers q = let x : i ≡ 8 * a.place + (4 + a.k) = a.number in let y : j ≡ 8 * b.place + (4 + b.k) = b.number in let l : a.k < 4 = a.pointer in let m : b.k < 4 = b.pointer in omega arith

    rows_same : j ≡ i → b.row ≡ a.row
    rows_same q = same_Some _ _ (sym b.there ∙ (ap (slice_get rows) (places q) ∙ a.there))

    same : j ≡ i → c ≡ e
    same q = same_Some _ _ (sym a.leads ∙ (sym (ap (λ r. get_or (along r) a.k None) (rows_same q)) ∙ (ap (λ k. get_or (along b.row) k None) (sym (numbers q)) ∙ b.leads)))

opened : (rows : List Row) (c : Chain) (t : Tail) → t.word < 8 → EndsAt c rows (word_number t) → IsOpen (words_of rows) t
opened rows c t l e = (l, ends_lie rows c (word_number t) e, e.empty)

module _ (old more : List Row) (g : Grown) (is : IsGrowth old more g) (v : ℕ) (place : v ≡ length (old ++ more)) where
  abbrev all : List Row
  all = old ++ more

  headed : IsHeaded (old ++ more)
  headed = headers_stay old more is.headed

  once_two : (s t : Tail) → eqb (word_number t) (word_number s) ≡ false → Once (stores_to v (s ∷ t ∷ []))
  unfolding stores_to names_word
  once_two s t e = (rw e refl, (refl, tt))

  pub edge_grown : (made : ℕ) (x : Edge) (s t : Tail) (first weight : ℕ) → s.word < 8 → t.word < 8 → x.pair.a ≢ x.pair.b → first ≡ 6 + bit x.active * 2 ^ 8 + made * 2 ^ 32 → weight ≡ strength x.weight
      → EndsAt (EdgesOf x.pair.a) all (word_number s) → EndsAt (EdgesOf x.pair.b) all (word_number t) → IsFalse (list_any (change_of x.pair) all)
      → IsGrowth old (more ++ EdgeRow made x ∷ []) (filled_by v (s ∷ t ∷ []) (with_words g (first ∷ x.pair.a ∷ x.pair.b ∷ weight ∷ 0 ∷ 0 ∷ 0 ∷ 0 ∷ [])))
  unfolding stored stores_to
  edge_grown made x s t first weight ls lt n f w a b none =
      grown_by old more g is (EdgeRow made x) (first ∷ x.pair.a ∷ x.pair.b ∷ weight ∷ 0 ∷ 0 ∷ 0 ∷ 0 ∷ []) v (s ∷ t ∷ []) place (omega arith)
      (opened all (EdgesOf x.pair.a) s ls a, (opened all (EdgesOf x.pair.b) t lt b, tt))
      (once_two s t (words_differ all (EdgesOf x.pair.a) (EdgesOf x.pair.b) (word_number s) (word_number t) (λ q. n (edges_same x.pair.a x.pair.b q)) a.along b.along))
      (rw (place, f, w) (edge_pushed all headed made x (word_number s) (word_number t) a b none))
    where
      edges_same : (u w : ℕ) → EdgesOf u ≡ EdgesOf w → u ≡ w
      edges_same u w q = cc

  pub node_grown : (n : Node) (t : Tail) (id least made : ℕ) → t.word < 8 → n.id ≡ id → head_or 0 n.leaves ≡ least → n.made ≡ made
      → EndsAt (NodesIn n.chunk) all (word_number t) → HasNone (ChildrenOf n.id) all → HasNone (VersionsOf n.id) all → IsFalse (list_any (retires n) all)
      → IsGrowth old (more ++ NodeRow n ∷ []) (filled_by v (t ∷ []) (with_words g (4 ∷ id ∷ least ∷ made ∷ 0 ∷ 0 ∷ 0 ∷ 0 ∷ [])))
  unfolding stored stores_to names_word belongs
  node_grown n t id least made lt i l m a c e r =
      grown_by old more g is (NodeRow n) (4 ∷ id ∷ least ∷ made ∷ 0 ∷ 0 ∷ 0 ∷ 0 ∷ []) v (t ∷ []) place (omega arith)
      (opened all (NodesIn n.chunk) t lt a, tt) (refl, tt)
      (rw (place, sym i, sym l, sym m) (node_pushed all headed n (word_number t) a c e r))

  pub link_grown : (l : Link) (s t : Tail) (child child_at entry parent_at : ℕ) → s.word < 8 → t.word < 8 → l.child ≡ child → l.entry ≡ entry
      → place_from (has_id l.child) 0 all ≡ child_at → place_from (is_node l.parent) 0 all ≡ parent_at
      → EndsAt (ChildrenOf l.parent) all (word_number s) → EndsAt (VersionsOf l.child) all (word_number t)
      → IsGrowth old (more ++ LinkRow l ∷ []) (filled_by v (s ∷ t ∷ []) (with_words g (5 ∷ child ∷ child_at ∷ entry ∷ parent_at ∷ 0 ∷ 0 ∷ 0 ∷ [])))
  unfolding stored stores_to
  link_grown l s t child child_at entry parent_at ls lt c e p q a b =
      grown_by old more g is (LinkRow l) (5 ∷ child ∷ child_at ∷ entry ∷ parent_at ∷ 0 ∷ 0 ∷ 0 ∷ []) v (s ∷ t ∷ []) place (omega arith)
      (opened all (ChildrenOf l.parent) s ls a, (opened all (VersionsOf l.child) t lt b, tt))
      (once_two s t (words_differ all (ChildrenOf l.parent) (VersionsOf l.child) (word_number s) (word_number t) (λ z. cc) a.along b.along))
      (rw (place, sym c, sym e, sym p, sym q) (link_pushed all headed l (word_number s) (word_number t) a b))
