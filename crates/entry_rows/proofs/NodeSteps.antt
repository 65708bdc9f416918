-- The ends of the chunks' nodes, with one more node.
use Rattle.std.proofs.Common.{◌≡◌, ℕ, zero, suc, ◌+◌, ◌*◌, ◌<◌, false, List, [], ◌∷◌, ◌++◌, length, map, take, get_or, set, Some, refl, sym, ◌∙◌, ap, subst, arith, append_assoc}
use Rattle.std.specs.List.{list_any, slice_get}
use Rattle.std.proofs.lemmas.Bool.{ne_eqb}
use Rattle.std.proofs.lemmas.Option.{slice_get-get_or}
use Rattle.record_rows.specs.Rows.{Row, NodeRow, Node}
use Rattle.record_rows.specs.Chains.{node_in, child_of, version_of, retires}
use Rattle.record_rows.specs.Walks.{is_chunk}
use Rattle.row_append.specs.Ends.{NodesIn, ChildrenOf, VersionsOf, owns, belongs, has_part, HasNone, EndsAt}
use Rattle.row_append.specs.Tails.{word_number}
use Rattle.row_append.specs.declared.tail.Tail.{Tail}
use Rattle.row_append.proofs.EndLaws.{headers_stay, nodes_end}
use Rattle.base_rows.specs.declared.lists.BaseNode.{BaseNode}
use Rattle.base_rows.specs.States.{AreTails}
use Rattle.base_rows.proofs.TailLists.{tail_set}
use Rattle.grown_rows.specs.Growths.{Grown, IsGrowth}
use Rattle.entry_rows.specs.States.{IsMade, IsFresh, Noding}
use Rattle.entry_rows.proofs.EdgeSteps.{pointers_set, none_both}

node_apart : (c : ℕ) (n : Node) → (n.chunk ≡ c → ⊥) → has_part (NodesIn c) (NodeRow n) ≡ false
unfolding has_part owns belongs is_chunk node_in
node_apart c n f = rw (ne_eqb n.chunk c f) refl

module _ (chunks : List ℕ) (old more : List Row) (g after : Grown) (tails : List Tail) (x : BaseNode) (n : Node) (made place : ℕ) (st : Noding chunks old more g tails) (p : IsMade made chunks x n)
    (here : place ≡ length (old ++ more)) (grown : IsGrowth old (more ++ NodeRow n ∷ []) after) where
  abbrev new : Tail
  new = record { spot = place; word = 7 }

  -- with one more node
  pub node_more : Noding chunks old (more ++ NodeRow n ∷ []) after (set tails x.chunk (record { spot = place; word = 7 }))
  node_more = record {
    growth = grown;
    once = st.once;
    tails_are = subst (λ rs. AreTails NodesIn chunks rs (set tails x.chunk new)) (append_assoc old more (NodeRow n ∷ []))
        (tail_set NodesIn chunks (old ++ more) (NodeRow n) tails x.chunk new (headers_stay old more st.growth.headed) st.tails_are st.once p.chunk
        (subst (λ c. EndsAt (NodesIn c) ((old ++ more) ++ NodeRow n ∷ []) (word_number new)) (sym p.chunk_is)
        (subst (EndsAt (NodesIn n.chunk) ((old ++ more) ++ NodeRow n ∷ [])) (let e : 8 * length (old ++ more) + 7 ≡ word_number new = omega (arith, here) in e) (nodes_end (old ++ more) n (headers_stay old more st.growth.headed))))
        (λ c f. node_apart c n (λ q. f (p.chunk_is ∙ q))));
    pointers = pointers_set tails x.chunk new (let c = st.tails_are.count in let l = p.chunk in omega arith) st.pointers (omega arith) (omega arith);
  }

-- nodes are no links and no entries
no_child : (id : ℕ) (ns : List Node) → HasNone (ChildrenOf id) (map NodeRow ns)
unfolding belongs child_of
no_child id [] = refl
no_child id (n ∷ ns) = no_child id ns

no_version : (id : ℕ) (ns : List Node) → HasNone (VersionsOf id) (map NodeRow ns)
unfolding belongs version_of
no_version id [] = refl
no_version id (n ∷ ns) = no_version id ns

no_retiring : (m : Node) (ns : List Node) → list_any (retires m) (map NodeRow ns) ≡ false
unfolding retires
no_retiring m [] = refl
no_retiring m (n ∷ ns) = no_retiring m ns

pub fresh_more : (old more : List Row) (n : Node) (ns : List Node) → IsFresh (old ++ more) n → IsFresh (old ++ (more ++ map NodeRow ns)) n
fresh_more old more n ns f =
    subst (λ rs. IsFresh rs n) (append_assoc old more (map NodeRow ns)) (
      none_both (belongs (ChildrenOf n.id)) (old ++ more) (map NodeRow ns) f.0 (no_child n.id ns),
      none_both (belongs (VersionsOf n.id)) (old ++ more) (map NodeRow ns) f.1 (no_version n.id ns),
      none_both (retires n) (old ++ more) (map NodeRow ns) f.2 (no_retiring n ns),
    )

-- one more of the nodes
pub nodes_take : (ns : List Node) (k : ℕ) (n : Node) → slice_get ns k ≡ Some n → map NodeRow (take (k + 1) ns) ≡ map NodeRow (take k ns) ++ NodeRow n ∷ []
nodes_take [] k n e = cc
nodes_take (m ∷ ns) zero n e = let q : m ≡ n = cc in ap (λ x. NodeRow x ∷ []) q
nodes_take (m ∷ ns) (suc k) n e = let z : suc k + 1 ≡ suc (k + 1) = omega arith in rw z (ap (λ rs. NodeRow m ∷ rs) (nodes_take ns k n e))

pub got : {X : Type 0} (ns : List X) (i : ℕ) → i < length ns → (n : X) × (slice_get ns i ≡ Some n)
got [] i l = absurd (omega arith)
got (n ∷ ns) zero l = (n, refl)
got (n ∷ ns) (suc i) l = got ns i (omega arith)

pub got_node : (xs : List BaseNode) (i : ℕ) (x : BaseNode) → i < length xs → x ≡ get_or xs i x → slice_get xs i ≡ Some x
got_node xs i x l e = slice_get-get_or xs i x l ∙ ap (λ y. Some y) (sym e)
