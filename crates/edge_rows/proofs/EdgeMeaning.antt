-- What the records of a log tell of its edges at a prefix: the state of each pair, and the edges themselves.
use Rattle.std.proofs.Common.{◌≡◌, ℕ, suc, ◌-◌, ◌<◌, ◌≤◌, ◌^◌, Bool, true, false, cond, not, ◌&&◌, ◌||◌, eqb, ltb, List, [], ◌∷◌, ◌++◌, length, map, Option, Some, None, refl, sym, ◌∙◌, ap, subst, inl, inr, ◌⊎◌, arith, append-nil, lt-ltb}
use Rattle.std.specs.Prelude.{IsPermutation, IsSortedBy}
use Rattle.std.specs.List.{AllByRecursion, slice_get, filter, filter_map, cons_option, last_or}
use Rattle.std.proofs.lemmas.Bool.{cases_lt, le-ltb, or_parts}
use Rattle.std.proofs.lemmas.List.{map-append}
use Rattle.std.proofs.lemmas.List.Elements.{filter-append, filter_map-append}
use Rattle.std.proofs.Math.Seq.{drop-nil}
use Rattle.op_model.specs.declared.base.Dataset.{Dataset}
use Rattle.op_model.specs.declared.base.Base.{Base}
use Rattle.op_model.specs.declared.base.Pair.{Pair}
use Rattle.op_model.specs.declared.base.Edge.{Edge}
use Rattle.op_model.specs.declared.base.Weight.{Weight}
use Rattle.op_model.specs.declared.base.Weight.TheVariants.{Affinity, Glue}
use Rattle.op_model.specs.declared.entry.Changed.{Changed}
use Rattle.op_model.specs.declared.entry.Entry.{Entry}
use Rattle.op_model.specs.Edges.{same_pair, pair_before, put_edge, put_edges, put_changed, edges_after}
use Rattle.op_model.specs.Labels.{edges}
use Rattle.op_model.specs.Operations.{first_entry, next_entry, entry_of}
use Rattle.op_model.specs.Transcript.{log_at}
use Rattle.op_model.specs.Valid.{IsDataset, IsBase, IsEdge, IsWeight}
use Rattle.op_model.specs.Legal.{Legal}
use Rattle.op_model.specs.Laws.{IsKnown}
use Rattle.op_model.proofs.KnownLemmas.{legal_known}
use Rattle.op_model.proofs.OrderLemmas.{Sorted, put_sorted, after_sorted}
use Rattle.record_rows.specs.Rows.{Row, NodeRow, LinkRow, EdgeRow, ChangeRow, ItemRow, EntryRow, Node, Link, Item}
use Rattle.record_rows.specs.LogRows.{marks, chunks, new_nodes, new_links, unknown, new_edges, entry_rows, base_rows, rows_of}
use Rattle.record_rows.specs.Walks.{is_end, edges_at, is_active}
use Rattle.record_rows.proofs.RowFacts.{all_at, all_base}
use Rattle.record_rows.proofs.Picks.{picked_map, picked_none, picked_base}
use Rattle.record_rows.proofs.DifferLemmas.{Differ, all_append, all_more, all_each, all_both, all_map, all_filter, differ_append, differ_map, differ_filter, differ_more}
use Rattle.edge_rows.proofs.DistinctPairs.{OtherPair, sorted_differ, sorted_puts, known_other, puts_known, known_given}
use Rattle.edge_rows.proofs.PairOrder.{all_ascend}
use Rattle.edge_rows.proofs.EdgeLists.{not_before, known, active_put, known_put, unknown_inactive, own_state, puts_append, puts_same, given, given_sorted, given_own, made_edge, given_changed, filter_puts}

-- the state that the record gives the pair, if it is a change of it by an entry below the prefix
unfoldable pub state_below : Pair → ℕ → Row → Option Bool
state_below p prefix (ChangeRow entry c) = cond (same_pair c.pair p && ltb entry prefix) (Some c.active) None
state_below p prefix row = None

-- the edge with its state among these, if the record is an edge of this supervoxel that an entry below the prefix made
unfoldable pub edge_below : List Edge → ℕ → ℕ → Row → Option Edge
edge_below es v prefix (EdgeRow made e) = cond (is_end v e && ltb made prefix) (Some (given (is_active es) e)) None
edge_below es v prefix row = None

and_none : (t : Bool) → (t && false) ≡ false
and_none true = refl
and_none false = refl

and_all : (t : Bool) → (t && true) ≡ t
and_all true = refl
and_all false = refl

flip : (t : Bool) → not t ≡ true → t ≡ false
flip true h = sym h
flip false h = refl

-- each entry has as its number how many stand before it
abbrev Numbered : List Entry → Type 0
Numbered [] = Unit {0}
Numbered (e ∷ log) = (e.number ≡ length log) × Numbered log

-- the states that changed pairs give a pair
unfoldable changed_states : Pair → List Changed → List Bool
changed_states p cs = filter_map (λ c. cond (same_pair c.pair p) (Some c.active) None) cs

-- the states that a log gives a pair, oldest first
unfoldable states : Pair → List Entry → List Bool
states p [] = []
states p (e ∷ log) = states p log ++ changed_states p e.changed

last_append : {X : Type 0} (o : Option X) (xs ys : List X) → last_or o (xs ++ ys) ≡ last_or (last_or o xs) ys
last_append o [] ys = refl
last_append o (x ∷ xs) ys = last_append (Some x) xs ys

-- the last state given is the one that the edges have
last_changed : (p : Pair) (affinity : ℕ) (cs : List Changed) (fs : List Edge) → Sorted fs → last_or (Some (is_active fs p)) (changed_states p cs) ≡ Some (is_active (put_changed affinity cs fs) p)
unfolding put_changed changed_states
last_changed p affinity [] fs a = refl
last_changed p affinity (c ∷ cs) fs a =
    let e : Edge = record { pair = c.pair; weight = Affinity affinity; active = c.active } in
    go (same_pair c.pair p) (active_put p e fs a) (last_changed p affinity cs (put_edge e fs) (put_sorted e fs a))
  where
    go : (t : Bool) {now : Bool} {rest : Bool} → now ≡ cond t c.active (is_active fs p) → last_or (Some now) (changed_states p cs) ≡ Some rest
        → last_or (Some (is_active fs p)) (cons_option (cond t (Some c.active) None) (changed_states p cs)) ≡ Some rest
    go true q ih = ap (λ x. last_or (Some x) (changed_states p cs)) (sym q) ∙ ih
    go false q ih = ap (λ x. last_or (Some x) (changed_states p cs)) (sym q) ∙ ih

-- the weight of an edge is glue or an affinity of 32 bits
abbrev pub HasWeight : Weight → Type 0
HasWeight (Affinity n) = (1 ≤ n) × (n < 2 ^ 32)
HasWeight Glue = Unit {0}

weights_put : (e : Edge) (fs : List Edge) → HasWeight e.weight → AllByRecursion (λ f. HasWeight f.weight) fs → AllByRecursion (λ f. HasWeight f.weight) (put_edge e fs)
unfolding put_edge
weights_put e [] h a = (h, tt)
weights_put e (f ∷ fs) h a = go (same_pair f.pair e.pair) (pair_before e.pair f.pair) (weights_put e fs h a.1)
  where
    go : (s t : Bool) → AllByRecursion (λ g. HasWeight g.weight) (put_edge e fs) → AllByRecursion (λ g. HasWeight g.weight) (cond s (record f { active = e.active } ∷ fs) (cond t (e ∷ f ∷ fs) (f ∷ put_edge e fs)))
    go true t ih = (a.0, a.1)
    go false true ih = (h, (a.0, a.1))
    go false false ih = (a.0, ih)

weights_puts : (es fs : List Edge) → AllByRecursion (λ f. HasWeight f.weight) es → AllByRecursion (λ f. HasWeight f.weight) fs → AllByRecursion (λ f. HasWeight f.weight) (put_edges es fs)
unfolding put_edges
weights_puts [] fs h a = a
weights_puts (e ∷ es) fs h a = weights_puts es (put_edge e fs) h.1 (weights_put e fs h.0 a)

-- a pair that is not known behind changes was not known before them
unknown_before : (p : Pair) (affinity : ℕ) (cs : List Changed) (fs : List Edge) → known (put_changed affinity cs fs) p ≡ false → known fs p ≡ false
unfolding put_changed
unknown_before p affinity [] fs h = h
unknown_before p affinity (c ∷ cs) fs h =
    let e : Edge = record { pair = c.pair; weight = Affinity affinity; active = c.active } in
    (or_parts (same_pair c.pair p) (known fs p) (sym (known_put p e fs) ∙ unknown_before p affinity cs (put_edge e fs) h)).1

module _ (d : Dataset) (b : Base) where
  -- the log at a prefix
  log_whole : (log : List Entry) (k : ℕ) → length log ≤ k → log_at d b log k ≡ log
  unfolding log_at
  log_whole log k h = let z : length log - k ≡ 0 = omega arith in rw z refl

  log_older : (e : Entry) (log : List Entry) (k : ℕ) → k ≤ length log → log_at d b (e ∷ log) k ≡ log_at d b log k
  unfolding log_at
  log_older e log k h = let z : suc (length log) - k ≡ suc (length log - k) = omega arith in rw z refl

  log_none : (k : ℕ) → log_at d b [] k ≡ []
  unfolding log_at
  log_none k = drop-nil (0 - k)

  numbered : (log : List Entry) → Legal d b log → Numbered log
  unfolding first_entry next_entry entry_of
  numbered [] legal = absurd legal
  numbered (e ∷ []) legal = (ap (λ f. f.number) legal.0, tt)
  numbered (e ∷ f ∷ log) legal = (ap (λ g. g.number) legal.0.2, numbered (f ∷ log) legal.1)

  legal_at : (log : List Entry) (k : ℕ) → 1 ≤ k → Legal d b log → Legal d b (log_at d b log k)
  legal_at [] k l legal = absurd legal
  legal_at (e ∷ []) k l legal = subst (Legal d b) (sym (log_whole (e ∷ []) k l)) legal
  legal_at (e ∷ f ∷ log) k l legal = elim (cases_lt (length (f ∷ log)) k) [
    | inl h ↦ subst (Legal d b) (sym (log_whole (e ∷ f ∷ log) k (omega arith))) legal
    | inr h ↦ subst (Legal d b) (sym (log_older e (f ∷ log) k h)) (legal_at (f ∷ log) k l legal.1)
  ]

  edges_sorted : (log : List Entry) → Sorted (edges d b log)
  unfolding edges
  edges_sorted log = after_sorted b.edges d.merge_affinity log

  last_state : (p : Pair) (log : List Entry) → last_or (Some (is_active (edges d b []) p)) (states p log) ≡ Some (is_active (edges d b log) p)
  unfolding edges edges_after states
  last_state p [] = refl
  last_state p (e ∷ log) =
      last_append (Some (is_active (edges d b []) p)) (states p log) (changed_states p e.changed)
      ∙ (ap (λ o. last_or o (changed_states p e.changed)) (last_state p log) ∙ last_changed p d.merge_affinity e.changed (edges d b log) (edges_sorted log))

  -- what a test picks of the rows of an entry, where it picks of edges and changes alone
  module _ {X : Type 0} (pick : Row → Option X) (node : (x : Node) → pick (NodeRow x) ≡ None) (link : (x : Link) → pick (LinkRow x) ≡ None) (item : (x : Item) → pick (ItemRow x) ≡ None) (entry : (x : Entry) → pick (EntryRow x) ≡ None) where
    picked_entry : (log : List Entry) (e : Entry) → filter_map pick (entry_rows d b log e) ≡ filter_map (λ x. pick (EdgeRow e.number x)) (new_edges d b log e) ++ filter_map (λ c. pick (ChangeRow e.number c)) e.changed
    unfolding entry_rows
    picked_entry log e =
        let nodes_none : filter_map pick (map NodeRow (new_nodes d b (e ∷ log) e.number)) ≡ [] = picked_map pick NodeRow (new_nodes d b (e ∷ log) e.number) ∙ picked_none (λ x. pick (NodeRow x)) node (new_nodes d b (e ∷ log) e.number) in
        let links_none : filter_map pick (map LinkRow (new_links d b (e ∷ log) e.number)) ≡ [] = picked_map pick LinkRow (new_links d b (e ∷ log) e.number) ∙ picked_none (λ x. pick (LinkRow x)) link (new_links d b (e ∷ log) e.number) in
        let items_none : filter_map pick (map ItemRow (marks e.number e.asked)) ≡ [] = picked_map pick ItemRow (marks e.number e.asked) ∙ picked_none (λ x. pick (ItemRow x)) item (marks e.number e.asked) in
        let entry_none : pick (EntryRow e) ≡ None = entry e in
        simp (filter_map-append, nodes_none, links_none, items_none, entry_none, picked_map pick (EdgeRow e.number) (new_edges d b log e), picked_map pick (ChangeRow e.number) e.changed, append-nil)

  -- the states that the records give a pair below a prefix are those that the log gives it there
  states_picked : (p : Pair) (prefix : ℕ) (log : List Entry) → Numbered log → filter_map (state_below p prefix) (rows_of d b log) ≡ states p (log_at d b log prefix)
  unfolding rows_of states state_below changed_states
  states_picked p prefix [] n = picked_base (state_below p prefix) d b (λ m n. refl) (λ v. refl) (λ c. refl) ∙ ap (states p) (sym (log_none prefix))
  states_picked p prefix (e ∷ log) n =
      let pick : Row → Option Bool = state_below p prefix in
      let edges_none : filter_map (λ x. pick (EdgeRow e.number x)) (new_edges d b log e) ≡ [] = picked_none (λ x. pick (EdgeRow e.number x)) (λ x. refl) (new_edges d b log e) in
      filter_map-append pick (rows_of d b log) (entry_rows d b log e)
      ∙ (ap (λ bs. filter_map pick (rows_of d b log) ++ bs) (picked_entry pick (λ x. refl) (λ x. refl) (λ x. refl) (λ x. refl) log e ∙ ap (λ bs. bs ++ filter_map (λ c. pick (ChangeRow e.number c)) e.changed) edges_none)
      ∙ (ap (λ bs. bs ++ filter_map (λ c. pick (ChangeRow e.number c)) e.changed) (states_picked p prefix log n.1)
      ∙ last (cases_lt e.number prefix)))
    where
      below : e.number < prefix → filter_map (λ c. state_below p prefix (ChangeRow e.number c)) e.changed ≡ changed_states p e.changed
      below h = go e.changed
        where
          go : (cs : List Changed) → filter_map (λ c. state_below p prefix (ChangeRow e.number c)) cs ≡ changed_states p cs
          go [] = refl
          go (c ∷ cs) = rw (lt-ltb e.number prefix h, and_all (same_pair c.pair p)) (ap (cons_option (cond (same_pair c.pair p) (Some c.active) None)) (go cs))

      above : prefix ≤ e.number → filter_map (λ c. state_below p prefix (ChangeRow e.number c)) e.changed ≡ []
      above h = picked_none (λ c. state_below p prefix (ChangeRow e.number c)) (λ c. rw (le-ltb e.number prefix h, and_none (same_pair c.pair p)) refl) e.changed

      last : (e.number < prefix) ⊎ (prefix ≤ e.number) → states p (log_at d b log prefix) ++ filter_map (λ c. state_below p prefix (ChangeRow e.number c)) e.changed ≡ states p (log_at d b (e ∷ log) prefix)
      last (inl h) =
          let q : e.number ≡ length log = n.0 in
          rw (below h, log_whole log prefix (omega arith), log_whole (e ∷ log) prefix (omega arith)) refl
      last (inr h) =
          let q : e.number ≡ length log = n.0 in
          rw (above h, log_older e log prefix (omega arith)) (append-nil (states p (log_at d b log prefix)))

  -- the edges that the entries of a log made known, in the order of their records
  unfoldable made_edges : List Entry → List Edge
  made_edges [] = []
  made_edges (e ∷ log) = made_edges log ++ new_edges d b log e

  -- with states given anew, the edges of a log are those that its entries made known
  made_all : (state : Pair → Bool) (log : List Entry) → Legal d b log → map (given state) (edges d b log) ≡ put_edges (map (given state) (made_edges log)) []
  unfolding edges edges_after made_edges new_edges unknown first_entry known made_edge put_changed
  made_all state [] legal = absurd legal
  made_all state (e ∷ []) legal =
      let q : e.changed ≡ [] = ap (λ f. f.changed) legal.0 in
      ap (λ cs. map (given state) (put_changed d.merge_affinity cs (edges d b []))) q ∙ sym (puts_same (map (given state) (edges d b [])) (given_sorted state (edges d b []) (edges_sorted [])))
  made_all state (e ∷ f ∷ log) legal =
      let old : List Edge = edges d b (f ∷ log) in
      given_changed state d.merge_affinity old e.changed old (edges_sorted (f ∷ log)) (λ p k. k)
      ∙ (ap (put_edges (map (given state) (new_edges d b (f ∷ log) e))) (made_all state (f ∷ log) legal.1)
      ∙ sym (ap (λ xs. put_edges xs []) (map-append (given state) (made_edges (f ∷ log)) (new_edges d b (f ∷ log) e)) ∙ puts_append (map (given state) (made_edges (f ∷ log))) (map (given state) (new_edges d b (f ∷ log) e)) []))

  edges_picked : (es : List Edge) (v prefix : ℕ) (log : List Entry) → Numbered log
      → filter_map (edge_below es v prefix) (rows_of d b log) ≡ filter (is_end v) (map (given (is_active es)) (made_edges (log_at d b log prefix)))
  unfolding rows_of made_edges edge_below given is_end
  edges_picked es v prefix [] n = picked_base (edge_below es v prefix) d b (λ m n. refl) (λ v. refl) (λ c. refl) ∙ ap (λ log. filter (is_end v) (map (given (is_active es)) (made_edges log))) (sym (log_none prefix))
  edges_picked es v prefix (e ∷ log) n =
      let pick : Row → Option Edge = edge_below es v prefix in
      let changes_none : filter_map (λ c. pick (ChangeRow e.number c)) e.changed ≡ [] = picked_none (λ c. pick (ChangeRow e.number c)) (λ c. refl) e.changed in
      filter_map-append pick (rows_of d b log) (entry_rows d b log e)
      ∙ (ap (λ xs. filter_map pick (rows_of d b log) ++ xs) (picked_entry pick (λ x. refl) (λ x. refl) (λ x. refl) (λ x. refl) log e ∙ (ap (λ xs. filter_map (λ x. pick (EdgeRow e.number x)) (new_edges d b log e) ++ xs) changes_none ∙ append-nil (filter_map (λ x. pick (EdgeRow e.number x)) (new_edges d b log e))))
      ∙ (ap (λ xs. xs ++ filter_map (λ x. pick (EdgeRow e.number x)) (new_edges d b log e)) (edges_picked es v prefix log n.1)
      ∙ last (cases_lt e.number prefix)))
    where
      mine : List Edge → List Edge
      mine xs = filter (is_end v) (map (given (is_active es)) xs)

      below : e.number < prefix → (xs : List Edge) → filter_map (λ x. edge_below es v prefix (EdgeRow e.number x)) xs ≡ filter (is_end v) (map (given (is_active es)) xs)
      below h [] = refl
      below h (x ∷ xs) = rw (lt-ltb e.number prefix h, and_all (is_end v x)) (go (is_end v x) (below h xs))
        where
          go : (t : Bool) → filter_map (λ x. edge_below es v prefix (EdgeRow e.number x)) xs ≡ filter (is_end v) (map (given (is_active es)) xs)
              → cons_option (cond t (Some (given (is_active es) x)) None) (filter_map (λ x. edge_below es v prefix (EdgeRow e.number x)) xs) ≡ cond t (given (is_active es) x ∷ filter (is_end v) (map (given (is_active es)) xs)) (filter (is_end v) (map (given (is_active es)) xs))
          go true ih = ap (λ ys. given (is_active es) x ∷ ys) ih
          go false ih = ih

      above : prefix ≤ e.number → filter_map (λ x. edge_below es v prefix (EdgeRow e.number x)) (new_edges d b log e) ≡ []
      above h = picked_none (λ x. edge_below es v prefix (EdgeRow e.number x)) (λ x. rw (le-ltb e.number prefix h, and_none (is_end v x)) refl) (new_edges d b log e)

      last : (e.number < prefix) ⊎ (prefix ≤ e.number) → filter (is_end v) (map (given (is_active es)) (made_edges (log_at d b log prefix))) ++ filter_map (λ x. edge_below es v prefix (EdgeRow e.number x)) (new_edges d b log e)
          ≡ filter (is_end v) (map (given (is_active es)) (made_edges (log_at d b (e ∷ log) prefix)))
      last (inl h) =
          let q : e.number ≡ length log = n.0 in
          rw (below h (new_edges d b log e), log_whole log prefix (omega arith), log_whole (e ∷ log) prefix (omega arith))
          (sym (ap (filter (is_end v)) (map-append (given (is_active es)) (made_edges log) (new_edges d b log e)) ∙ filter-append (is_end v) (map (given (is_active es)) (made_edges log)) (map (given (is_active es)) (new_edges d b log e))))
      last (inr h) =
          let q : e.number ≡ length log = n.0 in
          rw (above h, log_older e log prefix (omega arith)) (append-nil (filter (is_end v) (map (given (is_active es)) (made_edges (log_at d b log prefix)))))

  -- the edges of a supervoxel that the records tell of, with their states, are its edges at the prefix
  edges_told : (log : List Entry) (v prefix : ℕ) → 1 ≤ prefix → Legal d b log
      → put_edges (filter_map (edge_below (edges d b (log_at d b log prefix)) v prefix) (rows_of d b log)) [] ≡ edges_at (edges d b (log_at d b log prefix)) v
  unfolding edges_at is_end
  edges_told log v prefix l legal =
      let old : List Entry = log_at d b log prefix in
      let es : List Edge = edges d b old in
      ap (λ xs. put_edges xs []) (edges_picked es v prefix log (numbered log legal))
      ∙ (sym (filter_puts (is_end v) (λ e f q. ap (λ p. eqb p.a v || eqb p.b v) q) (map (given (is_active es)) (made_edges old)) [] tt)
      ∙ ap (filter (is_end v)) (sym (made_all (is_active es) old (legal_at log prefix l legal)) ∙ given_own es (edges_sorted old)))

  -- the edges that a log made known are among its edges
  made_known : (log : List Entry) → Legal d b log → AllByRecursion (λ x. known (edges d b log) x.pair ≡ true) (made_edges log)
  unfolding given
  made_known log legal = unmap (made_edges log) (puts_known (map (given none) (made_edges log)) [])
    where
      none : Pair → Bool
      none p = false

      unmap : (xs : List Edge) → AllByRecursion (λ x. known (put_edges (map (given none) (made_edges log)) []) x.pair ≡ true) (map (given none) xs) → AllByRecursion (λ x. known (edges d b log) x.pair ≡ true) xs
      unmap [] h = tt
      unmap (x ∷ xs) h = (sym (known_given none x.pair (edges d b log)) ∙ (ap (λ fs. known fs x.pair) (made_all none log legal) ∙ h.0), unmap xs h.1)

  -- no two of them have one pair
  made_differ : (log : List Entry) → Legal d b log → Differ OtherPair (made_edges log)
  unfolding made_edges new_edges unknown known made_edge
  made_differ [] legal = tt
  made_differ (e ∷ []) legal = sorted_differ (edges d b []) (edges_sorted [])
  made_differ (e ∷ f ∷ log) legal =
      let old : List Edge = edges d b (f ∷ log) in
      let test : Changed → Bool = λ c. not (known old c.pair) in
      let news : List Changed = filter test e.changed in
      let apart : Differ (λ (c x : Changed). pair_before c.pair x.pair ≡ true) news = differ_filter test (λ (c x : Changed). pair_before c.pair x.pair ≡ true) e.changed (all_ascend d b (e ∷ f ∷ log) legal).0 in
      differ_append OtherPair (made_edges (f ∷ log)) (new_edges d b (f ∷ log) e) (made_differ (f ∷ log) legal.1)
      (differ_map (made_edge d.merge_affinity) OtherPair news
      (differ_more (λ c. Unit {0}) (λ (c x : Changed). pair_before c.pair x.pair ≡ true) (λ (c x : Changed). same_pair c.pair x.pair ≡ false) news (λ c x t u h. (not_before c.pair x.pair h).1) (all_each (λ c. Unit {0}) news (λ c. tt)) apart))
      (all_more (λ x. known old x.pair ≡ true) (λ x. AllByRecursion (OtherPair x) (new_edges d b (f ∷ log) e)) (made_edges (f ∷ log))
      (λ x k. all_map (made_edge d.merge_affinity) (OtherPair x) news
      (all_more (λ c. Unit {0} × (test c ≡ true)) (λ c. same_pair x.pair c.pair ≡ false) news (λ c t. known_other old x.pair c.pair k (flip _ t.1)) (all_filter test (λ c. Unit {0}) e.changed (all_each (λ c. Unit {0}) e.changed (λ c. tt)))))
      (made_known (f ∷ log) legal.1))

  -- the edges of a supervoxel that the records tell of, sorted, are its edges at the prefix
  pub sorted_told : (log : List Entry) (v prefix : ℕ) → 1 ≤ prefix → Legal d b log → (sorted : List Edge) → IsPermutation (filter_map (edge_below (edges d b (log_at d b log prefix)) v prefix) (rows_of d b log)) sorted
      → IsSortedBy (λ (e : Edge) (f : Edge). pair_before e.pair f.pair) sorted → sorted ≡ edges_at (edges d b (log_at d b log prefix)) v
  unfolding given
  sorted_told log v prefix l legal sorted p s =
      let old : List Entry = log_at d b log prefix in
      let states : Pair → Bool = is_active (edges d b old) in
      let made : List Edge = made_edges old in
      let differ : Differ OtherPair (filter (is_end v) (map (given states) made)) = differ_filter (is_end v) OtherPair (map (given states) made) (differ_map (given states) OtherPair made (made_differ old (legal_at log prefix l legal))) in
      sorted_puts (filter_map (edge_below (edges d b old) v prefix) (rows_of d b log)) sorted (subst (Differ OtherPair) (sym (edges_picked (edges d b old) v prefix log (numbered log legal))) differ) p s
      ∙ edges_told log v prefix l legal

  -- what holds of each edge that has a record: the state before all changes, its weight, and that it joins supervoxels
  abbrev pub EdgeFacts : Edge → Type 0
  EdgeFacts e = (is_active (edges d b []) e.pair ≡ e.active) × HasWeight e.weight × IsKnown b e.pair

  abbrev OfEdges : Row → Type 0
  OfEdges (EdgeRow made e) = EdgeFacts e
  OfEdges row = Unit {0}

  facts_entry : (log : List Entry) (e : Entry) → AllByRecursion EdgeFacts (new_edges d b log e) → AllByRecursion OfEdges (entry_rows d b log e)
  unfolding entry_rows
  facts_entry log e h =
      all_append OfEdges (map (EdgeRow e.number) (new_edges d b log e)) _ (all_map (EdgeRow e.number) OfEdges (new_edges d b log e) h)
      (all_append OfEdges (map NodeRow (new_nodes d b (e ∷ log) e.number)) _ (all_map NodeRow OfEdges (new_nodes d b (e ∷ log) e.number) (all_each _ (new_nodes d b (e ∷ log) e.number) (λ x. tt)))
      (all_append OfEdges (map LinkRow (new_links d b (e ∷ log) e.number)) _ (all_map LinkRow OfEdges (new_links d b (e ∷ log) e.number) (all_each _ (new_links d b (e ∷ log) e.number) (λ x. tt)))
      (all_append OfEdges (map ItemRow (marks e.number e.asked)) _ (all_map ItemRow OfEdges (marks e.number e.asked) (all_each _ (marks e.number e.asked) (λ x. tt)))
      (all_append OfEdges (map (ChangeRow e.number) e.changed) _ (all_map (ChangeRow e.number) OfEdges e.changed (all_each _ e.changed (λ x. tt))) (tt, tt)))))

  facts_base : AllByRecursion OfEdges (base_rows d b)
  facts_base = all_base d b OfEdges tt (all_each _ b.supervoxels (λ x. tt)) (all_each _ (chunks d b) (λ x. tt))

  unknown_first : (log : List Entry) (p : Pair) → known (edges d b log) p ≡ false → known (edges d b []) p ≡ false
  unfolding edges edges_after
  unknown_first [] p h = h
  unknown_first (e ∷ log) p h = unknown_first log p (unknown_before p d.merge_affinity e.changed (edges d b log) h)

  weights_first : IsBase d b → AllByRecursion (λ f. HasWeight f.weight) (edges d b [])
  unfolding edges edges_after
  weights_first base = weights_puts b.edges [] (all_more (IsEdge b.supervoxels) (λ f. HasWeight f.weight) b.edges (λ f i. weight f.weight f.active i.3) base.edges) tt
    where
      weight : (w : Weight) (active : Bool) → IsWeight w active → HasWeight w
      weight (Affinity n) active h = h
      weight Glue active h = tt

  facts_new : (log : List Entry) (e : Entry) → IsDataset d → IsBase d b → Legal d b (e ∷ log) → AllByRecursion EdgeFacts (new_edges d b log e)
  unfolding new_edges unknown first_entry edges edges_after known put_changed
  facts_new [] e dataset base legal =
      let q : e.changed ≡ [] = ap (λ f. f.changed) legal.0 in
      let es : List Edge = edges d b [] in
      let ends : AllByRecursion (λ f. IsKnown b f.pair) es = subst (λ cs. AllByRecursion (λ f. IsKnown b f.pair) (put_changed d.merge_affinity cs es)) q (legal_known d b base (e ∷ []) legal).1 in
      all_more (λ f. (is_active es f.pair ≡ f.active) × (HasWeight f.weight × IsKnown b f.pair)) EdgeFacts es (λ f h. (h.0, h.1.0, h.1.1))
      (all_both (λ f. is_active es f.pair ≡ f.active) (λ f. HasWeight f.weight × IsKnown b f.pair) es (own_state es (edges_sorted [])) (all_both (λ f. HasWeight f.weight) (λ f. IsKnown b f.pair) es (weights_first base) ends))
  facts_new (f ∷ log) e dataset base legal =
      let test : Changed → Bool = λ c. not (known (edges d b (f ∷ log)) c.pair) in
      all_map _ EdgeFacts (filter test e.changed)
      (all_more (λ c. IsKnown b c.pair × (test c ≡ true)) _ (filter test e.changed) (λ c h. (unknown_inactive c.pair (edges d b []) (unknown_first (f ∷ log) c.pair (flip _ h.1)), dataset.merge_affinity, h.0))
      (all_filter test (λ c. IsKnown b c.pair) e.changed (legal_known d b base (e ∷ f ∷ log) legal).0.0))

  facts_all : (log : List Entry) → IsDataset d → IsBase d b → Legal d b log → AllByRecursion OfEdges (rows_of d b log)
  unfolding rows_of
  facts_all [] dataset base legal = absurd legal
  facts_all (e ∷ []) dataset base legal = all_append OfEdges (base_rows d b) (entry_rows d b [] e) facts_base (facts_entry [] e (facts_new [] e dataset base legal))
  facts_all (e ∷ f ∷ log) dataset base legal = all_append OfEdges (rows_of d b (f ∷ log)) (entry_rows d b (f ∷ log) e) (facts_all (f ∷ log) dataset base legal.1) (facts_entry (f ∷ log) e (facts_new (f ∷ log) e dataset base legal))

  pub edge_facts : (log : List Entry) → IsDataset d → IsBase d b → Legal d b log → (p made : ℕ) (e : Edge) → slice_get (rows_of d b log) p ≡ Some (EdgeRow made e) → EdgeFacts e
  edge_facts log dataset base legal p made e h = all_at OfEdges (rows_of d b log) (facts_all log dataset base legal) p (EdgeRow made e) h

  -- the last state that the records give a pair below a prefix, or else its first one, is its state at the prefix
  pub states_told : (q : Pair) (log : List Entry) (prefix : ℕ) → Legal d b log
      → last_or (Some (is_active (edges d b []) q)) (filter_map (state_below q prefix) (rows_of d b log)) ≡ Some (is_active (edges d b (log_at d b log prefix)) q)
  states_told q log prefix legal = ap (last_or (Some (is_active (edges d b []) q))) (states_picked q prefix log (numbered log legal)) ∙ last_state q (log_at d b log prefix)

  -- the last change of an edge below a prefix, or else its first state, is its state at the prefix
  pub state_told : (log : List Entry) (prefix : ℕ) → IsDataset d → IsBase d b → Legal d b log → (p made : ℕ) (e : Edge) → slice_get (rows_of d b log) p ≡ Some (EdgeRow made e)
      → last_or (Some e.active) (filter_map (state_below e.pair prefix) (rows_of d b log)) ≡ Some (is_active (edges d b (log_at d b log prefix)) e.pair)
  state_told log prefix dataset base legal p made e h =
      ap (λ x. last_or (Some x) (filter_map (state_below e.pair prefix) (rows_of d b log))) (sym (edge_facts log dataset base legal p made e h).0) ∙ states_told e.pair log prefix legal
