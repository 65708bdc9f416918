-- Which entry retired a root is what the records tell from its own on.
use Rattle.std.proofs.Common.{◌≡◌, ℕ, ◌+◌, ◌<◌, ◌≤◌, Bool, true, false, cond, ◌&&◌, eqb, ltb, List, [], ◌∷◌, ◌++◌, length, map, Option, Some, None, refl, sym, ◌∙◌, ap, ap₂, subst, inl, inr, eq-eqb, arith, length-append, append_assoc}
use Rattle.std.specs.List.{AllByRecursion, cons_option, filter_map, slice_get}
use Rattle.std.proofs.lemmas.Bool.{cases_Bool, eqb-true, false_from_ne_true, lt-ltb, ltb-true}
use Rattle.std.proofs.lemmas.List.Elements.{filter_map-append}
use Rattle.op_model.specs.declared.base.Dataset.{Dataset}
use Rattle.op_model.specs.declared.base.Base.{Base}
use Rattle.op_model.specs.declared.entry.Entry.{Entry}
use Rattle.graph_model.specs.Lists.{has}
use Rattle.graph_model.proofs.ListLemmas.{same_bool}
use Rattle.op_model.specs.Answers.{leaves_at}
use Rattle.op_model.specs.Labels.{touches}
use Rattle.op_model.specs.Legal.{Legal}
use Rattle.op_model.specs.Valid.{IsDataset, IsBase}
use Rattle.op_model.proofs.HistoryLemmas.{legal_prefix}
use Rattle.record_rows.specs.Rows.{Row, SupervoxelRow, ChunkRow, NodeRow, LinkRow, EdgeRow, ChangeRow, ItemRow, EntryRow, Node}
use Rattle.record_rows.specs.Chains.{retires}
use Rattle.record_rows.specs.LogRows.{marks, chunks, new_edges, new_nodes, new_links, entry_rows, base_rows, rows_of}
use Rattle.record_rows.specs.Walks.{retired_by}
use Rattle.record_rows.proofs.DifferLemmas.{all_more}
use Rattle.record_rows.proofs.EntryRecords.{number_told, numbers_below}
use Rattle.log_rows.proofs.EntryParts.{none_picked}
use Rattle.change_laws.proofs.Ending.{end_once}
use Rattle.change_laws.proofs.Visiting.{made_once}
use Rattle.change_reader.proofs.EntryPlaces.{At, at_whole, each_entry, one_at, retired_only}
use Rattle.change_reader.proofs.RootFacts.{own_retired}

-- the first, or else the second
unfoldable pub or_else : Option ℕ → Option ℕ → Option ℕ
or_else None o = o
or_else (Some k) o = Some k

-- the number of the oldest entry whose record says that it retired the node
unfoldable pub first_end : Node → List Entry → Option ℕ
first_end n [] = None
first_end n (e ∷ log) = or_else (first_end n log) (retired_by n (EntryRow e))

-- whether this number is there
unfoldable pub names : Option ℕ → ℕ → Bool
names None m = false
names (Some k) m = eqb k m

head_first : (xs : List ℕ) (o p : Option ℕ) → slice_get xs 0 ≡ p → slice_get (xs ++ cons_option o []) 0 ≡ or_else p o
unfolding or_else
head_first [] None None h = h
head_first [] None (Some k) h = h
head_first [] (Some k) None h = refl
head_first [] (Some k) (Some j) h = cc
head_first (x ∷ xs) o p h = end p h
  where
    end : (p : Option ℕ) → Some x ≡ p → Some x ≡ or_else p o
    end None h = cc
    end (Some k) h = h

module _ (d : Dataset) (b : Base) (n : Node) where
  abbrev picked : List Row → List ℕ
  picked = filter_map (retired_by n)

  of_base : picked (base_rows d b) ≡ []
  unfolding base_rows retired_by
  of_base =
      let s : picked (map SupervoxelRow b.supervoxels) ≡ [] = none_picked (retired_by n) SupervoxelRow (λ v. refl) b.supervoxels in
      let c : picked (map ChunkRow (chunks d b)) ≡ [] = none_picked (retired_by n) ChunkRow (λ v. refl) (chunks d b) in
      filter_map-append (retired_by n) (map SupervoxelRow b.supervoxels) (map ChunkRow (chunks d b)) ∙ ap₂ (λ xs ys. xs ++ ys) s c

  of_entry : (log : List Entry) (e : Entry) → picked (entry_rows d b log e) ≡ cons_option (retired_by n (EntryRow e)) []
  unfolding entry_rows retired_by
  of_entry log e =
      let x1 : List Row = map (EdgeRow e.number) (new_edges d b log e) in
      let x2 : List Row = map NodeRow (new_nodes d b (e ∷ log) e.number) in
      let x3 : List Row = map LinkRow (new_links d b (e ∷ log) e.number) in
      let x4 : List Row = map ItemRow (marks e.number e.asked) in
      let x5 : List Row = map (ChangeRow e.number) e.changed in
      let p1 : picked x1 ≡ [] = none_picked (retired_by n) (EdgeRow e.number) (λ v. refl) (new_edges d b log e) in
      let p2 : picked x2 ≡ [] = none_picked (retired_by n) NodeRow (λ v. refl) (new_nodes d b (e ∷ log) e.number) in
      let p3 : picked x3 ≡ [] = none_picked (retired_by n) LinkRow (λ v. refl) (new_links d b (e ∷ log) e.number) in
      let p4 : picked x4 ≡ [] = none_picked (retired_by n) ItemRow (λ v. refl) (marks e.number e.asked) in
      let p5 : picked x5 ≡ [] = none_picked (retired_by n) (ChangeRow e.number) (λ v. refl) e.changed in
      skip x1 _ p1 ∙ (skip x2 _ p2 ∙ (skip x3 _ p3 ∙ (skip x4 _ p4 ∙ skip x5 _ p5)))
    where
      skip : (xs ys : List Row) → picked xs ≡ [] → picked (xs ++ ys) ≡ picked ys
      skip xs ys h = filter_map-append (retired_by n) xs ys ∙ ap (λ zs. zs ++ picked ys) h

  pub rows_end : (log : List Entry) → slice_get (picked (rows_of d b log)) 0 ≡ first_end n log
  unfolding rows_of first_end
  rows_end [] = ap (λ xs. slice_get xs 0) of_base
  rows_end (e ∷ log) =
      ap (λ xs. slice_get xs 0) (filter_map-append (retired_by n) (rows_of d b log) (entry_rows d b log e) ∙ ap (λ xs. picked (rows_of d b log) ++ xs) (of_entry log e))
      ∙ head_first (picked (rows_of d b log)) (retired_by n (EntryRow e)) (first_end n log) (rows_end log)

module _ (d : Dataset) (b : Base) (valid : IsDataset d) (base : IsBase d b) (n : Node) (r : ℕ) (g : Entry) (older : List Entry) (made : n.made ≡ length older) (own : has g.made r ≡ true) (holds : n.leaves ≡ leaves_at d b (g ∷ older) r) where
  -- no entry of the log retired the root, or the one of this number did
  abbrev Told : List Entry → Option ℕ → Type 0
  Told log None = AllByRecursion (λ e. has e.retired r ≡ false) log
  Told log (Some k) = (xs : List Entry) × (e : Entry) × (ys : List Entry) × (log ≡ xs ++ e ∷ ys) × (e.number ≡ k) × (has e.retired r ≡ true)

  -- up to its maker none did
  none_yet : Legal d b (g ∷ older) → AllByRecursion (λ e. has e.retired r ≡ false) (g ∷ older)
  none_yet legal = (
    false_from_ne_true _ (λ t. own_retired d b valid base g older r legal own t),
    all [] older refl,
  )
    where
      all : (xs ys : List Entry) → older ≡ xs ++ ys → AllByRecursion (λ e. has e.retired r ≡ false) ys
      all xs [] q = tt
      all xs (e ∷ ys) q = (
        false_from_ne_true _ (λ t. made_once d b valid base g older r legal own (xs, ys, e, q, t)),
        all (xs ++ e ∷ []) ys (q ∙ sym (append_assoc xs (e ∷ []) ys)),
      )

  -- nor do their records say so
  none_shown : (log : List Entry) → AllByRecursion (λ e. e.number ≤ n.made) log → first_end n log ≡ None
  unfolding first_end retired_by retires or_else
  none_shown [] a = refl
  none_shown (e ∷ log) a =
      let l : ltb n.made e.number ≡ false = false_from_ne_true _ (λ t. let k : n.made < e.number = ltb-true n.made e.number t in let m = a.0 in omega arith) in
      ap₂ (λ o (t : Bool). or_else o (cond (t && touches e.changed n.leaves) (Some e.number) None)) (none_shown log a.1) l

  none_first : Legal d b (g ∷ older) → first_end n (g ∷ older) ≡ None
  none_first legal = none_shown (g ∷ older) (all_more (λ e. e.number < length (g ∷ older)) (λ e. e.number ≤ n.made) (g ∷ older) (λ e l. let m = made in omega (arith, m, l)) (numbers_below d b g older legal))

  rest : (x : Entry) (newer : List Entry) → Legal d b (x ∷ (newer ++ g ∷ older)) → Legal d b (newer ++ g ∷ older)
  rest x [] l = l.1
  rest x (f ∷ newer) l = l.1

  front : (newer : List Entry) → AllByRecursion (λ e. has e.retired r ≡ false) (newer ++ g ∷ older) → AllByRecursion (λ e. has e.retired r ≡ false) newer
  front [] a = tt
  front (f ∷ newer) a = (a.0, front newer a.1)

  -- the first that says so is the one that did
  pub told : (newer : List Entry) → Legal d b (newer ++ g ∷ older) → Told (newer ++ g ∷ older) (first_end n (newer ++ g ∷ older))
  unfolding first_end or_else retired_by retires
  told [] legal = subst (Told (g ∷ older)) (sym (none_first legal)) (none_yet legal)
  told (x ∷ newer) legal = go (first_end n (newer ++ g ∷ older)) refl (told newer (rest x newer legal))
    where
      shown : AllByRecursion (λ e. has e.retired r ≡ false) (newer ++ g ∷ older) → (t : Bool) → has x.retired r ≡ t → retired_by n (EntryRow x) ≡ cond t (Some x.number) None
      shown a t q =
          let k : x.number ≡ length (newer ++ g ∷ older) = number_told d b x (newer ++ g ∷ older) legal in
          let s : length (newer ++ g ∷ older) ≡ length newer + length (g ∷ older) = length-append newer (g ∷ older) in
          let l : ltb n.made x.number ≡ true = lt-ltb n.made x.number (let m = made in omega (arith, m, k, s)) in
          let e : touches x.changed n.leaves ≡ t = ap (touches x.changed) holds ∙ (sym (end_once d b valid base x g newer older r legal own (front newer a)) ∙ q) in
          ap₂ (λ (u v : Bool). cond (u && v) (Some x.number) None) l e

      go : (o : Option ℕ) → first_end n (newer ++ g ∷ older) ≡ o → Told (newer ++ g ∷ older) o → Told (x ∷ (newer ++ g ∷ older)) (or_else o (retired_by n (EntryRow x)))
      go (Some k) q t = (x ∷ t.0, t.1, t.2, ap (λ l. x ∷ l) t.3, t.4, t.5)
      go None q t = elim (cases_Bool (has x.retired r)) [
        | inl h ↦ subst (Told (x ∷ (newer ++ g ∷ older))) (sym (shown t true h)) ([], x, newer ++ g ∷ older, refl, refl, h)
        | inr h ↦ subst (Told (x ∷ (newer ++ g ∷ older))) (sym (shown t false h)) (h, t)
      ]

  -- so of the entries it alone did
  pub ended : (log newer : List Entry) → Legal d b log → log ≡ newer ++ g ∷ older → (m : ℕ) (e : Entry) → At d b log m e → has e.retired r ≡ names (first_end n log) m
  unfolding names
  ended log newer legal w m e at =
      go (first_end n log) (subst (λ l. Told l (first_end n l)) (sym w) (told newer (subst (Legal d b) w legal)))
    where
      go : (o : Option ℕ) → Told log o → has e.retired r ≡ names o m
      go None t = each_entry (λ x. has x.retired r ≡ false) at.newer e at.older (subst (AllByRecursion (λ x. has x.retired r ≡ false)) at.whole t)
      go (Some k) t =
          let f : Entry = t.1 in
          let here = at_whole d b log t.0 f t.2 legal t.3 in
          let c : k ≡ length t.2 = sym t.4 ∙ number_told d b f t.2 (legal_prefix d b t.0 f t.2 (subst (Legal d b) t.3 legal)) in
          same_bool (has e.retired r) (eqb k m)
          (λ h. eq-eqb k m (c ∙ retired_only d b valid base log r (length t.2) m f e here at t.5 h))
          (λ h. let s : m ≡ length t.2 = sym (eqb-true k m h) ∙ c in subst (λ x. has x.retired r ≡ true) (one_at d b log (length t.2) f e here (subst (λ x. At d b log x e) s at)) t.5)
