-- Which entries wait: those that made or retired one of the roots.
use Rattle.std.proofs.Common.{◌≡◌, ℕ, ◌+◌, ◌<◌, Bool, true, false, ◌||◌, eqb, ltb, List, [], ◌∷◌, length, Option, Some, None, Result, Ok, Err, IfOk, refl, sym, ◌∙◌, ap, ap₂, subst, inl, inr, eq-eqb, arith}
use Rattle.std.specs.List.{AllByRecursion, filter_map, slice_get}
use Rattle.std.proofs.lemmas.Bool.{cond-true, cond-false, cases_Bool, eqb-true, false_from_ne_true, lt-ltb, ltb-true, or_cases, or_left, or_right, false≢true, ne_eqb}
use Rattle.std.proofs.lemmas.Option.{same_Some}
use Rattle.op_model.specs.declared.base.Dataset.{Dataset}
use Rattle.op_model.specs.declared.base.Base.{Base}
use Rattle.op_model.specs.declared.entry.Entry.{Entry}
use Rattle.graph_model.specs.Lists.{has}
use Rattle.graph_model.proofs.ListLemmas.{has_cases, has_head, has_none, has_tail, same_bool}
use Rattle.op_model.specs.Answers.{leaves, leaves_at, share}
use Rattle.op_model.specs.Operations.{ascending, entry_at, put_id}
use Rattle.op_model.specs.Valid.{IsAscending}
use Rattle.op_model.proofs.LegalLemmas.{all_has, ascending_has}
use Rattle.op_model.proofs.LockLemmas.{ascending_ascends}
use Rattle.op_model.proofs.MadeLemmas.{ascending_only}
use Rattle.layer_laws.proofs.OrderLemmas.{same_ascending}
use Rattle.record_rows.specs.Rows.{Node}
use Rattle.record_rows.specs.LogRows.{rows_of}
use Rattle.record_rows.specs.Readings.{HoldsNode}
use Rattle.record_rows.specs.Walks.{ended_below, if_below, retired_by}
use Rattle.change_laws.specs.Visits.{meets}
use Rattle.change_laws.proofs.Ancestry.{shared, share_only}
use Rattle.change_laws.proofs.Visiting.{meets_same}
use Rattle.change_reader.specs.Walks.{IsMadeBy, IsMadeRoot, IsUnretired, Waits}
use Rattle.change_reader.proofs.EndRows.{ended, first_end, names, rows_end}
use Rattle.change_reader.proofs.EntryPlaces.{at_entry}
use Rattle.change_reader.proofs.MadeRoots.{found_made}
use Rattle.change_reader.proofs.RootRows.{made_by_row, root_top, row_by, row_maker}

-- what follows for each value follows for one that is there
pub ok_more : {T E : Type 0} (P Q : T → Type 0) → ((x : T) → P x → Q x) → (r : Result T E) → IfOk r P → IfOk r Q
ok_more P Q f (Ok x) h = f x h
ok_more P Q f (Err e) h = h

-- an ascending list is its own
own_order : (xs : List ℕ) → IsAscending xs → xs ≡ ascending xs
own_order xs a = same_ascending xs (ascending xs) a (ascending_ascends xs) (λ w h. ascending_has xs w h) (λ w h. ascending_only xs w h)

-- with one more it ascends
pub put_ascends : (x : ℕ) (xs : List ℕ) → IsAscending xs → IsAscending (put_id x xs)
unfolding ascending
put_ascends x xs a = subst (λ ys. IsAscending (put_id x ys)) (sym (own_order xs a)) (ascending_ascends (x ∷ xs))

-- and has that one and the others
pub put_has : (x : ℕ) (xs : List ℕ) → IsAscending xs → (w : ℕ) → has (put_id x xs) w ≡ has (x ∷ xs) w
unfolding ascending
put_has x xs a w =
    ap (λ ys. has (put_id x ys) w) (own_order xs a)
    ∙ same_bool (has (ascending (x ∷ xs)) w) (has (x ∷ xs) w) (ascending_only (x ∷ xs) w) (ascending_has (x ∷ xs) w)

all_from : (P : ℕ → Type 0) (xs : List ℕ) → ((w : ℕ) → has xs w ≡ true → P w) → AllByRecursion P xs
all_from P [] f = tt
all_from P (x ∷ xs) f = (f x (has_head x xs), all_from P xs (λ w h. f w (has_tail x xs w h)))

put_few : (n x : ℕ) (xs : List ℕ) → IsAscending xs → x < n → AllByRecursion (λ m. m < n) xs → AllByRecursion (λ m. m < n) (put_id x xs)
put_few n x xs a l few =
    all_from (λ m. m < n) (put_id x xs)
    (λ w h. elim (has_cases x xs w (sym (put_has x xs a w) ∙ h)) [ inl q ↦ subst (λ z. z < n) q l | inr k ↦ all_has (λ m. m < n) xs w few k ])

-- an entry meets one more root
share_more : (xs : List ℕ) (r : ℕ) (roots : List ℕ) → share xs (r ∷ roots) ≡ (has xs r || share xs roots)
share_more xs r roots =
    same_bool (share xs (r ∷ roots)) (has xs r || share xs roots)
    (λ h. let p = share_only xs (r ∷ roots) h in
    elim (has_cases r roots p.0 p.2) [ inl q ↦ or_left (has xs r) _ (subst (λ z. has xs z ≡ true) (sym q) p.1) | inr k ↦ or_right (has xs r) _ (shared xs roots p.0 p.1 k) ])
    (λ h. elim (or_cases (has xs r) (share xs roots) h) [
      | inl k ↦ shared xs (r ∷ roots) r k (has_head r roots)
      | inr k ↦ (let p = share_only xs roots k in shared xs (r ∷ roots) p.0 p.1 (has_tail r roots p.0 p.2))
    ])

share_none : (xs : List ℕ) → share xs [] ≡ false
share_none xs = false_from_ne_true _ (λ t. let p = share_only xs [] t in has_none p.0 p.2)

pub meets_more : (e : Entry) (r : ℕ) (roots : List ℕ) → meets e (r ∷ roots) ≡ ((has e.made r || has e.retired r) || meets e roots)
unfolding meets
meets_more e r roots = ap₂ (λ (p q : Bool). p || q) (share_more e.made r roots) (share_more e.retired r roots) ∙ turn (has e.made r) (share e.made roots) (has e.retired r) (share e.retired roots)
  where
    turn : (x y z w : Bool) → ((x || y) || (z || w)) ≡ ((x || z) || (y || w))
    turn true y z w = refl
    turn false true true w = refl
    turn false true false w = refl
    turn false false z w = refl

pub meets_none : (e : Entry) → meets e [] ≡ false
unfolding meets
meets_none e = ap₂ (λ (p q : Bool). p || q) (share_none e.made) (share_none e.retired)

or_false : (x : Bool) → (x || false) ≡ x
or_false true = refl
or_false false = refl

eqb_turn : (x y : ℕ) → eqb x y ≡ eqb y x
eqb_turn x y = same_bool (eqb x y) (eqb y x) (λ h. eq-eqb y x (sym (eqb-true x y h))) (λ h. eq-eqb x y (sym (eqb-true y x h)))

module _ (d : Dataset) (b : Base) (log : List Entry) (words : List ℕ) (r n : ℕ) where
  -- with a root that none below retired, the entry that made it waits too
  pub waits_more : IsUnretired d b log words r n → (made : ℕ) → IsMadeBy log r n made → (roots waiting : List ℕ) → IsAscending roots → Waits log n roots waiting → Waits log n (put_id r roots) (put_id made waiting)
  waits_more u made m roots waiting a w = record {
    order = put_ascends made waiting w.order;
    few = put_few n made waiting w.order m.0 w.few;
    exact = λ k e h l.
        put_has made waiting w.order k
        ∙ (ap₂ (λ (p q : Bool). p || q) (eqb_turn made k ∙ sym (m.1 k e h)) (w.exact k e h l)
        ∙ sym (meets_same e (put_id r roots) (r ∷ roots) (put_has r roots a)
        ∙ (meets_more e r roots ∙ ap (λ (t : Bool). t || meets e roots) (ap (λ (t : Bool). has e.made r || t) (u.kept k e h l) ∙ or_false (has e.made r)))));
  }

-- the number that a root's record tells, and the one of the entry that retired it
unfoldable pub with_end : Option ℕ → List ℕ → List ℕ
with_end None xs = xs
with_end (Some k) xs = put_id k xs

module _ (d : Dataset) (b : Base) (log : List Entry) (words : List ℕ) (r prefix : ℕ) (i : IsMadeRoot d b log words r prefix) (p : ℕ) (n : Node) (h : HoldsNode d b log p n) (q : n.id ≡ r) where
  ended_all : (m : ℕ) (e : Entry) → entry_at log m ≡ Some e → has e.retired r ≡ names (first_end n log) m
  unfolding leaves
  ended_all m e at =
      let t = row_by d b log words r prefix i p n h q in
      let w = row_maker d b log words r prefix i n t in
      let g : Entry = w.0 in
      let a = w.1 in
      let l : n.made < length log = a.below in
      let held = (found_made d b log words i.image r (root_top d b log words r prefix i) p n h q (n.made + 1) (omega arith) (omega arith)).1 in
      let leaves_are : n.leaves ≡ leaves_at d b (g ∷ a.older) r =
      held ∙ (ap (λ x. leaves d b x r) a.with_it ∙ cond-true (has g.made r) (leaves_at d b (g ∷ a.older) r) (leaves d b a.older r) w.2) in
      ended d b i.image.dataset i.image.base n r g a.older a.count w.2 leaves_are log a.newer i.image.legal a.whole m e (at_entry d b log m e i.image.legal at)

  -- of the entry that retired it is told exactly
  ended_told : (o : Option ℕ) → o ≡ ended_below (rows_of d b log) n prefix → (m : ℕ) (e : Entry) → entry_at log m ≡ Some e → m < prefix → has e.retired r ≡ names o m
  unfolding ended_below if_below names
  ended_told o f m e at l = ended_all m e at ∙ sym (ap (λ x. names x m) (f ∙ ap (if_below prefix) (rows_end d b n log)) ∙ go (first_end n log))
    where
      go : (x : Option ℕ) → names (if_below prefix x) m ≡ names x m
      go None = refl
      go (Some k) = elim (cases_Bool (ltb k prefix)) [
        | inl t ↦ ap (λ x. names x m) (cond-true (ltb k prefix) (Some k) None t)
        | inr t ↦ (
            let no : eqb k m ≡ false = ne_eqb k m (λ s. false≢true (sym t ∙ lt-ltb k prefix (let z : k ≡ m = s in omega (arith, z, l)))) in
            ap (λ x. names x m) (cond-false (ltb k prefix) (Some k) None t) ∙ sym no
            )
      ]

  ended_few : (k : ℕ) → Some k ≡ ended_below (rows_of d b log) n prefix → k < prefix
  unfolding ended_below if_below
  ended_few k f = go (slice_get (filter_map (retired_by n) (rows_of d b log)) 0) f
    where
      go : (x : Option ℕ) → Some k ≡ if_below prefix x → k < prefix
      go None g = cc
      go (Some j) g = elim (cases_Bool (ltb j prefix)) [
        | inl t ↦ (let s : k ≡ j = same_Some _ _ (g ∙ cond-true (ltb j prefix) (Some j) None t) in let m : j < prefix = ltb-true j prefix t in omega arith)
        | inr t ↦ (let s : Some k ≡ None = g ∙ cond-false (ltb j prefix) (Some j) None t in cc)
      ]

  -- at first just the entries wait that made or retired the root
  pub first_waits : (o : Option ℕ) → o ≡ ended_below (rows_of d b log) n prefix → Waits log prefix (r ∷ []) (with_end o (n.made ∷ []))
  unfolding with_end names
  first_waits o f = go o f
    where
      m : IsMadeBy log r prefix n.made
      m = made_by_row d b log words r prefix i p n h q

      met : (o : Option ℕ) → o ≡ ended_below (rows_of d b log) n prefix → (k : ℕ) (e : Entry) → entry_at log k ≡ Some e → k < prefix → meets e (r ∷ []) ≡ (eqb n.made k || names o k)
      met o f k e at l =
          meets_more e r []
          ∙ (ap (λ (t : Bool). (has e.made r || has e.retired r) || t) (meets_none e)
          ∙ (or_false (has e.made r || has e.retired r)
          ∙ ap₂ (λ (x y : Bool). x || y) (m.1 k e at ∙ eqb_turn k n.made) (ended_told o f k e at l)))

      go : (o : Option ℕ) → o ≡ ended_below (rows_of d b log) n prefix → Waits log prefix (r ∷ []) (with_end o (n.made ∷ []))
      go None f = record { order = tt; few = (m.0, tt); exact = λ k e at l. sym (met None f k e at l) }
      go (Some j) f = record {
        order = put_ascends j (n.made ∷ []) tt;
        few = put_few prefix j (n.made ∷ []) tt (ended_few j f) (m.0, tt);
        exact = λ k e at l. put_has j (n.made ∷ []) tt k ∙ (turn (eqb j k) (eqb n.made k) ∙ sym (met (Some j) f k e at l));
      }
        where
          turn : (x y : Bool) → (x || (y || false)) ≡ (y || x)
          turn true true = refl
          turn true false = refl
          turn false true = refl
          turn false false = refl

  -- by lists as the code makes them
  pub waits_made : None ≡ ended_below (rows_of d b log) n prefix → {waiting : List ℕ} → waiting ≡ n.made ∷ [] → Waits log prefix (r ∷ []) waiting
  unfolding with_end
  waits_made f e = subst (Waits log prefix (r ∷ [])) (sym e) (first_waits None f)

  pub waits_ended : (k : ℕ) → Some k ≡ ended_below (rows_of d b log) n prefix → {waiting : List ℕ} → waiting ≡ put_id k (n.made ∷ []) → Waits log prefix (r ∷ []) waiting
  unfolding with_end
  waits_ended k f e = subst (Waits log prefix (r ∷ [])) (sym e) (first_waits (Some k) f)

pub waits_put : (log : List Entry) (n : ℕ) {roots rs waiting ws : List ℕ} → roots ≡ rs → waiting ≡ ws → Waits log n rs ws → Waits log n roots waiting
waits_put log n {rs = rs} {waiting = waiting} p q w = subst (λ xs. Waits log n xs waiting) (sym p) (subst (λ xs. Waits log n rs xs) (sym q) w)
