-- The leaves and the active edges of a split's component.
use Rattle.std.proofs.Common.{◌≡◌, ℕ, ◌^◌, ◌<◌, Bool, true, false, cond, ◌&&◌, List, [], ◌∷◌, length, get_or, None, Result, Ok, Err, refl, sym, ◌∙◌, ap, subst, arith, IsTrue}
use Rattle.std.specs.Prelude.{IfOk}
use Rattle.std.specs.List.{AllByRecursion, filter}
use Rattle.std.proofs.lemmas.Bool.{and_parts}
use Rattle.op_model.specs.declared.base.Dataset.{Dataset}
use Rattle.op_model.specs.declared.base.Base.{Base}
use Rattle.op_model.specs.declared.base.Edge.{Edge}
use Rattle.op_model.specs.declared.request.Edit.TheVariants.{Split}
use Rattle.op_model.specs.declared.entry.Entry.{Entry}
use Rattle.graph_model.specs.Lists.{has}
use Rattle.op_model.specs.Chunks.{top}
use Rattle.op_model.specs.Cuts.{part}
use Rattle.op_model.specs.Labels.{component, edges, root}
use Rattle.op_model.specs.Refusals.{refuse_early}
use Rattle.op_model.specs.Valid.{IsAscending}
use Rattle.op_model.proofs.LabelLemmas.{own_component}
use Rattle.op_model.proofs.LocalLemmas.{top_in_layers}
use Rattle.op_model.proofs.OrderLemmas.{part_ascends}
use Rattle.record_rows.specs.Rows.{Node}
use Rattle.record_rows.specs.Readings.{HoldsNode, ParentImage}
use Rattle.node_reader.proofs.NodeLeaves.{record_tells}
use Rattle.component_reader.specs.Among.{active_among, leads}
use Rattle.component_reader.specs.Laws.{IsOfRoot}
use Rattle.component_reader.proofs.Parts.{part_among}
use Rattle.component_reader.proofs.RootLeaves.{leaves_ascend, leaves_known}
use Rattle.root_masks.specs.Plans.{AreKnown}
use Rattle.split_net.specs.Parts.{AreMarks, IsPart}
use Rattle.edit_split.specs.Components.{AreRootLeaves}
use Rattle.edit_split.proofs.Located.{leaves_few}
use Rattle.edit_split.proofs.Refused.{Passes, passes}

passing : (test : Edge → Bool) (es : List Edge) → AllByRecursion (λ e. test e ≡ true) (filter test es)
passing test [] = tt
passing test (e ∷ es) = go (test e) refl (passing test es)
  where
    go : (t : Bool) → test e ≡ t → AllByRecursion (λ x. test x ≡ true) (filter test es) → AllByRecursion (λ x. test x ≡ true) (cond t (e ∷ filter test es) (filter test es))
    go true q a = (q, a)
    go false q a = a

all_also : {X : Type 0} (P Q : X → Type 0) (xs : List X) → ((x : X) → P x → Q x) → AllByRecursion P xs → AllByRecursion Q xs
all_also P Q [] f a = tt
all_also P Q (x ∷ xs) f a = (f x a.0, all_also P Q xs f a.1)

all_both : (P Q R : ℕ → Type 0) (xs : List ℕ) → ((x : ℕ) → P x → Q x → R x) → AllByRecursion P xs → AllByRecursion Q xs → AllByRecursion R xs
all_both P Q R [] f a b = tt
all_both P Q R (x ∷ xs) f a b = (f x a.0 b.0, all_both P Q R xs f a.1 b.1)

ends_among : (es : List Edge) (vs : List ℕ) → AllByRecursion (λ e. IsTrue (has vs e.pair.a) × IsTrue (has vs e.pair.b)) (active_among es vs)
unfolding active_among leads
ends_among es vs =
    all_also (λ (e : Edge). ((e.active && has vs e.pair.a) && has vs e.pair.b) ≡ true) (λ e. IsTrue (has vs e.pair.a) × IsTrue (has vs e.pair.b)) _
    (λ e t. let p = and_parts (e.active && has vs e.pair.a) (has vs e.pair.b) t in ((and_parts e.active (has vs e.pair.a) p.0).1, p.1)) (passing _ es)

-- the leaves in a node's record are those of its supervoxels
in_leaves : (d : Dataset) (b : Base) (log : List Entry) (words : List ℕ) → ParentImage d b log words → (p : ℕ) (n : Node) → HoldsNode d b log p n → (v : ℕ) → has b.supervoxels v ≡ true → n.id ≡ root d b log v → has n.leaves v ≡ true
unfolding root
in_leaves d b [] words i p n h v hv e = absurd i.legal
in_leaves d b (x ∷ older) words i p n h v hv e =
    let tells : n.leaves ≡ component d b (x ∷ older) (top d) v = record_tells d b i.dataset i.base [] x older i.legal p n h (top d) v (top_in_layers d) hv e in
    subst (λ vs. has vs v ≡ true) (sym tells) (own_component d b (x ∷ older) (top d) v hv)

module _ (d : Dataset) (b : Base) (log : List Entry) (words : List ℕ) (i : ParentImage d b log words) (sources sinks : List ℕ) (h : refuse_early d b log (Split sources sinks) ≡ None)
    (all : List ℕ) (roots : AreRootLeaves d b log (get_or sources 0 0) all) where
  ok : Passes d b log sources sinks
  ok = passes d b log sources sinks h

  first_known : has b.supervoxels (get_or sources 0 0) ≡ true
  first_known = go sources (passes d b log sources sinks h).some_sources (passes d b log sources sinks h).known_sources
    where
      go : (xs : List ℕ) → 0 < length xs → AreKnown b xs → has b.supervoxels (get_or xs 0 0) ≡ true
      go [] l a = absurd (omega arith)
      go (x ∷ xs) l a = a.0

  pub leaves_are_known : AreKnown b all
  leaves_are_known = let (p, n, s, e, q) = roots in subst (AreKnown b) (sym q) (leaves_known d b i.dataset i.base log i.legal p n s)

  pub leaves_rise : IsAscending all
  leaves_rise = let (p, n, s, e, q) = roots in subst IsAscending (sym q) (leaves_ascend d b i.dataset i.base log i.legal p n s)

  pub part_is : part d b log sources ≡ active_among (edges d b log) all
  part_is =
      let (p, n, s, e, q) = roots in
      part_among d b i.dataset i.base log p n sources i.legal s (passes d b log sources sinks h).some_sources
      (all_both (λ v. has b.supervoxels v ≡ true) (λ v. root d b log v ≡ root d b log (get_or sources 0 0)) (IsOfRoot d b log n.id) sources (λ v k r. (k, r ∙ sym e)) (passes d b log sources sinks h).known_sources (passes d b log sources sinks h).rooted_sources)
      ∙ ap (active_among (edges d b log)) (sym q)

  pub is_part : IsPart all (part d b log sources)
  is_part =
      let (p, n, s, e, q) = roots in
      let up = part_ascends d b i.base log sources i.legal in
      record {
        rising = leaves_rise;
        few = subst (λ vs. length vs < 2 ^ 32) (sym q) (leaves_few d b log words i (get_or sources 0 0) first_known p n s e);
        ascending = up.0;
        lesser = up.1;
        within = subst (λ es. AllByRecursion (λ e. IsTrue (has all e.pair.a) × IsTrue (has all e.pair.b)) es) (sym part_is) (ends_among (edges d b log) all);
      }

  are_leaves : (marks : List ℕ) → AreKnown b marks → AllByRecursion (λ v. root d b log v ≡ root d b log (get_or sources 0 0)) marks → AllByRecursion (λ v. IsTrue (has all v)) marks
  are_leaves marks a r =
      let (p, n, s, e, q) = roots in
      all_both (λ v. has b.supervoxels v ≡ true) (λ v. root d b log v ≡ root d b log (get_or sources 0 0)) (λ v. IsTrue (has all v)) marks
      (λ v k t. subst (λ vs. has vs v ≡ true) (sym q) (in_leaves d b log words i p n s v k (e ∙ sym t))) a r

  pub sources_are : AreMarks all sources
  sources_are = let k = passes d b log sources sinks h in (k.some_sources, are_leaves sources k.known_sources k.rooted_sources)

  pub sinks_are : AreMarks all sinks
  sinks_are = let k = passes d b log sources sinks h in (k.some_sinks, are_leaves sinks k.known_sinks k.rooted_sinks)

-- the leaves that were read are those of the root
pub leaves_told : {E : Type 0} (d : Dataset) (b : Base) (log : List Entry) (v p : ℕ) (n : Node) (answer : Result (List ℕ) E) → HoldsNode d b log p n → n.id ≡ root d b log v → IfOk answer (λ ids. ids ≡ n.leaves) → IfOk answer (AreRootLeaves d b log v)
leaves_told d b log v p n (Ok ids) h e q = (p, n, h, e, q)
leaves_told d b log v p n (Err x) h e q = tt
