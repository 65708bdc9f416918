-- The state of a pair, by the edges and by either order of its ends.
use Rattle.std.proofs.Common.{◌≡◌, ◌<◌, Bool, true, false, cond, not, ◌&&◌, ◌||◌, eqb, List, [], ◌∷◌, refl, sym, ◌∙◌, ap, arith}
use Rattle.std.specs.List.{AllByRecursion}
use Rattle.std.proofs.lemmas.Bool.{eqb-true}
use Rattle.std.proofs.Math.Bool.{or-false}
use Rattle.op_model.specs.declared.base.Dataset.{Dataset}
use Rattle.op_model.specs.declared.base.Base.{Base}
use Rattle.op_model.specs.declared.entry.Changed.{Changed}
use Rattle.op_model.specs.declared.base.Edge.{Edge}
use Rattle.op_model.specs.declared.entry.Entry.{Entry}
use Rattle.op_model.specs.declared.base.Pair.{Pair}
use Rattle.op_model.specs.Edges.{joins, linked, same_pair}
use Rattle.op_model.specs.Labels.{edges}
use Rattle.op_model.specs.Laws.{IsKnown}
use Rattle.op_model.specs.Legal.{Legal}
use Rattle.op_model.specs.Valid.{IsBase}
use Rattle.op_model.proofs.KnownLemmas.{legal_known}
use Rattle.record_rows.specs.Walks.{is_active}
use Rattle.undo_redo.specs.Turns.{is_overtaken}

joins_same : (q p : Pair) → q.a < q.b → p.a < p.b → joins q p.a p.b ≡ same_pair q p
unfolding joins same_pair
joins_same q p l m = go (eqb q.a p.b) refl (eqb q.b p.a) refl
  where
    go : (s : Bool) → eqb q.a p.b ≡ s → (t : Bool) → eqb q.b p.a ≡ t → ((eqb q.a p.a && eqb q.b p.b) || (s && t)) ≡ (eqb q.a p.a && eqb q.b p.b)
    go true h true k = absurd (let x : q.a ≡ p.b = eqb-true q.a p.b h in let y : q.b ≡ p.a = eqb-true q.b p.a k in omega arith)
    go true h false k = or-false (eqb q.a p.a && eqb q.b p.b)
    go false h t k = or-false (eqb q.a p.a && eqb q.b p.b)

swap : (s t : Bool) → (s && t) ≡ (t && s)
swap true true = refl
swap true false = refl
swap false true = refl
swap false false = refl

linked_active : (b : Base) (es : List Edge) (p : Pair) → p.a < p.b → AllByRecursion (λ f. IsKnown b f.pair) es → linked es p.a p.b ≡ is_active es p
unfolding linked is_active
linked_active b [] p l a = refl
linked_active b (e ∷ es) p l a =
    ap (λ t. (e.active && t) || linked es p.a p.b) (joins_same e.pair p a.0.2 l)
    ∙ (ap (λ t. t || linked es p.a p.b) (swap e.active (same_pair e.pair p)) ∙ ap (λ t. (same_pair e.pair p && e.active) || t) (linked_active b es p l a.1))

pub overtaken_by_state : (d : Dataset) (b : Base) (log : List Entry) (c : Changed) (state : Bool) → IsBase d b → Legal d b log → IsKnown b c.pair → state ≡ is_active (edges d b log) c.pair
    → (state ≡ c.active → is_overtaken (edges d b log) c ≡ false) × (state ≡ not c.active → is_overtaken (edges d b log) c ≡ true)
unfolding is_overtaken
overtaken_by_state d b log c state base legal k h =
    let same : linked (edges d b log) c.pair.a c.pair.b ≡ state = linked_active b (edges d b log) c.pair k.2 (legal_known d b base log legal).1 ∙ sym h in
    (λ e. ap (λ t. cond c.active (not t) t) (same ∙ e) ∙ agree c.active, λ n. ap (λ t. cond c.active (not t) t) (same ∙ n) ∙ differ c.active)
  where
    agree : (a : Bool) → cond a (not a) a ≡ false
    agree true = refl
    agree false = refl

    differ : (a : Bool) → cond a (not (not a)) (not a) ≡ true
    differ true = refl
    differ false = refl
