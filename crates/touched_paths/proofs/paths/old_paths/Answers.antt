use Rattle.std.proofs.Common.{◌≡◌, ◌∙◌, ℕ, List, true, sym, ap, subst, IsTrue}
use Rattle.std.specs.List.{AllByRecursion}
use Rattle.op_model.specs.declared.base.Base.{Base}
use Rattle.op_model.specs.declared.entry.Changed.{Changed}
use Rattle.graph_model.specs.Lists.{has}
use Rattle.op_model.specs.Labels.{root}
use Rattle.op_model.specs.Laws.{IsKnown}
use Rattle.op_model.specs.Operations.{ends}
use Rattle.op_model.proofs.MadeLemmas.{ends_known}
use Rattle.touched_paths.proofs.Passing.{on_paths, roots_members, tops_members}
use Rattle.touched_paths.proofs.paths.old_paths.Goals as goal

all_known : (b : Base) (cs : List Changed) (ids xs : List ℕ) → xs ≡ ids → ((u : ℕ) → has ids u ≡ has (ends cs) u) → AllByRecursion (λ c. IsKnown b c.pair) cs → (u : ℕ) → IsTrue (has xs u) → IsTrue (has b.supervoxels u)
all_known b cs ids xs e same k u h = ends_known b cs u k (sym (same u) ∙ subst (λ ys. has ys u ≡ true) e h)

members : (cs : List Changed) (ids xs : List ℕ) → xs ≡ ids → ((u : ℕ) → has ids u ≡ has (ends cs) u) → (u : ℕ) → has xs u ≡ has (ends cs) u
members cs ids xs e same u = ap (λ ys. has ys u) e ∙ same u

pub paths_of-requires : goal.paths_of-requires
paths_of-requires g c =
    let r = c.requires.known in
    record { known = (r.0, r.1, r.2, r.3, all_known r.1 c.args.changed.now c.in_ok-ids.ids.items c.deref.result.now c.deref.ensures.value c.in_ok-ids.ensures.same r.4) }

pub returns-clause-places : goal.returns-clause-places
returns-clause-places g c d b log e i k q =
    let known = all_known b c.args.changed.now c.in_ok-ids.ids.items c.deref.result.now c.deref.ensures.value c.in_ok-ids.ensures.same k in
    on_paths d b log (g.W.Words.words c.args.w.now) i c.deref.result.now c.in_ok-paths.paths.places.items e
    (λ u. members c.args.changed.now c.in_ok-ids.ids.items c.deref.result.now c.deref.ensures.value c.in_ok-ids.ensures.same u ∙ ap (λ cs. has (ends cs) u) (sym q))
    known (c.in_ok-paths.ensures.passed d b log i known)

pub returns-clause-tops : goal.returns-clause-tops
returns-clause-tops g c d b log i k =
    tops_members d b log c.deref.result.now (ends c.args.changed.now) c.in_ok-paths.paths.tops.items
    (members c.args.changed.now c.in_ok-ids.ids.items c.deref.result.now c.deref.ensures.value c.in_ok-ids.ensures.same)
    (c.in_ok-paths.ensures.tops d b log i (all_known b c.args.changed.now c.in_ok-ids.ids.items c.deref.result.now c.deref.ensures.value c.in_ok-ids.ensures.same k))

pub returns-clause-roots : goal.returns-clause-roots
returns-clause-roots g c d b log i k =
    c.in_ok-paths.ensures.roots d b log i (all_known b c.args.changed.now c.in_ok-ids.ids.items c.deref.result.now c.deref.ensures.value c.in_ok-ids.ensures.same k)
    ∙ roots_members (root d b log) c.deref.result.now (ends c.args.changed.now)
    (members c.args.changed.now c.in_ok-ids.ids.items c.deref.result.now c.deref.ensures.value c.in_ok-ids.ensures.same)
