use Rattle.std.proofs.Common.{sym, subst}
use Rattle.record_rows.specs.Readings.{ParentImage}
use Rattle.touched_paths.specs.Climbing.{AreTops}
use Rattle.touched_paths.proofs.paths.paths_of.Goals as goal

pub climb-requires-clause-known : goal.climb-requires-clause-known
climb-requires-clause-known g c = c.requires.known

pub root_ids-requires : goal.root_ids-requires
root_ids-requires g c =
    let r = c.requires.known in
    record {
      tops = (
        r.0,
        r.1,
        r.2,
        c.args.ids.now,
        subst (λ w. ParentImage r.0 r.1 r.2 (g.W.Words.words w)) (sym c.in_ok-tops.ensures.same) r.3,
        subst (λ xs. AreTops r.0 r.1 r.2 c.args.ids.now xs) (sym c.deref.ensures.value) (c.in_ok-tops.ensures.tops r.0 r.1 r.2 r.3 r.4),
      );
    }

pub returns-clause-passed : goal.returns-clause-passed
returns-clause-passed g c d b log i k = c.in_ok-tops.ensures.passed d b log i k

pub returns-clause-tops : goal.returns-clause-tops
returns-clause-tops g c d b log i k = c.in_ok-tops.ensures.tops d b log i k

pub returns-clause-roots : goal.returns-clause-roots
returns-clause-roots g c d b log i k =
    c.in_ok-roots.ensures.is d b log c.args.ids.now (subst (λ w. ParentImage d b log (g.W.Words.words w)) (sym c.in_ok-tops.ensures.same) i)
    (subst (λ xs. AreTops d b log c.args.ids.now xs) (sym c.deref.ensures.value) (c.in_ok-tops.ensures.tops d b log i k))
