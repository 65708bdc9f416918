use Rattle.std.proofs.Common.{◌≡◌, ℕ, ◌++◌, [], ◌∷◌, List, sym, ◌∙◌, subst}
use Rattle.std.specs.Result.{IfOk}
use Rattle.op_model.specs.declared.entry.Entry.{Entry}
use Rattle.op_model.specs.Valid.{IsSupervoxel}
use Rattle.op_model.proofs.RootLemmas.{top_chunk}
use Rattle.op_model.proofs.LegalLemmas.{all_has}
use Rattle.record_rows.specs.Readings.{HoldsChunk, ParentImage}
use Rattle.record_rows.proofs.FirstRoots.{first_roots}
use Rattle.timestamp_reader.proofs.FirstWalks.{chunk_at, no_chunk, no_roots, top_held}
use Rattle.timestamp_reader.proofs.first_roots.first_roots.Goals as goal

pub collected-requires : goal.collected-requires
collected-requires g c =
    let r = c.requires.image in
    let image = subst (λ w. ParentImage r.0 r.1 r.2 (g.W.Words.words w)) (sym c.top_chunk-top.ensures.same) r.3 in
    record {
      chunk = (
        r.0,
        r.1,
        r.2,
        c.top_chunk-top.result,
        subst (λ w. ParentImage r.0 r.1 r.2 (g.W.Words.words w)) (sym (c.chunk.ensures.same ∙ c.top_chunk-top.ensures.same)) r.3,
        chunk_at r.0 r.1 r.2 c.top_chunk-top.result c.in-Some.spot (sym (c.chunk.ensures.found r.0 r.1 r.2 image) ∙ c.in-Some.is),
      );
    }

pub returns-in-Some-clause-is : goal.returns-in-Some-clause-is
returns-in-Some-clause-is g c d b newer e i =
    let log : List Entry = newer ++ e ∷ [] in
    let k : ℕ = c.top_chunk-top.result in
    let image = subst (λ w. ParentImage d b log (g.W.Words.words w)) (sym c.top_chunk-top.ensures.same) i in
    let later = subst (λ w. ParentImage d b log (g.W.Words.words w)) (sym (c.chunk.ensures.same ∙ c.top_chunk-top.ensures.same)) i in
    let held = chunk_at d b log k c.in-Some.spot (sym (c.chunk.ensures.found d b log image) ∙ c.in-Some.is) in
    let all = first_roots d b i.dataset i.base newer e k i.legal (λ v h. top_chunk d i.dataset v (all_has (IsSupervoxel d) b.supervoxels v i.base.supervoxels h) ∙ sym (c.top_chunk-top.ensures.is d b log i)) in
    subst (λ xs. IfOk c.collected.result (λ ids. ids ≡ xs)) all (c.collected.ensures.is d b log k later held)

pub returns-in-None-clause-is : goal.returns-in-None-clause-is
returns-in-None-clause-is g c d b newer e i =
    let log : List Entry = newer ++ e ∷ [] in
    let k : ℕ = c.top_chunk-top.result in
    let image = subst (λ w. ParentImage d b log (g.W.Words.words w)) (sym c.top_chunk-top.ensures.same) i in
    let none = no_chunk d b log k (sym (c.chunk.ensures.found d b log image) ∙ c.in-None.is) in
    c.new.ensures.items
    ∙ no_roots d b i.dataset i.base newer e i.legal
    (λ v h. let t = top_held d b log _ i v h in
    none t.0 (subst (HoldsChunk d b log t.0) (top_chunk d i.dataset v (all_has (IsSupervoxel d) b.supervoxels v i.base.supervoxels h) ∙ sym (c.top_chunk-top.ensures.is d b log i)) t.1))
