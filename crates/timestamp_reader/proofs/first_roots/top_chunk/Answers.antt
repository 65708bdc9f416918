use Rattle.std.proofs.Common.{◌≡◌, ℕ, ◌≤◌, ◌∙◌, length, get_or, refl, sym, subst, ap, ap₂, arith}
use Rattle.std.specs.Result.{IsOk, IfOk}
use Rattle.node_ids.specs.Ids.{id_of}
use Rattle.op_model.specs.Chunks.{top}
use Rattle.record_rows.proofs.ImageFacts.{header, within}
use Rattle.record_rows.proofs.ToldLaws.{headers_state}
use Rattle.timestamp_reader.proofs.FirstWalks.{zero_packs}
use Rattle.timestamp_reader.proofs.first_roots.top_chunk.Goals as goal

pub fixed-word-requires-clause-within : goal.fixed-word-requires-clause-within
fixed-word-requires-clause-within g c =
    let r = c.requires.image in
    let w = within r.0 r.1 r.2 _ r.3 0 _ (header r.0 r.1 r.2 _ r.3) in
    subst (λ x. 8 ≤ length (g.W.Words.words x)) (sym c.top_of-layer.ensures.same) (omega (arith, w))

pub layout_of-requires : goal.layout_of-requires
layout_of-requires g c =
    let r = c.requires.image in
    record { stated = (r.0, r.3.dataset, c.fixed-word.ensures.is ∙ (ap (λ x. get_or (g.W.Words.words x) 0 0) c.top_of-layer.ensures.same ∙ (headers_state r.0 r.1 _ r.2 r.3.parents).0)) }

pub unwrap-requires : goal.unwrap-requires
unwrap-requires g c = subst IsOk (sym (c.pack.ensures ∙ zero_packs c.layout_of.result c.top_of-layer.result)) refl

pub returns-clause-is : goal.returns-clause-is
returns-clause-is g c d b log i =
    let word = c.fixed-word.ensures.is ∙ (ap (λ x. get_or (g.W.Words.words x) 0 0) c.top_of-layer.ensures.same ∙ (headers_state d b _ log i.parents).0) in
    let layout : c.layout_of.result ≡ d.layout = c.layout_of.ensures.is d i.dataset word in
    let layer : c.top_of-layer.result ≡ top d = c.top_of-layer.ensures.is d b log i in
    let p : ℕ = id_of c.layout_of.result (record { layer = c.top_of-layer.result; x = 0; y = 0; z = 0; segment = 0 }) in
    subst (λ r. IfOk r (λ y. y ≡ p)) c.unwrap.ensures (subst (λ r. IfOk r (λ y. y ≡ p)) (sym (c.pack.ensures ∙ zero_packs c.layout_of.result c.top_of-layer.result)) refl)
    ∙ ap₂ (λ f l. id_of f (record { layer = l; x = 0; y = 0; z = 0; segment = 0 })) layout layer
