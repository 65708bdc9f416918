use Rattle.std.proofs.Common.{arith, ℕ, ◌≡◌, ◌≤◌, ◌<◌, sym, ◌∙◌, inl, inr}
use Rattle.std.proofs.lemmas.Bool.{cases_lt}
use Rattle.chunk_geometry.specs.Chunks.{chunk_at}
use Rattle.chunk_geometry.proofs.LayerLemmas.{cell_same, level_is, one_chunk}
use Rattle.chunk_geometry.proofs.grid.Grid.level.Goals as goal

-- no layer below a number has it, so it is at most each that has it
at_most : (P : ℕ → Type 0) (found : ℕ) → ((other : ℕ) → 2 ≤ other → other < found → P other → ⊥) → (other : ℕ) → 2 ≤ other → P other → found ≤ other
at_most P found none other low is = elim (cases_lt other found) [ inl less ↦ absurd (none other low less is) | inr more ↦ more ]

pub returns-then-eq-clause-is : goal.returns-then-eq-clause-is
returns-then-eq-clause-is c =
    level_is c.args.a c.args.b c.loop-layer.layer (omega arith) (omega arith)
    (sym c.chunk_at.ensures ∙ cell_same _ _ (sym c.if-eq.ensures) ∙ c.chunk_at-in-loop-layer.ensures)
    (at_most (λ other. chunk_at other c.args.a ≡ chunk_at other c.args.b) c.loop-layer.layer c.loop-layer.invariant)

joint : (c : goal.After-loop-layer) → chunk_at c.top_layer-top.result c.args.a ≡ chunk_at c.top_layer-top.result c.args.b
joint c = one_chunk c.args.self.now c.args.a c.args.b c.top_layer-top.result c.top_layer-top.ensures.one c.requires.a c.requires.b

pub returns-clause-is : goal.returns-clause-is
returns-clause-is c =
    level_is c.args.a c.args.b c.top_layer-top.result (omega arith) (omega arith) (joint c)
    (at_most (λ other. chunk_at other c.args.a ≡ chunk_at other c.args.b) c.top_layer-top.result (λ other low less is. c.loop-layer.invariant other low (omega arith) is))

pub returns-clause-joint : goal.returns-clause-joint
returns-clause-joint c = joint c
