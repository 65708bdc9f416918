-- What the fixed words of an edge or a change tell.
use Rattle.std.proofs.Common.{◌≡◌, ℕ, ◌+◌, ◌*◌, ◌/◌, ◌%◌, ◌<◌, ◌^◌, Bool, true, false, eqb, List, get_or, refl, ◌∙◌, ap, arith, eq-eqb}
use Rattle.std.proofs.lemmas.Bool.{ne_eqb}
use Rattle.op_model.specs.declared.base.Dataset.{Dataset}
use Rattle.op_model.specs.declared.base.Base.{Base}
use Rattle.op_model.specs.declared.base.Edge.{Edge}
use Rattle.op_model.specs.declared.base.Weight.{Weight}
use Rattle.op_model.specs.declared.base.Weight.TheVariants.{Affinity, Glue}
use Rattle.op_model.specs.declared.entry.Changed.{Changed}
use Rattle.op_model.specs.declared.entry.Entry.{Entry}
use Rattle.record_rows.specs.Rows.{EdgeRow, ChangeRow}
use Rattle.record_rows.specs.Words.{bit, strength, fixed_words}
use Rattle.record_rows.specs.Readings.{Image, HoldsEdge, HoldsChange}
use Rattle.record_rows.proofs.ImageFacts.{image_fixed}
use Rattle.edge_rows.proofs.EdgeMeaning.{HasWeight, edge_facts}

made_part : (active : Bool) (made : ℕ) → (6 + bit active * 2 ^ 8 + made * 2 ^ 32) / 2 ^ 32 ≡ made
unfolding bit
made_part true made = omega arith
made_part false made = omega arith

state_part : (active : Bool) (kind made : ℕ) → kind < 256 → eqb ((kind + bit active * 2 ^ 8 + made * 2 ^ 32) / 256 % 2) 1 ≡ active
unfolding bit
state_part true kind made h = eq-eqb ((kind + 1 * 2 ^ 8 + made * 2 ^ 32) / 256 % 2) 1 (omega arith)
state_part false kind made h = ne_eqb ((kind + 0 * 2 ^ 8 + made * 2 ^ 32) / 256 % 2) 1 (λ e. absurd (let z : (kind + 0 * 2 ^ 8 + made * 2 ^ 32) / 256 % 2 ≡ 0 = omega arith in omega (arith, e, z)))

module _ (d : Dataset) (b : Base) (log : List Entry) (words : List ℕ) (i : Image d b log words) where
  pub greater_is : (p made : ℕ) (e : Edge) → HoldsEdge d b log p made e → get_or words (8 * p + 2) 0 ≡ e.pair.b
  unfolding fixed_words
  greater_is p made e h = image_fixed d b log words i p 2 (EdgeRow made e) h (omega arith)

  pub strength_is : (p made : ℕ) (e : Edge) → HoldsEdge d b log p made e → get_or words (8 * p + 3) 0 ≡ strength e.weight
  unfolding fixed_words
  strength_is p made e h = image_fixed d b log words i p 3 (EdgeRow made e) h (omega arith)

  pub weight_is : (p made : ℕ) (e : Edge) → HoldsEdge d b log p made e → HasWeight e.weight
  weight_is p made e h = (edge_facts d b log i.dataset i.base i.legal p made e h).1

  pub made_is : (p made : ℕ) (e : Edge) → HoldsEdge d b log p made e → get_or words (8 * p + 0) 0 / 4294967296 ≡ made
  unfolding fixed_words
  made_is p made e h = ap (λ x. x / 4294967296) (image_fixed d b log words i p 0 (EdgeRow made e) h (omega arith)) ∙ made_part e.active made

  pub first_state_is : (p made : ℕ) (e : Edge) → HoldsEdge d b log p made e → eqb (get_or words (8 * p + 0) 0 / 256 % 2) 1 ≡ e.active
  unfolding fixed_words
  first_state_is p made e h = ap (λ x. eqb (x / 256 % 2) 1) (image_fixed d b log words i p 0 (EdgeRow made e) h (omega arith)) ∙ state_part e.active 6 made (omega arith)

  pub changed_state_is : (p entry : ℕ) (c : Changed) → HoldsChange d b log p entry c → eqb (get_or words (8 * p + 0) 0 / 256 % 2) 1 ≡ c.active
  unfolding fixed_words
  changed_state_is p entry c h = ap (λ x. eqb (x / 256 % 2) 1) (image_fixed d b log words i p 0 (ChangeRow entry c) h (omega arith) ∙ omega arith) ∙ state_part c.active 7 0 (omega arith)

  pub changed_by_is : (p entry : ℕ) (c : Changed) → HoldsChange d b log p entry c → get_or words (8 * p + 3) 0 ≡ entry
  unfolding fixed_words
  changed_by_is p entry c h = image_fixed d b log words i p 3 (ChangeRow entry c) h (omega arith)

-- a strength of 32 bits tells the weight, where 0 stands for glue
pub strength_small : (w : Weight) → HasWeight w → strength w < 2 ^ 32
unfolding strength
strength_small (Affinity n) h = h.1
strength_small Glue h = omega arith

pub weight_glue : (w : Weight) → HasWeight w → strength w ≡ 0 → Glue ≡ w
unfolding strength
weight_glue (Affinity n) h z = absurd (omega (arith, h.0, z))
weight_glue Glue h z = refl

pub weight_affinity : (w : Weight) (n : ℕ) → n ≡ strength w → (n ≡ 0 → ⊥) → Affinity n ≡ w
unfolding strength
weight_affinity (Affinity m) n h z = ap (λ x. Affinity x) h
weight_affinity Glue n h z = absurd (z h)
