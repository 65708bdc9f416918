use Rattle.std.proofs.Common.{◌≤◌, length, sym, arith}
use mathlib.Core.Logic.{⊎_elim}
use Rattle.std.proofs.lemmas.Bool.{eqb-true, eqb-false}
use Rattle.node_ids.proofs.DigitLemmas.{none_where, parsed, unparsed, spells_plain, spells_utf8}
use Rattle.node_ids.proofs.digits.read_digits.Goals as goal
use Rattle.node_ids.proofs.digits.read_digits.Goals.{then-is_empty-via-then-is_empty, then-is_empty-via-else-is_empty+then-text-gt20}

pub returns-then-is_empty : goal.returns-then-is_empty
returns-then-is_empty c = sym (none_where c.args.text.now (λ s _.
    elim c.then-is_empty.branch [
      | then-is_empty-via-then-is_empty w ↦ omega (arith, s.some, eqb-true _ _ (sym w.if-is_empty.ensures))
      | then-is_empty-via-else-is_empty+then-text-gt20 w ↦ omega (arith, s.few)
    ]))

pub returns-then-text-gt1 : goal.returns-then-text-gt1
returns-then-text-gt1 c = sym (none_where c.args.text.now (λ s _. omega (arith, s.lead)))

pub returns-then-text-eq43 : goal.returns-then-text-eq43
returns-then-text-eq43 c = sym (none_where c.args.text.now (λ s _. spells_plain c.args.text.now s c.if-text-eq43.true))

pub returns-in_default : goal.returns-in_default
returns-in_default c = sym (none_where c.args.text.now (λ s _. c.in_default.ensures.cases.0 (spells_utf8 c.args.text.now s)))

pub returns-in_default-parse : goal.returns-in_default-parse
returns-in_default-parse c = sym (unparsed c.args.text.now c.in-Ok.text.now c.in-Ok.ensures.cases.0 c.in_default-parse.ensures.value.0)

pub returns : goal.returns
returns c = sym (parsed c.args.text.now c.in-Ok.text.now c.in-Ok-parse.number c.in-Ok.ensures.cases.0 c.in-Ok-parse.ensures.value.0
    some c.if-text-gt20.false (λ z. ⊎_elim (λ k. omega (arith, k.1, some)) (λ k. absurd (k z)) c.else-text-eq48.either) c.if-text-eq43.false)
  where
    some : 1 ≤ length c.args.text.now
    some = omega (arith, eqb-false _ _ (sym c.if-is_empty.ensures))
