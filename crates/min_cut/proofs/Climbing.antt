-- Walks that go up one level with each link.
use Rattle.std.proofs.Common.{◌≡◌, ℕ, zero, suc, ◌+◌, ◌-◌, ◌*◌, ◌<◌, ◌≤◌, Bool, true, false, cond, List, [], ◌∷◌, length, get_or, set, ℤ, sym, ap, ◌∙◌, subst, inl, inr, arith, get_or-set_same, count_by, eq-or-lt_of_le}
use Rattle.std.proofs.lemmas.List.{get_or-set_other}
use Rattle.std.proofs.lemmas.List.Sums.{sum_by-set}
use Rattle.std.proofs.lemmas.Bool.{cases_eq, false≢true}
use Rattle.graph_model.specs.Wires.{Wire, wire, EndsBelow}
use Rattle.min_cut.specs.declared.blocking.Step.{Step}
use Rattle.graph_model.specs.Lists.{has}
use Rattle.graph_model.specs.Cuts.{weight, is_affinity}
use Rattle.graph_model.proofs.Walks.{has_decides}
use Rattle.graph_model.proofs.ListLemmas.{any_default}
use Rattle.min_cut.specs.Moves.{Moves}
use Rattle.min_cut.specs.Flowing.{Flowing, Apart}
use Rattle.min_cut.specs.Tree.{Carries, PushedOver, AllFit}
use Rattle.min_cut.proofs.Flowing.{flowing_on, flowing_below}
use Rattle.min_cut.specs.Queue.{marked}
use Rattle.min_cut.specs.Steps.{step_at, no_step, IsStep, Climbs, AllAlive}

module _ (ws : List Wire) (fs : List ℤ) (level : ℕ → ℕ) (steps : List Step) (source : ℕ) where
  -- the level of its end is how many links it has
  pub climbs_level : (d at : ℕ) → Climbs ws fs level steps source d at → level at ≡ d
  climbs_level zero at (e, z) = ap level e ∙ z
  climbs_level (suc d) at (s, c) = let i = climbs_level d (step_at steps d).from c in let u = s.up in omega arith

  pub climbs_some : (d at : ℕ) → Climbs ws fs level steps source d at → (i : ℕ) → i < d → 0 < (step_at steps i).room
  climbs_some zero at c i l = absurd (omega arith)
  climbs_some (suc d) at (s, c) i l = let b : i ≤ d = omega arith in elim (eq-or-lt_of_le b) [
    | inl e ↦ subst (λ j. 0 < (step_at steps j).room) (sym e) s.some
    | inr m ↦ climbs_some d (step_at steps d).from c i m
  ]

  -- what is written past its end changes nothing
  climbs_set : (j : ℕ) (x : Step) (d at : ℕ) → d ≤ j → Climbs ws fs level steps source d at → Climbs ws fs level (set steps j x) source d at
  climbs_set j x zero at l c = c
  climbs_set j x (suc d) at l (s, c) =
      let e : step_at steps d ≡ step_at (set steps j x) d = sym (get_or-set_other steps j d x no_step (λ h. apart d j l h)) in
      subst (λ st. IsStep ws fs level st at × Climbs ws fs level (set steps j x) source d st.from) e (s, climbs_set j x d (step_at steps d).from (omega arith) c)
    where
      apart : (d j : ℕ) → suc d ≤ j → d ≡ j → ⊥
      apart d j l e = omega arith

  -- one link more
  pub climbs_on : (d at to : ℕ) (x : Step) → d < length steps → x.from ≡ at → IsStep ws fs level x to → Climbs ws fs level steps source d at → Climbs ws fs level (set steps d x) source (d + 1) to
  climbs_on d at to x l f s c =
      let e : x ≡ step_at (set steps d x) d = sym (get_or-set_same steps d x no_step l) in
      let k = climbs_set d x d at (omega arith) c in
      let p : Climbs ws fs level (set steps d x) source (suc d) to =
      subst (λ st. IsStep ws fs level st to × Climbs ws fs level (set steps d x) source d st.from) e (s, subst (λ v. Climbs ws fs level (set steps d x) source d v) (sym f) k) in
      let n : suc d ≡ d + 1 = omega arith in
      subst (λ n. Climbs ws fs level (set steps d x) source n to) n p

  -- one link less
  pub climbs_back : (d at : ℕ) → 0 < d → Climbs ws fs level steps source d at →
      IsStep ws fs level (step_at steps (d - 1)) at × Climbs ws fs level steps source (d - 1) (step_at steps (d - 1)).from
  climbs_back zero at l c = absurd (omega arith)
  climbs_back (suc d) at l c =
      let n : d ≡ suc d - 1 = omega arith in
      subst (λ n. IsStep ws fs level (step_at steps n) at × Climbs ws fs level steps source n (step_at steps n).from) n c

pub alive_at : (alive : List Bool) (steps : List Step) (d at : ℕ) → AllAlive alive steps d at → marked alive at ≡ true
alive_at alive steps zero at a = a
alive_at alive steps (suc d) at (m, a) = m

alive_set : (alive : List Bool) (steps : List Step) (j : ℕ) (x : Step) (d at : ℕ) → d ≤ j → AllAlive alive steps d at → AllAlive alive (set steps j x) d at
alive_set alive steps j x zero at l a = a
alive_set alive steps j x (suc d) at l (m, a) =
    let e : step_at steps d ≡ step_at (set steps j x) d = sym (get_or-set_other steps j d x no_step (λ h. apart d j l h)) in
    (m, subst (λ st. AllAlive alive (set steps j x) d st.from) e (alive_set alive steps j x d (step_at steps d).from (omega arith) a))
  where
    apart : (d j : ℕ) → suc d ≤ j → d ≡ j → ⊥
    apart d j l e = omega arith

pub alive_on : (alive : List Bool) (steps : List Step) (d at to : ℕ) (x : Step) → d < length steps → x.from ≡ at → marked alive to ≡ true → AllAlive alive steps d at → AllAlive alive (set steps d x) (d + 1) to
alive_on alive steps d at to x l f m a =
    let e : x ≡ step_at (set steps d x) d = sym (get_or-set_same steps d x no_step l) in
    let k = alive_set alive steps d x d at (omega arith) a in
    let p : AllAlive alive (set steps d x) (suc d) to = (m, subst (λ st. AllAlive alive (set steps d x) d st.from) e (subst (λ v. AllAlive alive (set steps d x) d v) (sym f) k)) in
    let n : suc d ≡ d + 1 = omega arith in
    subst (λ n. AllAlive alive (set steps d x) n to) n p

pub alive_back : (alive : List Bool) (steps : List Step) (d at : ℕ) → 0 < d → AllAlive alive steps d at → AllAlive alive steps (d - 1) (step_at steps (d - 1)).from
alive_back alive steps zero at l a = absurd (omega arith)
alive_back alive steps (suc d) at l (m, a) = let n : d ≡ suc d - 1 = omega arith in subst (λ n. AllAlive alive steps n (step_at steps n).from) n a

-- a vertex at a greater level dies
pub alive_less : (ws : List Wire) (fs : List ℤ) (level : ℕ → ℕ) (steps : List Step) (source tip : ℕ) (alive : List Bool) (d at : ℕ) → Climbs ws fs level steps source d at → d < level tip →
    AllAlive alive steps d at → AllAlive (set alive tip false) steps d at
alive_less ws fs level steps source tip alive zero at c l a = get_or-set_other alive tip at false false (λ e. apart (level at) (level tip) (climbs_level ws fs level steps source zero at c) l (ap level e)) ∙ a
  where
    apart : (x y : ℕ) → x ≡ 0 → 0 < y → x ≡ y → ⊥
    apart x y p q r = omega arith
alive_less ws fs level steps source tip alive (suc d) at (s, c) l (m, a) = (
  get_or-set_other alive tip at false false (λ e. apart (level at) (level tip) (climbs_level ws fs level steps source (suc d) at (s, c)) l (ap level e)) ∙ m,
  alive_less ws fs level steps source tip alive d (step_at steps d).from c (omega arith) a,
)
  where
    apart : (x y : ℕ) → x ≡ suc d → suc d < y → x ≡ y → ⊥
    apart x y p q r = omega arith

-- one less is alive
pub one_less : (alive : List Bool) (tip : ℕ) → tip < length alive → marked alive tip ≡ true → count_by (λ s. s) (set alive tip false) + 1 ≡ count_by (λ s. s) alive
one_less alive tip l m =
    let c = sum_by-set (λ (s : Bool). cond s 1 0) alive tip false false l in
    let f = ap (λ (s : Bool). let n : ℕ = cond s 1 0 in n) m in
    omega arith

pub marked_below : (marks : List Bool) (v : ℕ) → marked marks v ≡ true → v < length marks
marked_below [] v e = absurd (false≢true e)
marked_below (x ∷ xs) zero e = omega arith
marked_below (x ∷ xs) (suc v) e = let h = marked_below xs v e in omega arith

-- the measure of the search: how many are alive, then how far it may go on
pub falls_deeper : (n count depth : ℕ) → depth < n → count * (n + 1) + (n - (depth + 1)) < count * (n + 1) + (n - depth)
falls_deeper n count depth l = omega arith

pub falls_back : (n old new depth : ℕ) → new + 1 ≡ old → 0 < depth → depth ≤ n → new * (n + 1) + (n - (depth - 1)) < old * (n + 1) + (n - depth)
falls_back n old new depth e p l =
    let m : (new + 1) * (n + 1) ≡ new * (n + 1) + (n + 1) = grind arith in
    let q : old * (n + 1) ≡ new * (n + 1) + (n + 1) = ap (λ x. x * (n + 1)) (sym e) ∙ m in
    omega arith

-- where a link was used backwards, it came from the step's vertex
pub pushed_from : (ws : List Wire) (fs new newer : List ℤ) (k from at room width got : ℕ) → Carries ws fs k from at room → PushedOver ws new newer k at width got → got ≡ from
pushed_from ws fs new newer k from at room width got c o = elim (cases_eq (wire ws k).b at) [
  | inl b ↦ (o.to_b b).0 ∙ (c.forth b).0
  | inr d ↦ (o.to_a d).0 ∙ (c.back d).1
]

pub is_source : (sources : List ℕ) (j : ℕ) → j < length sources → has sources (get_or sources j 0) ≡ true
is_source sources j l = (has_decides sources (get_or sources j 0)).1 (j, l, any_default sources j (get_or sources j 0) 0 l)

-- after more was sent along a walk from a source
pub sent_on : (n : ℕ) (ws : List Wire) (sources : List ℕ) (sink : ℕ → Bool) (old new : List ℤ) (sent width : ℕ) (level : ℕ → ℕ) (steps : List Step) (j s d t : ℕ) →
    Flowing n ws sources sink old sent → Apart ws sources sink → EndsBelow n ws → j < length sources → (s ≡ get_or sources j 0) × Climbs ws old level steps s d t → sink t ≡ true →
    Moves ws old new width s t → AllFit ws new (sent + width) → (((i : ℕ) → i < d → 0 < (step_at steps i).room) → 0 < width) →
    Flowing n ws sources sink new (sent + width) × (sent + width ≤ weight ws (is_affinity ws)) × (0 < width)
sent_on n ws sources sink old new sent width level steps j s d t f apart ends l (e, climbs) snk mv fit some =
    let src : has sources s ≡ true = ap (has sources) e ∙ is_source sources j l in (
      flowing_on n ws sources sink old new sent width s t f mv fit src snk apart,
      flowing_below n ws sources sink old new sent width s t f mv fit src snk apart ends,
      some (climbs_some ws old level steps s d t climbs),
    )
