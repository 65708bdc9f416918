-- Inner: no clause of `run` is made of it.
-- What a search of the residual net by levels leaves.
use Rattle.std.specs.Prelude.{◌≡◌, ℕ, ◌+◌, ◌<◌, ◌≤◌, Bool, true, false, List, length, ℤ, IfSome, slice_index_or, is_some, ◌⊎◌, nat_eq, slice_set, min, cond, ◌+ℤ◌, ◌-ℤ◌, pos}
use Rattle.std.specs.List.{count_by}
use Rattle.std.specs.declared.option.Option.{Option}
use Rattle.std.specs.declared.option.Option.TheVariants.{None, Some}
use Rattle.graph_model.specs.Walks.{ReachedFrom}
use Rattle.graph_model.specs.Wires.{Wire, wire}
use Rattle.graph_model.specs.Lists.{has}
use Rattle.graph_model.specs.Flows.{amount, forth, back, Fitting}
use Rattle.graph_model.specs.Residual.{RoomForth, RoomBack, Residual}
use Rattle.min_cut.specs.Moves.{Moves}
use Rattle.min_cut.specs.declared.search.Visit.{Visit}

-- d more fit towards b, or towards a
abbrev pub CanForth : Option ℕ → ℤ → ℕ → Type 0
CanForth room z d = IfSome room (λ r. forth z + d ≤ r + back z)

abbrev pub CanBack : Option ℕ → ℤ → ℕ → Type 0
CanBack room z d = IfSome room (λ r. back z + d ≤ r + forth z)

abbrev pub visit_at : List (Option Visit) → ℕ → Option Visit
visit_at visits v = slice_index_or visits v None

-- a vertex at the level before, from which at least as much can be sent
pub record IsParent (visits : List (Option Visit)) (u : ℕ) (visit : Visit) : Type 0 where
  pub of : Visit
  pub there : visit_at visits u ≡ Some of
  pub before : of.level + 1 ≡ visit.level
  pub wide : visit.width ≤ of.width

-- what a visit of v says
pub record IsVisit (ws : List Wire) (sources : List ℕ) (fs : List ℤ) (visits : List (Option Visit)) (v : ℕ) (visit : Visit) : Type 0 where
  pub wide : 0 < visit.width
  pub narrow : visit.width ≤ 8589934592
  pub link : 0 < visit.level → visit.link < length ws
  pub first : visit.level ≡ 0 → has sources v ≡ true
  pub forth_from : 0 < visit.level → (wire ws visit.link).b ≡ v →
      IsParent visits (wire ws visit.link).a visit × CanForth (wire ws visit.link).room (amount fs visit.link) visit.width
  pub back_from : 0 < visit.level → ((wire ws visit.link).b ≡ v → ⊥) → ((wire ws visit.link).a ≡ v) ×
      IsParent visits (wire ws visit.link).b visit × CanBack (wire ws visit.link).room (amount fs visit.link) visit.width
  pub reached : ReachedFrom (Residual ws fs) sources v

-- each visit is so, and each source has one at level 0
pub record IsTree (ws : List Wire) (sources : List ℕ) (fs : List ℤ) (visits : List (Option Visit)) : Type 0 where
  pub each : (v : ℕ) (visit : Visit) → visit_at visits v ≡ Some visit → IsVisit ws sources fs visits v visit
  pub starts : (v : ℕ) → has sources v ≡ true → is_some (visit_at visits v) ≡ true

abbrev pub at_level : Option Visit → ℕ → Bool
at_level None level = false
at_level (Some visit) level = nat_eq visit.level level

-- more can be sent from u to w over link k
abbrev pub ArcOver : List Wire → List ℤ → ℕ → ℕ → ℕ → Type 0
ArcOver ws fs k u w =
    (((wire ws k).a ≡ u) × ((wire ws k).b ≡ w) × RoomForth (wire ws k).room (amount fs k))
    ⊎ (((wire ws k).b ≡ u) × ((wire ws k).a ≡ w) × RoomBack (wire ws k).room (amount fs k))

-- link k leads from `from` to `to`, and carries the room
pub record Leads (ws : List Wire) (fs : List ℤ) (k from to room : ℕ) : Type 0 where
  pub way : (((wire ws k).a ≡ from) × ((wire ws k).b ≡ to) × CanForth (wire ws k).room (amount fs k) room × (0 < room → RoomForth (wire ws k).room (amount fs k)))
      ⊎ (((wire ws k).b ≡ from) × ((wire ws k).a ≡ to) × CanBack (wire ws k).room (amount fs k) room × (0 < room → RoomBack (wire ws k).room (amount fs k)))
  pub below : k < length ws
  pub narrow : room ≤ 8589934592

-- what link k leads to from the vertices of the level is visited
abbrev pub ClosedOver : List Wire → List ℤ → List (Option Visit) → ℕ → ℕ → Type 0
ClosedOver ws fs visits level k =
    (u w : ℕ) → ArcOver ws fs k u w → at_level (visit_at visits u) level ≡ true → is_some (visit_at visits w) ≡ true

-- how many vertices are visited
abbrev pub visited : List (Option Visit) → ℕ
visited visits = count_by (λ v. is_some v) visits

-- a vertex was visited over link k from a vertex of the level
pub record Took (old new : List (Option Visit)) (level k from to room : ℕ) : Type 0 where
  pub of : Visit
  pub there : visit_at old from ≡ Some of
  pub at : of.level ≡ level
  pub fresh : visit_at old to ≡ None
  pub some : 0 < room
  pub set : new ≡ slice_set old to (Some (record { level = level + 1; link = k; width = min of.width room }))

-- none was, since there was none to visit
pub record TookNone (old new : List (Option Visit)) (level from to room : ℕ) : Type 0 where
  pub same : new ≡ old
  pub why : 0 < room → at_level (visit_at old from) level ≡ true → is_some (visit_at old to) ≡ true

-- visits at one level more
pub record Grew (ws : List Wire) (fs : List ℤ) (old new : List (Option Visit)) (level : ℕ) : Type 0 where
  pub kept : (u : ℕ) (visit : Visit) → visit_at old u ≡ Some visit → visit_at new u ≡ Some visit
  pub fresh : (u : ℕ) (visit : Visit) → visit_at new u ≡ Some visit → (visit_at old u ≡ Some visit) ⊎ (visit.level ≡ level + 1)
  pub tree : (sources : List ℕ) → IsTree ws sources fs old → IsTree ws sources fs new
  pub more : visited old ≤ visited new

abbrev pub level_in : Option Visit → ℕ
level_in None = 0
level_in (Some visit) = visit.level

abbrev pub level_of : List (Option Visit) → ℕ → ℕ
level_of visits v = level_in (visit_at visits v)

-- the link that a visit came by, at a level above 0
abbrev pub parent_in : Option Visit → Option ℕ
parent_in None = None
parent_in (Some visit) = cond (nat_eq visit.level 0) None (Some visit.link)

-- v is visited, and at least `width` more can be sent to it
abbrev pub HasWidth : List (Option Visit) → ℕ → ℕ → Type 0
HasWidth visits width v = (visit : Visit) × (visit_at visits v ≡ Some visit) × (width ≤ visit.width)

-- all amounts fit, and are small
pub record AllFit (ws : List Wire) (fs : List ℤ) (bound : ℕ) : Type 0 where
  pub fits : (k : ℕ) → k < length ws → Fitting (wire ws k).room (amount fs k)
  pub small : (k : ℕ) → k < length ws → (forth (amount fs k) ≤ bound) × (back (amount fs k) ≤ bound)

-- at least `room` more can be sent over link k from one vertex to another
pub record Carries (ws : List Wire) (fs : List ℤ) (k from to room : ℕ) : Type 0 where
  pub below : k < length ws
  pub forth : (wire ws k).b ≡ to → ((wire ws k).a ≡ from) × CanForth (wire ws k).room (amount fs k) room
  pub back : ((wire ws k).b ≡ to → ⊥) → ((wire ws k).a ≡ to) × ((wire ws k).b ≡ from) × CanBack (wire ws k).room (amount fs k) room

-- on the way back along a walk to a sink: `width` was sent on from the vertex `at`, over links that have an end at a
-- greater level
pub record Pushed (ws : List Wire) (level : ℕ → ℕ) (old new : List ℤ) (width bound at sink : ℕ) : Type 0 where
  pub moves : Moves ws old new width at sink
  pub untouched : (k : ℕ) → k < length ws → level (wire ws k).a ≤ level at → level (wire ws k).b ≤ level at → amount new k ≡ amount old k
  pub fits : AllFit ws new (bound + width)

-- width more goes over link k towards `at`, from the other end
pub record PushedOver (ws : List Wire) (old new : List ℤ) (k at width from : ℕ) : Type 0 where
  pub len : length new ≡ length old
  pub to_b : (wire ws k).b ≡ at → (from ≡ (wire ws k).a) × (new ≡ slice_set old k (amount old k +ℤ pos width))
  pub to_a : ((wire ws k).b ≡ at → ⊥) → (from ≡ (wire ws k).b) × (new ≡ slice_set old k (amount old k -ℤ pos width))

abbrev pub EachFits : List Wire → List ℤ → Type 0
EachFits ws fs = (k : ℕ) → k < length ws → Fitting (wire ws k).room (amount fs k)

-- what more can be sent to from a visited vertex is visited
abbrev pub IsClosed : List Wire → List ℤ → List (Option Visit) → Type 0
IsClosed ws fs visits =
    (u w : ℕ) → Residual ws fs u w → is_some (visit_at visits u) ≡ true → is_some (visit_at visits w) ≡ true
