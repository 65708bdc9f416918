-- Examples: no clause of `run` is made of them.
-- A worked example: four chunks in a row with a supervoxel each, the first three joined, then a merge of the last two.
use Rattle.std.specs.Prelude.{◌≡◌, ℕ, true, false, List, [], ◌∷◌}
use Rattle.op_model.specs.declared.base.Dataset.{Dataset}
use Rattle.op_model.specs.declared.base.Base.{Base}
use Rattle.op_model.specs.declared.entry.Changed.{Changed}
use Rattle.op_model.specs.declared.entry.Entry.{Entry}
use Rattle.op_model.specs.Chunks.{chunk}
use Rattle.op_model.specs.Labels.{touches, label}
use Rattle.op_model.specs.Samples.{edge, join}
use Rattle.op_model.specs.Operations.{first_entry, next_entry}
use Rattle.layer_laws.specs.Levels.{level, chunk_above, leaves, leaving, meets}
use Rattle.components.specs.Joining.{meet}
use Rattle.layer_laws.specs.Building.{least_leaf}
use Rattle.layer_laws.specs.Remaking.{found_in}

abbrev pub p : ℕ
p = 72057594037927937

abbrev pub q : ℕ
q = 72339069014638593

abbrev pub r : ℕ
r = 72620543991349249

abbrev pub s : ℕ
s = 72902018968059905

abbrev pub base : Base
base = record { supervoxels = p ∷ q ∷ r ∷ s ∷ []; edges = edge p q 10 true ∷ edge q r 7 true ∷ edge r s 5 false ∷ [] }

abbrev pub given : Dataset
given = record { layout = record { version = 2; bits = 8 }; grid = record { x = 4; y = 1; z = 1 }; merge_affinity = 1; capacity = 1048576 }

abbrev pub before : List Entry
before = first_entry given base 1000 ∷ []

abbrev pub after : List Entry
after = next_entry given base before 1 1 1010 (join r s) ∷ before

abbrev pub merged : List Changed
merged = record { pair = record { a = r; b = s }; active = true } ∷ []

pub record WorkedLayers : Type 0 where
  pub level_self : level given p p ≡ 2
  pub level_near : level given p q ≡ 3
  pub level_far : level given q r ≡ 4
  pub level_last : level given s r ≡ 3
  pub above : chunk_above given 3 (chunk given 3 r) ≡ chunk given 4 r
  pub leaves_two : leaves given base before 2 p ≡ p ∷ []
  pub leaves_three : leaves given base before 3 q ≡ p ∷ q ∷ []
  pub leaves_four : leaves given base before 4 q ≡ p ∷ q ∷ r ∷ []
  pub leaves_merged : leaves given base after 4 q ≡ p ∷ q ∷ r ∷ s ∷ []
  pub leaving_two : leaving given base before 2 q ≡ edge p q 10 true ∷ edge q r 7 true ∷ []
  pub leaving_three : leaving given base before 3 p ≡ edge q r 7 true ∷ []
  pub leaving_four : leaving given base before 4 p ≡ []
  pub meets_far : meets given base before 4 q r ≡ true
  pub meets_near : meets given base before 4 p q ≡ false
  pub stays : touches merged (leaves given base after 3 p) ≡ false
  pub changes : touches merged (leaves given base after 4 p) ≡ true
  pub old_number : label given base after 3 p ≡ 1
  pub new_number : label given base after 3 s ≡ 3
  pub new_root : label given base after 4 p ≡ 3
  pub least : least_leaf given base after 3 s ≡ r
  pub found : found_in given base after 4 (p ∷ r ∷ []) ≡ p ∷ q ∷ r ∷ s ∷ []
  pub either_way : meet ((0, 1) ∷ []) 1 0 ≡ true
