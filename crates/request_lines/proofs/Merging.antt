-- A merge of other than one pair lists its pairs.
use Rattle.std.proofs.Common.{◌≡◌, ◌==◌, false, arith, List, [], ◌∷◌, ◌++◌, map, codes, length, refl}
use Rattle.op_model.specs.declared.request.AskedPair.{AskedPair}
use Rattle.request_lines.specs.Json.{array}
use Rattle.request_lines.specs.Items.{asked_pair_text}
use Rattle.request_lines.specs.Texts.{merge_text}

pub merge_listed : (ps : List AskedPair) → (length ps == 1) ≡ false → merge_text ps ≡ codes "{\"do\":\"merge\",\"pairs\":" ++ (array (map asked_pair_text ps) ++ codes "}")
unfolding merge_text
merge_listed [] h = refl
merge_listed (p ∷ []) h = absurd (grind (arith, h))
merge_listed (p ∷ q ∷ ps) h = refl
