-- Examples: no clause of `run` is made of them.
-- Worked ids and texts.
use Rattle.std.specs.Prelude.{◌≡◌, ℕ, ◌^◌, ◌+◌, ◌-◌, ◌*◌, Ok, Some, None, [], codes}
use Rattle.node_ids.specs.declared.Parts.{Parts}
use Rattle.node_ids.specs.declared.PartName.TheVariants.{Y, Segment}
use Rattle.node_ids.specs.Ids.{LayoutForm, parts_of, width}
use Rattle.node_ids.specs.Packing.{packed, too_large}
use Rattle.node_ids.specs.Digits.{number_of}

abbrev pub eight_bits : ℕ → LayoutForm
eight_bits version = record { version = version; bits = 8 }

-- these parts at y and z 0
abbrev pub parts : ℕ → ℕ → ℕ → Parts
parts layer x segment = record { layer = layer; x = x; y = 0; z = 0; segment = segment }

-- where a coordinate takes eight bits
pub record WorkedIds : Type 0 where
  pub supervoxel : packed (eight_bits 1) (parts 1 0 1) ≡ Ok 72057594037927937
  pub next_chunk : packed (eight_bits 1) (parts 1 1 1) ≡ Ok 72339069014638593
  pub second_layer : packed (eight_bits 1) (parts 2 0 1) ≡ Ok 144115188075855873
  pub fifth : packed (eight_bits 1) (parts 2 1 5) ≡ Ok 144396663052566533
  pub third_layer : packed (eight_bits 1) (parts 3 0 1) ≡ Ok 216172782113783809
  pub eighth : packed (eight_bits 1) (parts 3 0 8) ≡ Ok 216172782113783816
  pub apart : parts_of (eight_bits 1) 144396663052566533 ≡ parts 2 1 5
  pub far : packed (eight_bits 1) (record { layer = 1; x = 0; y = 256; z = 256; segment = 1 }) ≡ too_large Y 256 255
  pub many : packed (eight_bits 1) (parts 1 0 4294967296) ≡ too_large Segment 4294967296 4294967295
  pub narrower : width (eight_bits 2) 4 ≡ 6
  pub roomier : packed (eight_bits 2) (parts 3 0 4294967296) ≡ Ok (3 * 2 ^ 56 + 2 ^ 32)

pub record WorkedDigits : Type 0 where
  pub least : number_of (codes "0") ≡ Some 0
  pub plain : number_of (codes "1024") ≡ Some 1024
  pub most : number_of (codes "18446744073709551615") ≡ Some (2 ^ 64 - 1)
  pub over : number_of (codes "18446744073709551616") ≡ None
  pub long : number_of (codes "000000000000000000001") ≡ None
  pub empty : number_of [] ≡ None
  pub leading : number_of (codes "01") ≡ None
  pub signed : number_of (codes "+1") ≡ None
