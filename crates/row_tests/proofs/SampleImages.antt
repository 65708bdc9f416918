-- The words of each sample are the image of its log.
use Rattle.std.proofs.Common.{◌≡◌, ℕ, ◌<◌, ◌≤◌, ltb, leb, true, List, [], ◌∷◌, refl, arith}
use Rattle.std.proofs.lemmas.Bool.{leb-true, ltb-true}
use Rattle.op_model.specs.declared.request.Edit.TheVariants.{Undo, Redo, Split}
use Rattle.op_model.specs.Valid.{IsDataset, IsBase}
use Rattle.op_model.specs.Samples.{p, q, r, s, join, base, data_a, halved, ingested, regained}
use Rattle.op_model.proofs.Opened.{definitions}
use Rattle.row_tests.specs.Samples.{words_halved, words_ingested, words_regained}
use Rattle.record_rows.specs.Readings.{Image}
use Rattle.record_rows.proofs.Opened.{row_definitions}

at_most : (m n : ℕ) → leb m n ≡ true → m ≤ n
at_most m n e = leb-true m n e

below : (m n : ℕ) → ltb m n ≡ true → m < n
below m n e = ltb-true m n e

sample_dataset : IsDataset data_a
sample_dataset = record {
  layout = (omega arith, omega arith, omega arith, omega arith);
  x = (omega arith, omega arith, omega arith);
  y = (omega arith, omega arith, omega arith);
  z = (omega arith, omega arith, omega arith);
  merge_affinity = (omega arith, omega arith);
  capacity = (omega arith, omega arith);
}

sample_base : IsBase data_a base
unfolding definitions
sample_base = record {
  ascending = (below p q refl, (below q r refl, (below r s refl, tt)));
  supervoxels = ((refl, below _ _ refl, below _ _ refl, below _ _ refl, at_most _ _ refl), ((refl, below _ _ refl, below _ _ refl, below _ _ refl, at_most _ _ refl), ((refl, below _ _ refl, below _ _ refl, below _ _ refl, at_most _ _ refl), ((refl, below _ _ refl, below _ _ refl, below _ _ refl, at_most _ _ refl), tt))));
  edges = ((below _ _ refl, refl, refl, (at_most _ _ refl, below _ _ refl)), ((below _ _ refl, refl, refl, (at_most _ _ refl, below _ _ refl)), ((below _ _ refl, refl, refl, (at_most _ _ refl, below _ _ refl)), tt)));
  once = (refl, (refl, (refl, tt)));
}

pub regained_image : Image data_a base regained words_regained
unfolding definitions row_definitions
regained_image = record {
  dataset = sample_dataset;
  base = sample_base;
  legal = ((Undo 1, refl, refl, below _ _ refl, below _ _ refl), ((Redo 1, refl, refl, below _ _ refl, below _ _ refl), ((join p s, refl, refl, below _ _ refl, below _ _ refl), ((Undo 1, refl, refl, below _ _ refl, below _ _ refl), ((join r s, refl, refl, below _ _ refl, below _ _ refl), (refl, below _ _ refl, ((below _ _ refl, (below _ _ refl, (below _ _ refl, (below _ _ refl, tt)))), ((below _ _ refl, (below _ _ refl, (below _ _ refl, (below _ _ refl, tt)))), tt))))))));
  numbers = ((below _ _ refl, below _ _ refl), ((below _ _ refl, below _ _ refl), ((below _ _ refl, below _ _ refl), ((below _ _ refl, below _ _ refl), ((below _ _ refl, below _ _ refl), ((below _ _ refl, below _ _ refl), tt))))));
  fits = at_most _ _ refl;
  stands = refl;
}

pub ingested_image : Image data_a base ingested words_ingested
unfolding definitions row_definitions
ingested_image = record {
  dataset = sample_dataset;
  base = sample_base;
  legal = (refl, below _ _ refl, ((below _ _ refl, (below _ _ refl, (below _ _ refl, (below _ _ refl, tt)))), ((below _ _ refl, (below _ _ refl, (below _ _ refl, (below _ _ refl, tt)))), tt)));
  numbers = ((below _ _ refl, below _ _ refl), tt);
  fits = at_most _ _ refl;
  stands = refl;
}

pub halved_image : Image data_a base halved words_halved
unfolding definitions row_definitions
halved_image = record {
  dataset = sample_dataset;
  base = sample_base;
  legal = ((Split (p ∷ []) (s ∷ []), refl, refl, below _ _ refl, below _ _ refl), ((join r s, refl, refl, below _ _ refl, below _ _ refl), ingested_image.legal));
  numbers = ((below _ _ refl, below _ _ refl), ((below _ _ refl, below _ _ refl), ((below _ _ refl, below _ _ refl), tt)));
  fits = at_most _ _ refl;
  stands = refl;
}
