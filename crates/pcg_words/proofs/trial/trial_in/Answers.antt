use Rattle.std.proofs.Common.{◌≡◌, refl}
use Rattle.pcg_words.specs.Words.{trial_in}
use Rattle.pcg_words.proofs.trial.trial_in.Goals as goal

pub returns-clause-spells : goal.returns-clause-spells
unfolding trial_in
returns-clause-spells c =
    rw (
      ← c.in-Some.ensures.is,
      ← c.in-Some-grid_in.ensures.is,
      ← c.in-Some-number_in.ensures.is,
      ← c.in-Some-records_in.ensures.is,
      ← c.in-Some-clock_in.ensures.is,
      ← c.in-Some-number_in-2.ensures.is,
      ← c.in-Some-size_in.ensures.is,
      ← c.in-Some-number_in-3.ensures.is,
      ← c.in-Some-number_in-4.ensures.is,
    ) refl
